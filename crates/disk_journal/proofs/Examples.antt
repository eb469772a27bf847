-- Worked examples of what the bytes of a journal mean, and of what a crash leaves of a file in memory.
use Rattle.std.proofs.Common.{◌≡◌, inl, ℕ, List, [], ◌∷◌, ◌++◌, refl, arith}
use Rattle.disk_journal.specs.Journal.{header, framed, fresh, IsJournal, IsRefused}
use Rattle.disk_journal.specs.Memory.{FileState, left_by, written_at, cut_to, flushed}

-- the body of a begun lease of cell 1, which creates the organization `acme`
abbrev entry : List ℕ
entry = 1 ∷ 0 ∷ 1 ∷ 0 ∷ 0 ∷ 0 ∷ 1 ∷ 128 ∷ 0 ∷ 128 ∷ 0 ∷ 0 ∷ 0 ∷ 0 ∷ 0 ∷ 0 ∷ 1 ∷ 1 ∷ 1 ∷ 4 ∷ 97 ∷ 99 ∷ 109 ∷ 101 ∷ 1 ∷ 0 ∷ 0 ∷ 0 ∷ 0 ∷ 0 ∷ 0 ∷ 0 ∷ 1 ∷ 1 ∷ 0 ∷ 0 ∷ 0 ∷ 0 ∷ 0 ∷ 0 ∷ 0 ∷ 1 ∷ 0 ∷ []

-- a journal with it: the header, an open gate, the length 43, the body, a closed gate
abbrev journal : List ℕ
journal = 99 ∷ 101 ∷ 108 ∷ 108 ∷ 115 ∷ 45 ∷ 106 ∷ 111 ∷ 117 ∷ 114 ∷ 110 ∷ 97 ∷ 108 ∷ 45 ∷ 48 ∷ 49 ∷ 1 ∷ 0 ∷ 0 ∷ 0 ∷ 43 ∷ (entry ++ 0 ∷ [])

pub one_body : IsJournal journal (entry ∷ [])
one_body = (1 ∷ framed entry, [], (1, [], omega arith, (omega arith, omega arith), refl, refl), refl)

-- behind a closed gate nothing counts
pub no_body : IsJournal (fresh ++ 1 ∷ 2 ∷ 3 ∷ []) []
no_body = ([], 1 ∷ 2 ∷ 3 ∷ [], refl, refl)

-- a gate other than 0 and 1 is open too
pub torn_gate : IsJournal (header ++ 7 ∷ 0 ∷ 0 ∷ 0 ∷ 1 ∷ 97 ∷ 0 ∷ []) ((97 ∷ []) ∷ [])
torn_gate = (7 ∷ framed (97 ∷ []), [], (7, [], omega arith, (omega arith, omega arith), refl, refl), refl)

-- the header alone is no journal
pub header_alone : IsRefused header 0
header_alone = inl (refl, inl (omega arith))

-- three bytes on the disk, of which the second is written over, and one more
abbrev file : FileState
file = written_at 3 (4 ∷ []) (written_at 1 (9 ∷ []) (flushed (record { number = 0; seen = 1 ∷ 2 ∷ 3 ∷ []; synced = []; written = []; low = 0; room = 8 })))

pub as_synced : left_by 0 file ≡ 1 ∷ 2 ∷ 3 ∷ 0 ∷ []
as_synced = refl

pub torn_by_7 : left_by 7 file ≡ 1 ∷ 7 ∷ 3 ∷ 7 ∷ []
torn_by_7 = refl

pub torn_by_263 : left_by 263 file ≡ 1 ∷ 7 ∷ 3 ∷ 7 ∷ []
torn_by_263 = refl

-- a cut stands with every pick, and what is written behind it stands past the end
pub cut_stands : left_by 0 (written_at 2 (5 ∷ []) (cut_to 2 file)) ≡ 1 ∷ 2 ∷ 0 ∷ []
cut_stands = refl
