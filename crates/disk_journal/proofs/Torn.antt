-- The bytes that a crash leaves where it tears what was written.
use Rattle.std.proofs.Common.{◌≡◌, ◌≢◌, Bool, false, cond, if◌then◌else◌, ℕ, zero, suc, ◌+◌, ◌≤◌, ◌<◌, List, [], ◌∷◌, ◌++◌, length, get_or, take, drop, refl, sym, ◌∙◌, ap, subst, arith, append_assoc, Vec, vec_len, ◌==◌, ◌%◌, ◌-◌, replicate}
use Rattle.std.proofs.lemmas.List.{drop_more, take-take, take_at}
use Rattle.std.proofs.lemmas.Bool.Decides.{nat_tests}
use Rattle.std.specs.declared.alloc.Global.{Global}
use Rattle.disk_journal.specs.declared.memory_file.MemoryFile.TheInside.{Inside}
use Rattle.disk_journal.specs.Inside.{state, IsKept}
use Rattle.disk_journal.proofs.Files.{same_state}
use Rattle.disk_journal.specs.Memory.{FileState, IsConsistent, IsLeft, torn, left_by, with_seen}

pub length-torn : (byte : ℕ) (written : List Bool) (bytes : List ℕ) → length (torn byte written bytes) ≡ length bytes
length-torn byte written [] = refl
length-torn byte [] (b ∷ bytes) = refl
length-torn byte (w ∷ written) (b ∷ bytes) = ap suc (length-torn byte written bytes)

-- a byte that was not written stays
pub torn_kept : (byte : ℕ) (written : List Bool) (bytes : List ℕ) (k d : ℕ) → get_or written k false ≡ false → get_or (torn byte written bytes) k d ≡ get_or bytes k d
torn_kept byte written [] k d not_written = refl
torn_kept byte [] (b ∷ bytes) k d not_written = refl
torn_kept byte (w ∷ written) (b ∷ bytes) zero d not_written = ap (λ v. cond v byte b) not_written
torn_kept byte (w ∷ written) (b ∷ bytes) (suc k) d not_written = torn_kept byte written bytes k d not_written

-- one place more in the loop
module _ (byte i : ℕ) (written : List Bool) (bytes next all : List ℕ) (lt : i < length bytes) (within : i < length written)
    (so_far : take i bytes ++ torn byte (drop i written) (drop i bytes) ≡ all) (w : Bool) (is : get_or written i false ≡ w)
    (front : take (i + 1) next ≡ take i bytes ++ (if w then byte else get_or bytes i 0) ∷ []) (back : drop (i + 1) next ≡ drop (i + 1) bytes) where
  pub torn_more : take (i + 1) next ++ torn byte (drop (i + 1) written) (drop (i + 1) next) ≡ all
  torn_more =
      ap (λ l. l ++ torn byte (drop (i + 1) written) (drop (i + 1) next)) front
      ∙ append_assoc (take i bytes) ((if w then byte else get_or bytes i 0) ∷ []) (torn byte (drop (i + 1) written) (drop (i + 1) next))
      ∙ ap (λ l. take i bytes ++ (if w then byte else get_or bytes i 0) ∷ torn byte (drop (i + 1) written) l) back
      ∙ ap (λ v. take i bytes ++ (if v then byte else get_or bytes i 0) ∷ torn byte (drop (i + 1) written) (drop (i + 1) bytes)) (sym is)
      ∙ sym (ap (λ ws. take i bytes ++ torn byte ws (drop i bytes)) (drop_more written i false within) ∙ ap (λ l. take i bytes ++ torn byte (get_or written i false ∷ drop (i + 1) written) l) (drop_more bytes i 0 lt))
      ∙ so_far

-- what is torn is as consistent as what was there, and a crash may leave it
pub consistent_torn : (byte : ℕ) (s : FileState) → IsConsistent s → IsConsistent (with_seen (torn byte s.written s.seen) s)
consistent_torn byte s is =
    let long = length-torn byte s.written s.seen in
    record {
      least = omega (arith, long, is.least);
      most = omega (arith, long, is.most);
      within = is.within;
      low_synced = is.low_synced;
      kept = λ k lt unwritten. torn_kept byte s.written s.seen k 0 unwritten ∙ is.kept k (omega (arith, long, lt)) unwritten;
      grown = λ k ge lt. is.grown k ge (omega (arith, long, lt));
    }

pub left_torn : (byte : ℕ) (s : FileState) → IsConsistent s → IsLeft s (torn byte s.written s.seen)
left_torn byte s is =
    let after = consistent_torn byte s is in
    record { least = after.least; most = after.most; kept = after.kept }

pub front_is : (size len : ℕ) (items given : List ℕ) → length given ≡ size → size ≤ len → take size (take len (given ++ drop (length given) items)) ≡ given
front_is size len items given long le = take-take size len (given ++ drop (length given) items) le ∙ take_at given (drop (length given) items) size long

-- the fields after the present bytes were torn
module _ (f : Inside) (kept : IsKept f) (byte : ℕ) (bytes2 : Vec ℕ Global)
    (tear : take f.size bytes2.items ≡ torn byte (take f.high f.written.items) (take f.size f.bytes.items)) (len : vec_len bytes2 ≡ vec_len f.bytes) where
  abbrev after_tear : Inside
  after_tear = record { number = f.number; bytes = bytes2; synced = f.synced; written = f.written; size = f.size; synced_size = f.synced_size; low = f.low; high = f.high }

  state_torn : state after_tear ≡ with_seen (torn byte (state f).written (state f).seen) (state f)
  state_torn = same_state f.number f.low (take f.synced_size f.synced.items) _ _ _ _ _ _ tear refl len

  pub kept_torn : IsKept after_tear
  kept_torn = record {
    same_synced = kept.same_synced ∙ sym len;
    same_written = kept.same_written ∙ sym len;
    size_within = omega (arith, len, kept.size_within);
    synced_within = omega (arith, len, kept.synced_within);
    high_within = omega (arith, len, kept.high_within);
    consistent = subst IsConsistent (sym state_torn) (consistent_torn byte (state f) kept.consistent);
  }

pub left_by_torn : (pick : ℕ) (s : FileState) → pick ≢ 0 → IsConsistent s → IsLeft s (left_by pick s)
left_by_torn pick s some is =
    let other : (pick == 0) ≡ false = grind (arith, nat_tests) in
    let P : Bool → Type 0 = λ b. IsLeft s (if b then take s.low s.synced ++ replicate (length s.seen - s.low) 0 else torn (pick % 256) s.written s.seen) in
    subst P (sym other) (left_torn (pick % 256) s is)
