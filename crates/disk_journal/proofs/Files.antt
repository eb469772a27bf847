-- What a write makes of a file in memory.
use Rattle.std.proofs.Common.{◌≡◌, inl, inr, Bool, true, false, ℕ, ◌+◌, ◌-◌, ◌≤◌, max, List, length, take, get_or, replicate, sym, ◌∙◌, ap, subst, arith, length-take, Vec, vec_len}
use Rattle.std.proofs.lemmas.List.{length-replicate, get_or-replicate}
use Rattle.disk_journal.specs.Memory.{FileState, IsConsistent, overlaid, written_at}
use Rattle.std.specs.declared.alloc.Global.{Global}
use Rattle.disk_journal.specs.declared.memory_file.MemoryFile.TheInside.{Inside}
use Rattle.disk_journal.specs.Inside.{state, IsKept}
use Rattle.disk_journal.proofs.Overlaid.{length-overlaid, overlaid_before, overlaid_within, overlaid_behind, three_parts, take_overlaid}

pub consistent_write : (s : FileState) (at : ℕ) (bytes : List ℕ) → IsConsistent s → at ≤ length s.seen → at + length bytes ≤ s.room → IsConsistent (written_at at bytes s)
consistent_write s at bytes is le fits =
    let n = length bytes in
    let marks = replicate n true in
    let le_written : at ≤ length s.written = omega (arith, is.most) in
    let long_marks : length marks ≡ n = length-replicate n true in
    let long_seen = length-overlaid at bytes s.seen le in
    let long_written = length-overlaid at marks s.written le_written in
    record {
      least = omega (arith, is.least);
      most = omega (arith, is.most);
      within = omega (arith, is.within);
      low_synced = is.low_synced;
      kept = λ k lt unwritten. elim (three_parts at n k) [
        | inl before ↦ overlaid_before at bytes s.seen le k 0 before ∙ is.kept k (omega arith) (sym (overlaid_before at marks s.written le_written k false before) ∙ unwritten)
        | inr (inl within) ↦ let marked : get_or (overlaid at marks s.written) k false ≡ true = overlaid_within at marks s.written le_written k false within.0 (omega arith) ∙ get_or-replicate n (k - at) true false (omega arith) in
            let contradiction : true ≡ false = sym marked ∙ unwritten in absurd cc
        | inr (inr behind) ↦ overlaid_behind at bytes s.seen le k 0 behind ∙ is.kept k (omega arith) (sym (overlaid_behind at marks s.written le_written k false (omega arith)) ∙ unwritten)
      ];
      grown = λ k ge lt. elim (three_parts at n k) [
        | inl before ↦ overlaid_before at marks s.written le_written k false before ∙ is.grown k ge (omega arith)
        | inr (inl within) ↦ overlaid_within at marks s.written le_written k false within.0 (omega arith) ∙ get_or-replicate n (k - at) true false (omega arith)
        | inr (inr behind) ↦ overlaid_behind at marks s.written le_written k false (omega arith) ∙ is.grown k ge (omega arith)
      ];
    }

-- two files that agree in what a write changes
pub same_state : (number low : ℕ) (synced seen seen2 : List ℕ) (written written2 : List Bool) (room room2 : ℕ) → seen ≡ seen2 → written ≡ written2 → room ≡ room2
    → ◌≡◌ {A = FileState} (record { number = number; seen = seen; synced = synced; written = written; low = low; room = room }) (record { number = number; seen = seen2; synced = synced; written = written2; low = low; room = room2 })
same_state number low synced seen seen2 written written2 room room2 a b c = cc

-- the fields after a write stand for the state after it
module _ (f : Inside) (kept : IsKept f) (at : ℕ) (bytes : List ℕ) (le : at ≤ length (state f).seen) (fits : at + length bytes ≤ vec_len f.bytes)
    (bytes2 : Vec ℕ Global) (written2 : Vec Bool Global) (size2 high2 : ℕ)
    (put : bytes2.items ≡ overlaid at bytes f.bytes.items) (put_len : vec_len bytes2 ≡ vec_len f.bytes)
    (mark : written2.items ≡ overlaid at (replicate (length bytes) true) f.written.items) (mark_len : vec_len written2 ≡ vec_len f.written)
    (size_is : size2 ≡ max f.size (at + length bytes)) (high_is : high2 ≡ max f.high (at + length bytes)) where
  abbrev after_write : Inside
  after_write = record { number = f.number; bytes = bytes2; synced = f.synced; written = written2; size = size2; synced_size = f.synced_size; low = f.low; high = high2 }

  size_le : f.size ≤ length f.bytes.items
  size_le = omega (arith, kept.size_within, f.bytes.ok.0)

  high_le : f.high ≤ length f.written.items
  high_le = omega (arith, kept.high_within, kept.same_written, f.written.ok.0)

  at_le : at ≤ f.size
  at_le = omega (arith, le, length-take f.size f.bytes.items, size_le)

  at_high : at ≤ f.high
  at_high = omega (arith, kept.consistent.most, le, length-take f.high f.written.items)

  seen_is : take size2 bytes2.items ≡ overlaid at bytes (take f.size f.bytes.items)
  seen_is = ap (take size2) put ∙ take_overlaid at bytes f.bytes.items f.size size2 at_le size_le (omega (arith, fits, f.bytes.ok.0)) size_is

  written_is : take high2 written2.items ≡ overlaid at (replicate (length bytes) true) (take f.high f.written.items)
  written_is =
      let long = length-replicate (length bytes) true in
      ap (take high2) mark ∙ take_overlaid at (replicate (length bytes) true) f.written.items f.high high2 at_high high_le (omega (arith, fits, kept.same_written, f.written.ok.0)) (omega (arith, high_is))

  pub state_written : state after_write ≡ written_at at bytes (state f)
  state_written = same_state f.number f.low (take f.synced_size f.synced.items) _ _ _ _ _ _ seen_is written_is put_len

  pub kept_written : IsKept after_write
  kept_written = record {
    same_synced = kept.same_synced ∙ sym put_len;
    same_written = mark_len ∙ kept.same_written ∙ sym put_len;
    size_within = omega (arith, size_is, put_len, fits, kept.size_within);
    synced_within = omega (arith, put_len, kept.synced_within);
    high_within = omega (arith, high_is, put_len, fits, kept.high_within);
    consistent = subst IsConsistent (sym state_written) (consistent_write (state f) at bytes kept.consistent le fits);
  }
