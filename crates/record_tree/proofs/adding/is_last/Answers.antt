use Rattle.std.specs.Prelude.{IsTrue}
use Rattle.std.proofs.Common.{◌≡◌, ◌<◌, ◌≤◌, ℕ, [], refl, Bool, true, false, rules, nat_eq, nat_lt, length, arith}
use Rattle.std.proofs.lemmas.Fn.{always_returns_same}
use Rattle.std.proofs.lemmas.Bool.Decides.{nat_tests}
use Rattle.claim_types.specs.declared.record.Record.{Record}
use Rattle.claim_types.specs.declared.record.Kind.TheVariants.{Organization}
use Rattle.record_tree.proofs.Rising.{rising_records, partitioned}
use Rattle.record_tree.proofs.Added.{ends_behind, stops_before}
use Rattle.record_tree.proofs.adding.is_last.Goals as goal

at_end : (a n : ℕ) → a ≤ n → (a < n → ⊥) → IsTrue (nat_eq a n)
at_end a n le never = go (nat_lt a n) refl
  where
    go : (b : Bool) → nat_lt a n ≡ b → IsTrue (nat_eq a n)
    go true h = absurd (never (grind (arith, nat_tests, h)))
    go false h = grind (arith, nat_tests, h, le)

pub returns : goal.returns
returns c =
    let id = c.args.id in
    let rs = c.args.records.now in
    let at = c.partition_point-at.result in
    let point = c.partition_point-at.ensures.partitioned (λ (r : Record). nat_lt r.id id) (always_returns_same _ _ _ (λ a r g called. search rules)) (partitioned (λ (r : Record). r.id) 0 rs id (rising_records 0 rs c.requires)) in
    let bound = c.partition_point-at.ensures.bound in (
      λ h. let all : at ≡ length rs = grind (arith, nat_tests, h) in ends_behind rs id at point all,
      λ below. at_end at (length rs) bound (λ lt. stops_before rs id at point (record { id = 0; kind = Organization; parent = 0; name = [] }) lt below),
    )
