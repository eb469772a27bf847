-- What asking for a change comes to.
use Rattle.std.proofs.Common.{◌≡◌, ℕ, ◌<◌, ◌≤◌, ◌+◌, true, false, nat_lt, cond, Option, Some, None, Ok, Err, length, refl, sym, ◌∙◌, ap, arith}
use Rattle.std.specs.FinMap as map
use Rattle.std.proofs.lemmas.Bool.Decides.{nat_tests}
use Rattle.std.proofs.lemmas.List.{length-map}
use Rattle.claim_types.specs.Order.{lease_cmp}
use Rattle.claim_types.specs.declared.limits.TheConstants.{ATTEMPTS_AND_ROWS}
use Rattle.claim_types.specs.declared.lease.LeaseId.{LeaseId}
use Rattle.claim_types.specs.declared.operations.Operations.{Operations}
use Rattle.claim_types.specs.declared.record.Change.{Change}
use Rattle.claim_types.specs.declared.rule.Attempt.{Attempt}
use Rattle.claim_types.specs.declared.rule.Rule.{Rule}
use Rattle.claim_types.specs.declared.rule.Rule.TheVariants.{TooManyRows}
use Rattle.claim_map.specs.Claims.{operations_of}
use Rattle.claim_map.specs.Rules.{rule_of}
use Rattle.claim_map.specs.State.{Tree}
use Rattle.cells_base.specs.Options.{◌or_else◌}
use Rattle.claim_laws.specs.Nodes.{Agent, ask_change, asked_unless, attempts_and_rows, too_many_rows, next_lease, with_attempt, attempt_of}
use Rattle.record_tree.specs.Answer.{or_operations}

-- operations come where no rule speaks against the change
pub no_rule : (rule : Option Rule) (ops given : Operations) → or_operations rule ops ≡ Ok given → (rule ≡ None) × (ops ≡ given)
no_rule None ops given is = (refl, cc)
no_rule (Some rule) ops given is = absurd cc

-- a rule comes where it is the first that does
pub some_rule : (rule : Option Rule) (ops : Operations) (given : Rule) → or_operations rule ops ≡ Err given → rule ≡ Some given
some_rule None ops given is = absurd cc
some_rule (Some rule) ops given is = cc

module _ (cell : ℕ) (tree : Tree) (a : Agent) (change : Change) (now : ℕ) (free : rule_of tree change a.known ≡ None) where
  by_room : (rule : Option Rule) → too_many_rows a ≡ rule → ask_change cell tree a change now ≡ asked_unless rule cell tree a change now
  by_room rule is = ap (λ o. asked_unless (o or_else too_many_rows a) cell tree a change now) free ∙ ap (λ o. asked_unless o cell tree a change now) is

  full : ATTEMPTS_AND_ROWS ≤ attempts_and_rows a → too_many_rows a ≡ Some (TooManyRows (attempts_and_rows a))
  full many = ap (λ b. cond b None (Some (TooManyRows (attempts_and_rows a)))) (let tested : nat_lt (attempts_and_rows a) ATTEMPTS_AND_ROWS ≡ false = grind (arith, nat_tests, many) in tested)

  roomy : attempts_and_rows a < ATTEMPTS_AND_ROWS → too_many_rows a ≡ None
  roomy few = ap (λ b. cond b None (Some (TooManyRows (attempts_and_rows a)))) (let tested : nat_lt (attempts_and_rows a) ATTEMPTS_AND_ROWS ≡ true = grind (arith, nat_tests, few) in tested)

  -- there are as many attempts and rows as may be
  pub refused_when_full : ATTEMPTS_AND_ROWS ≤ attempts_and_rows a → ask_change cell tree a change now ≡ Err (TooManyRows (attempts_and_rows a))
  refused_when_full many = by_room (Some (TooManyRows (attempts_and_rows a))) (full many)

  -- there is room
  pub asked_with_room : attempts_and_rows a < ATTEMPTS_AND_ROWS → ask_change cell tree a change now ≡ Ok (record {
    agent = with_attempt a (next_lease cell a) (attempt_of tree a change now);
    lease = next_lease cell a;
    ops = operations_of tree change a.known;
  })
  asked_with_room few = by_room None (roomy few)

  -- what is kept then
  pub drawn_is : (lease : LeaseId) (attempt : Attempt) (p : map.FinMap lease_cmp Attempt) → lease ≡ next_lease cell a → attempt ≡ attempt_of tree a change now → p ≡ map.insert a.pending lease attempt →
      record a { drawn = a.drawn + 1; pending = p } ≡ with_attempt a (next_lease cell a) (attempt_of tree a change now)
  drawn_is lease attempt p named made put =
      ap (λ (x : map.FinMap lease_cmp Attempt). record a { drawn = a.drawn + 1; pending = x })
      (put ∙ ap (λ (l : LeaseId). map.insert a.pending l attempt) named ∙ ap (map.insert a.pending (next_lease cell a)) made)

-- a map has as many keys as entries
pub length-keys : {V : Type 0} (m : map.FinMap lease_cmp V) → length (map.keys m) ≡ map.len m
length-keys m = length-map (map.entries m) _ ∙ sym (map.len-entries m)
