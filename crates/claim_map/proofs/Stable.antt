-- What a cell makes of a change by the ranges that it knows holds where more ranges are given behind these.
use Rattle.std.proofs.Common.{◌≡◌, ℕ, ◌+◌, ◌-◌, Bool, true, false, cond, nat_lt, List, [], ◌∷◌, ◌++◌, Option, Some, None, refl, sym, ◌∙◌, ap}
use Rattle.claim_types.specs.declared.cell.Range.{Range}
use Rattle.claim_types.specs.declared.operations.Operations.{Operations}
use Rattle.claim_types.specs.declared.record.Kind.{Kind}
use Rattle.claim_types.specs.declared.record.Change.{Change}
use Rattle.claim_types.specs.declared.record.Change.TheVariants.{Create, Rename, Remove}
use Rattle.claim_types.specs.declared.rule.Rule.{Rule}
use Rattle.claim_map.specs.State.{Tree}
use Rattle.claim_map.specs.Records.{range_size, id_at, next_id, with_record, changed_by}
use Rattle.claim_map.specs.Claims.{claims_of, operations_between}
use Rattle.claim_map.specs.Rules.{where_true, record_at, place_rule, name_rule, taken_rule, count_rule, identifier_rule, version_rule, or_zero, create_rule, rule_of}
use Rattle.cells_base.proofs.Options.{both_none}

pub there : (o : Option ℕ) → identifier_rule o ≡ None → (id : ℕ) × (o ≡ Some id)
there None h = cc
there (Some id) h = (id, refl)

pub where_false : (b : Bool) (rule : Rule) → where_true b rule ≡ None → b ≡ false
where_false true rule h = cc
where_false false rule h = refl

-- what a create that no rule refuses says: each rule by itself has nothing against it
pub record MayCreate (tree : Tree) (kind : Kind) (parent : ℕ) (name : List ℕ) (next : Option ℕ) (ops : Operations) : Type 0 where
  pub placed : place_rule kind parent (record_at tree parent) ≡ None
  pub named : name_rule kind name ops ≡ None
  pub untaken : taken_rule (claims_of tree) ops ≡ None
  pub few : count_rule ops ≡ None
  pub id : ℕ
  pub next_is : next ≡ Some id

pub may_create : (tree : Tree) (kind : Kind) (parent : ℕ) (name : List ℕ) (next : Option ℕ) (ops : Operations) → create_rule tree kind parent name next ops ≡ None → MayCreate tree kind parent name next ops
may_create tree kind parent name next ops h =
    let placed = both_none (place_rule kind parent (record_at tree parent)) _ h in
    let named = both_none (name_rule kind name ops) _ placed.1 in
    let untaken = both_none (taken_rule (claims_of tree) ops) _ named.1 in
    let few = both_none (count_rule ops) _ untaken.1 in
    let id = there next (both_none (identifier_rule next) (version_rule tree) few.1).0 in
    record { placed = placed.0; named = named.0; untaken = untaken.0; few = few.0; id = id.0; next_is = id.1 }

-- the operations of a create, where this is the next identifier
unfoldable pub create_ops : Tree → Kind → ℕ → List ℕ → Option ℕ → Operations
create_ops tree kind parent name next = operations_between (claims_of tree) (claims_of (with_record tree (or_zero next) kind parent name))

pub rule_allows : (tree : Tree) (kind : Kind) (parent : ℕ) (name : List ℕ) (known : List Range) → rule_of tree (Create kind parent name) known ≡ None →
    MayCreate tree kind parent name (next_id tree known) (create_ops tree kind parent name (next_id tree known))
unfolding rule_of create_ops
rule_allows tree kind parent name known h = may_create tree kind parent name (next_id tree known) (create_ops tree kind parent name (next_id tree known)) h

-- where the ranges hold an identifier in a place, so they do with more behind them
pub id_stays : (n : ℕ) (ranges more : List Range) (id : ℕ) → id_at n ranges ≡ Some id → id_at n (ranges ++ more) ≡ Some id
id_stays n [] more id h = cc
id_stays n (r ∷ rs) more id h = go (nat_lt n (range_size r)) (id_stays (n - range_size r) rs more id) h
  where
    go : (b : Bool) → (id_at (n - range_size r) rs ≡ Some id → id_at (n - range_size r) (rs ++ more) ≡ Some id) →
        cond b (Some (r.low + n)) (id_at (n - range_size r) rs) ≡ Some id → cond b (Some (r.low + n)) (id_at (n - range_size r) (rs ++ more)) ≡ Some id
    go true later is = is
    go false later is = later is

-- a change that no rule refuses is the same change
pub record SameChange (tree : Tree) (change : Change) (known more : List Range) : Type 0 where
  pub changed : changed_by tree change (known ++ more) ≡ changed_by tree change known
  pub no_rule : rule_of tree change (known ++ more) ≡ None

pub stays : (tree : Tree) (change : Change) (known more : List Range) → rule_of tree change known ≡ None → SameChange tree change known more
unfolding rule_of create_ops
stays tree (Create kind parent name) known more h =
    let fine = rule_allows tree kind parent name known h in
    let same : next_id tree (known ++ more) ≡ next_id tree known = id_stays tree.used known more fine.id fine.next_is ∙ sym fine.next_is in
    record {
      changed = ap (λ n. with_record tree n kind parent name) same;
      no_rule = ap (λ n. create_rule tree kind parent name n (create_ops tree kind parent name n)) same ∙ h;
    }
stays tree (Rename id name) known more h = record { changed = refl; no_rule = h }
stays tree (Remove id) known more h = record { changed = refl; no_rule = h }

-- a change that no rule refuses raises the version
pub version_rises : (tree : Tree) (change : Change) (known : List Range) → rule_of tree change known ≡ None → (changed_by tree change known).version ≡ tree.version + 1
version_rises tree (Create kind parent name) known h = ap (λ n. (with_record tree n kind parent name).version) (rule_allows tree kind parent name known h).next_is
version_rises tree (Rename id name) known h = refl
version_rises tree (Remove id) known h = refl
