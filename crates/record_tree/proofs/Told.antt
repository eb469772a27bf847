-- The answers to each change, from what was computed.
use Rattle.std.proofs.Common.{◌≡◌, ℕ, ◌<◌, Bool, true, false, nat_eq, List, [], ◌∷◌, length, get_or, Option, Some, None, Result, Ok, refl, sym, ◌∙◌, ap, subst, unwrap_or}
use Rattle.std.specs.List.{find, list_any}
use Rattle.std.specs.Cmp.Lexicographic.{bytes_decides}
use Rattle.std.specs.FinMap.{FinMap}
use Rattle.claim_types.specs.Order.{key_cmp}
use Rattle.claim_types.specs.declared.operations.Create.{Create}
use Rattle.claim_types.specs.declared.operations.Operations.{Operations}
use Rattle.claim_types.specs.declared.record.Kind.{Kind}
use Rattle.claim_types.specs.declared.record.Record.{Record}
use Rattle.claim_types.specs.declared.rule.Rule.{Rule}
use Rattle.claim_types.specs.declared.rule.Rule.TheVariants.{HasChildren}
use Rattle.claim_map.specs.Trees.{AreAscending}
use Rattle.claim_map.specs.Claims.{route_of, claim_of_record, claims_from}
use Rattle.claim_map.specs.Rules.{where_true}
use Rattle.record_tree.specs.Kept.{AreAbove, NoRow}
use Rattle.record_tree.specs.Answer.{claim_at, Gives, or_operations}
use Rattle.record_tree.specs.Answers.{create_answer, rename_answer, renamed_answer, remove_answer, removed_answer}
use Rattle.record_tree.specs.Between.{between_created, between_renamed, between_removed}
use Rattle.record_tree.specs.Refusals.{create_refusal, rename_refusal, remove_refusal, same_name, spent_at}
use Rattle.record_tree.proofs.Moves.{lower}
use Rattle.record_tree.proofs.Rising.{same_at, found_id}
use Rattle.record_tree.proofs.Creates.{create_operations}
use Rattle.record_tree.proofs.ByPlace.{same_in_place, remove_in_place}
use Rattle.cells_base.specs.Options.{◌or_else◌}

-- the operations matter only where no rule applies
pub by_rule : (r : Result Operations Rule) (due : Option Rule) (ops ops' : Operations) → (due ≡ None → ops ≡ ops') → Gives r (or_operations due ops) → Gives r (or_operations due ops')
by_rule r None ops ops' same h = subst (λ o. Gives r (Ok o)) (same refl) h
by_rule r (Some rule) ops ops' same h = h

pub created : (records : List Record) (ops : Operations) (claim : Create) (above : Option (List ℕ)) (id : ℕ) (kind : Kind) (parent : ℕ) (name : List ℕ) → NoRow id (claims_from [] records) →
    ops ≡ record { creates = claim ∷ []; destroys = [] } → claim ≡ claim_at above id kind parent name → above ≡ route_of (claims_from [] records) parent → ops ≡ between_created records id kind parent name
created records ops claim above id kind parent name free o c a =
    o ∙ (λ i. record { creates = whole i ∷ []; destroys = [] })
    ∙ sym (create_operations records (record { id = id; kind = kind; parent = parent; name = name }) free)
  where
    whole : claim ≡ claim_of_record (claims_from [] records) (record { id = id; kind = kind; parent = parent; name = name })
    whole = c ∙ ap (λ x. claim_at x id kind parent name) a

pub create_told : (records : List Record) (index : FinMap key_cmp ℕ) (version : ℕ) (kind : Kind) (parent : ℕ) (name : List ℕ) (next : Option ℕ) (r : Result Operations Rule) (ops : Operations) →
    ops ≡ between_created records (unwrap_or next 0) kind parent name →
    Gives r (or_operations (create_refusal index version kind parent name (find (λ (q : Record). nat_eq q.id parent) records) next ops) ops) →
    Gives r (create_answer records index version kind parent name next)
create_told records index version kind parent name next r ops same h =
    subst (λ o. Gives r (or_operations (create_refusal index version kind parent name (find (λ (q : Record). nat_eq q.id parent) records) next o) o)) same h

pub rename_told : (records : List Record) (index : FinMap key_cmp ℕ) (version id : ℕ) (name : List ℕ) (q : Record) (r : Result Operations Rule) (ops : Operations) →
    find (λ (q : Record). nat_eq q.id id) records ≡ Some q → ops ≡ between_renamed records q.id name →
    Gives r (or_operations (rename_refusal index version name q ops) ops) → Gives r (rename_answer records index version id name)
rename_told records index version id name q r ops found same h =
    subst (λ o. Gives r (renamed_answer index version name o (between_renamed records id name))) (sym found)
    (subst (λ n. Gives r (or_operations (rename_refusal index version name q (between_renamed records n name)) (between_renamed records n name))) (found_id id records q found)
    (subst (λ o. Gives r (or_operations (rename_refusal index version name q o) o)) same h))

-- a rename to the same name
pub same_told : (records : List Record) (at : ℕ) (q : Record) (name old_name : List ℕ) (ops : Operations) → AreAscending 0 records → AreAbove records → at < length records → q ≡ get_or records at q → old_name ≡ q.name →
    same_name old_name name ≡ true → ops ≡ record { creates = []; destroys = [] } → (d : Record) → ops ≡ between_renamed records (get_or records at d).id name
same_told records at q name old_name ops ascending above within is own same o d =
    o ∙ sym (same_in_place records at q ascending above within is name (ap lower (sym own) ∙ (bytes_decides (lower old_name) (lower name)).0 same))
    ∙ ap (λ (x : Record). between_renamed records x.id name) (is ∙ same_at records at q d within)

where_none : (b : Bool) (rule : Rule) (rest : Option Rule) → (where_true b rule or_else rest) ≡ None → b ≡ false
where_none true rule rest h = absurd cc
where_none false rule rest h = refl

pub remove_told : (records : List Record) (version id at : ℕ) (q : Record) (r : Result Operations Rule) (ops : Operations) (claim : Create) (above : Option (List ℕ)) (own_name : List ℕ) →
    AreAscending 0 records → AreAbove records → at < length records → q ≡ get_or records at q → find (λ (x : Record). nat_eq x.id id) records ≡ Some q →
    ops ≡ record { creates = []; destroys = claim.key ∷ [] } → claim ≡ claim_at above q.id q.kind q.parent own_name → above ≡ route_of (claims_from [] records) q.parent → own_name ≡ q.name →
    Gives r (or_operations (remove_refusal records version id) ops) → Gives r (remove_answer records version id)
remove_told records version id at q r ops claim above own_name ascending all_above within is found o c a n h =
    subst (λ f. Gives r (removed_answer records version id f (between_removed records id))) (sym found)
    (by_rule r (remove_refusal records version id) ops (between_removed records id) same h)
  where
    own : q.id ≡ id
    own = found_id id records q found

    same : remove_refusal records version id ≡ None → ops ≡ between_removed records id
    same none =
        let childless : list_any (λ (x : Record). nat_eq x.parent q.id) records ≡ false = ap (λ n. list_any (λ (x : Record). nat_eq x.parent n) records) own ∙ where_none (list_any (λ (x : Record). nat_eq x.parent id) records) HasChildren (spent_at version) none in
        let whole : claim ≡ claim_of_record (claims_from [] records) q = c ∙ ap (λ m. claim_at above q.id q.kind q.parent m) n ∙ ap (λ x. claim_at x q.id q.kind q.parent q.name) a in
        o ∙ (λ i. record { creates = []; destroys = (whole i).key ∷ [] }) ∙ sym (remove_in_place records at q ascending all_above within is childless) ∙ ap (between_removed records) own
