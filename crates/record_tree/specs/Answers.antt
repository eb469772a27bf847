-- The answers to each change, over records and their index.
use Rattle.std.specs.Prelude.{ℕ, nat_eq, List, Option, Some, None, Result, Err, unwrap_or}
use Rattle.std.specs.List.{find}
use Rattle.std.specs.FinMap as map
use Rattle.claim_types.specs.Order.{key_cmp}
use Rattle.claim_types.specs.declared.operations.Operations.{Operations}
use Rattle.claim_types.specs.declared.record.Kind.{Kind}
use Rattle.claim_types.specs.declared.record.Record.{Record}
use Rattle.record_tree.specs.Answer.{or_operations}
use Rattle.record_tree.specs.Between.{between_created, between_renamed, between_removed}
use Rattle.record_tree.specs.Refusals.{create_refusal, rename_refusal, remove_refusal}
use Rattle.claim_types.specs.declared.rule.Rule.{Rule}
use Rattle.claim_types.specs.declared.rule.Rule.TheVariants.{NoSuchRecord}

-- where no identifier is left, the rules before that one are sought as if 0 were the next
abbrev pub create_answer : List Record → map.FinMap key_cmp ℕ → ℕ → Kind → ℕ → List ℕ → Option ℕ → Result Operations Rule
create_answer records index version kind parent name next =
    or_operations (create_refusal index version kind parent name (find (λ r. nat_eq r.id parent) records) next (between_created records (unwrap_or next 0) kind parent name)) (between_created records (unwrap_or next 0) kind parent name)

abbrev pub renamed_answer : map.FinMap key_cmp ℕ → ℕ → List ℕ → Option Record → Operations → Result Operations Rule
renamed_answer index version name None ops = Err NoSuchRecord
renamed_answer index version name (Some r) ops = or_operations (rename_refusal index version name r ops) ops

abbrev pub rename_answer : List Record → map.FinMap key_cmp ℕ → ℕ → ℕ → List ℕ → Result Operations Rule
rename_answer records index version id name = renamed_answer index version name (find (λ r. nat_eq r.id id) records) (between_renamed records id name)

abbrev pub removed_answer : List Record → ℕ → ℕ → Option Record → Operations → Result Operations Rule
removed_answer records version id None ops = Err NoSuchRecord
removed_answer records version id (Some r) ops = or_operations (remove_refusal records version id) ops

abbrev pub remove_answer : List Record → ℕ → ℕ → Result Operations Rule
remove_answer records version id = removed_answer records version id (find (λ r. nat_eq r.id id) records) (between_removed records id)
