use Rattle.std.proofs.Common.{refl, sym, ◌∙◌, ap, Some, None}
use Rattle.key_table.proofs.Parts.{sought, then_named}
use Rattle.std.specs.FinMap as map
use Rattle.claim_types.specs.declared.key.ClaimKey.{ClaimKey}
use Rattle.key_table.proofs.Joins.{on_ok}
use Rattle.key_table.proofs.keys.Keys.name.Goals as goal

pub returns-in-Some-clause-ok : goal.returns-in-Some-clause-ok
returns-in-Some-clause-ok c = then_named c.self.inside.states _ c.self.view_is c.args.key.now c.as_slice-in-Some.result.now c.as_slice-in-Some.ensures _ c.in-Some.field-0.holder c.args.lease
    (sym (sought c.self.inside.states _ c.self.view_is c.args.key.now c.as_slice.result.now c.as_slice.ensures _ c.in-Some.ensures).0) c.change.ensures

pub returns-in_ok-copy-in-None-clause-ok : goal.returns-in_ok-copy-in-None-clause-ok
returns-in_ok-copy-in-None-clause-ok c = on_ok c.put.result c.put.ensures.ok (λ put. then_named c.self.inside.states _ c.self.view_is c.args.key.now c.args.key.now.value refl _ None c.args.lease
    (sym (sought c.self.inside.states _ c.self.view_is c.args.key.now c.as_slice.result.now c.as_slice.ensures _ c.in-None.ensures).0)
    (put ∙ ap (λ (k : ClaimKey). map.insert c.self.inside.states k (record { holder = None; named = Some c.args.lease })) c.in_ok-copy-in-None.ensures))
