use Rattle.std.proofs.Common.{◌≡◌, Bool, true, false, Result, Ok, Err, List, refl, sym, subst, inl, inr}
use Rattle.std.specs.Prelude.{IfOk, OnErr, IsTrue}
use Rattle.std.specs.List.{Contains}
use Rattle.std.proofs.lemmas.List.Elements.{Contains-push_cases}
use Rattle.cells_base.specs.declared.memory.NoMemory.{NoMemory}
use Rattle.claim_types.specs.declared.cell.Range.{Range}
use Rattle.claim_types.specs.declared.record.Record.{Record}
use Rattle.claim_map.specs.State.{Tree}
use Rattle.record_tree.specs.Known.{IsWithin}
use Rattle.record_tree.specs.Adding.{MayBeAdded, IsUsed, after_adding, with_added}
use Rattle.record_tree.specs.declared.tests.TheConstants.{KNOWN}
use Rattle.record_tree.proofs.tests.with.Goals as goal

module _ (tree : Tree) (known : List Range) (within : IsWithin tree known) (r : Record) where
  more : MayBeAdded tree.records tree.used known r → IsWithin (with_added tree r) known
  more may = record {
    rising = within.rising;
    ids = λ q h. elim (Contains-push_cases tree.records r q h) [
      | inl there ↦ within.ids q there
      | inr same ↦ subst (λ (x : Record). IsUsed known tree.used x.id) same may.known_id
    ];
  }

  after : (added : Bool) → (IsTrue added → MayBeAdded tree.records tree.used known r) → IsWithin (after_adding added tree r) known
  after true may = more (may refl)
  after false may = within

  either : (result : Result Bool NoMemory) (new : Tree) → IfOk result (λ added. (IsTrue added → MayBeAdded tree.records tree.used known r) × (MayBeAdded tree.records tree.used known r → IsTrue added))
      → IfOk result (λ added. new ≡ after_adding added tree r) → OnErr result (new ≡ tree) → IsWithin new known
  either (Ok added) new may is same = subst (λ (t : Tree). IsWithin t known) (sym is) (after added may.0)
  either (Err e) new may is same = subst (λ (t : Tree). IsWithin t known) (sym same) within

pub returns : goal.returns
returns c =
    either c.args.tree.now KNOWN c.requires (record { id = c.args.id; kind = c.args.kind; parent = c.args.parent; name = c.in_ok-name.name })
    c.add.result c.add.new.self c.add.ensures.answer c.add.ensures.after c.add.ensures.err
