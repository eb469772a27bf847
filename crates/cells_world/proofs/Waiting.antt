-- Why a line waits over a wire that does its work.
use Rattle.std.proofs.Common.{◌≡◌, ◌≢◌, ◌⊎◌, inl, inr, ⊎_elim, ℕ, ◌≤◌, IsTrue, List, [], length, Some, refl, sym, ◌∙◌, ap, subst}
use Rattle.std.specs.Prelude.{IsSome}
use Rattle.std.specs.List.{AllByRecursion, slice_get}
use Rattle.std.specs.FinMap as map
use Rattle.std.specs.FinMap.{nat_cmp-IsAntisymmetric}
use Rattle.std.specs.Cmp.{nat_cmp_total}
use Rattle.cells_base.proofs.Maps.{same_or_other}
use Rattle.claim_map.specs.Registry.{Registry, cell_of}
use Rattle.claim_map.specs.State.{ClaimMap}
use Rattle.claim_laws.specs.Events.{Event, run}
use Rattle.claim_laws.specs.Facts.{IsInOrder}
use Rattle.claim_laws.specs.Nodes.{Agent}
use Rattle.claim_laws.specs.World.{Packet, World}
use Rattle.cells_script.specs.declared.answer.Answer.{Answer}
use Rattle.cells_script.specs.declared.line.Line.{Line}
use Rattle.cells_world.specs.Answers.{answer_behind, answer_of, begun_of, puts_first, waits}
use Rattle.cells_world.specs.Cluster.{AreAgentsOf}
use Rattle.cells_world.specs.Follows.{way_behind}
use Rattle.cells_world.specs.Lines.{own_events}
use Rattle.cells_world.specs.OnWay.{AreOnWay, Way}
use Rattle.cells_world.specs.Post.{ArePackets}
use Rattle.cells_world.specs.Puts.{armed_by}
use Rattle.cells_world.specs.World.{IsHandOver, IsIn}
use Rattle.cells_world.specs.declared.answer.Begun.{Begun}
use Rattle.cells_world.specs.declared.answer.Begun.TheVariants.{Told, Asked, RangeAsked, Reconciles}
use Rattle.cells_world.specs.declared.cluster.Cluster.{Cluster}
use Rattle.cells_world.specs.declared.limits.TheConstants.{TAKES_A_LINE}
use Rattle.cells_world.proofs.Posted.{answers_earlier}
use Rattle.cells_world.proofs.Unhindered.{answered}

-- what a world says of its packets and cells that a cluster is in
module _ (c : Cluster) (w : World) where
  pub answers_earlier_in : ArePackets c.post → IsIn c w → (k : ℕ) (p : Packet) → slice_get w.sent k ≡ Some p → p.answers ≤ k
  answers_earlier_in packets is_in k p there = answers_earlier c.post packets k p (ap (λ ps. slice_get ps k) (sym is_in.sent) ∙ there)

  pub cells_known : AreAgentsOf c.registry c.cells.items → IsIn c w → (cell : ℕ) (a : Agent) → map.get w.agents cell ≡ Some a → IsSome (cell_of c.registry cell)
  cells_known agents is_in cell a there = let found = is_in.only cell a there in subst (λ id. IsSome (cell_of c.registry id)) found.2 (agents.known found.0 found.1)

module _ (registry : Registry) (start : ClaimMap) (w : World) (order : IsInOrder registry start w) (now : ℕ) (line : Line)
    (early : (k : ℕ) (p : Packet) → slice_get w.sent k ≡ Some p → p.answers ≤ k)
    (known : (cell : ℕ) (a : Agent) → map.get w.agents cell ≡ Some a → IsSome (cell_of registry cell))
    (taken : List Event) (hand_over : AllByRecursion IsHandOver taken) (way way_now : Way)
    (in_order : AreOnWay registry (run registry (own_events w now line) w) (way_behind registry w now line way) taken way_now)
    (drains : IsTrue (puts_first (begun_of w now line)) → (way_now.packets ≡ []) ⊎ (length taken ≡ TAKES_A_LINE))
    (answer : Answer) (is_answer : answer ≡ answer_of registry w now line taken) where
  abbrev Lost : Type 0
  Lost = length way_now.armed ≢ length (armed_by line way.armed)

  abbrev Causes : Type 0
  Causes = (length taken ≡ TAKES_A_LINE) ⊎ Lost ⊎ (begun_of w now line ≡ Told answer)

  -- it put a packet: where each came, and none was lost, it has its answer
  behind : IsTrue (waits answer) → IsTrue (puts_first (begun_of w now line)) → Causes
  behind waiting puts = ⊎_elim
      (λ (empty : way_now.packets ≡ []). ⊎_elim
      (λ (none : length way_now.armed ≡ length (armed_by line way.armed)). inr (inr (answered registry start w now line order early known taken hand_over way way_now in_order empty none answer waiting is_answer)))
      (λ (lost : Lost). inr (inl lost))
      (same_or_other nat_cmp_total nat_cmp-IsAntisymmetric (length way_now.armed) (length (armed_by line way.armed))))
      (λ all. inl all)
      (drains puts)

  pub waits_for_cause : IsTrue (waits answer) → Causes
  waits_for_cause waiting = go (begun_of w now line) refl
    where
      go : (begun : Begun) → begun_of w now line ≡ begun → Causes
      go (Told said) is = inr (inr (is ∙ ap Told (sym (is_answer ∙ ap (λ b. answer_behind registry w b (run registry (own_events w now line) w) taken) is))))
      go (Asked lease) is = behind waiting (ap puts_first is)
      go RangeAsked is = behind waiting (ap puts_first is)
      go Reconciles is = behind waiting (ap puts_first is)
