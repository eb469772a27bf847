-- Answers that are told where a change was recorded, given up or refused.
use Rattle.std.proofs.Common.{◌≡◌, ◌⊎◌, inl, inr, ℕ, zero, suc, ◌≤◌, Bool, true, false, cond, List, [], ◌∷◌, drop, Option, Some, None, refl, sym, ◌∙◌, ap, arith}
use Rattle.std.specs.List.{Contains, slice_get, list_any}
use Rattle.cells_base.proofs.Members.{at_place, here_or_later, nowhere}
use Rattle.cells_base.proofs.Truth.{or_first, or_second}
use Rattle.cells_base.specs.Options.{◌or_else◌}
use Rattle.claim_types.proofs.Equal.{Decides-lease}
use Rattle.claim_types.specs.Order.{lease_eq}
use Rattle.claim_types.specs.declared.lease.LeaseId.{LeaseId}
use Rattle.claim_types.specs.declared.record.Change.{Change}
use Rattle.claim_types.specs.declared.rule.Note.{Note}
use Rattle.claim_types.specs.declared.rule.Note.TheVariants.{Ended as EndedNote, Changed as ChangedNote}
use Rattle.claim_types.specs.declared.step.Step.TheVariants.{Recorded}
use Rattle.claim_types.specs.declared.step.Transition.{Transition}
use Rattle.claim_types.specs.declared.message.BegunResult.TheVariants.{Denied as BegunDenied}
use Rattle.claim_types.specs.declared.message.Reply.{Reply}
use Rattle.claim_types.specs.declared.message.Reply.TheVariants.{Begun}
use Rattle.claim_types.specs.declared.verdict.Denial.{Denial}
use Rattle.cells_script.specs.declared.answer.Answer.{Answer}
use Rattle.cells_script.specs.declared.answer.Answer.TheVariants.{Accepted, Changed, Denied}
use Rattle.cells_world.specs.Answers.{answer_of_change, change_noted, denial_in, first_change, or_waiting, recorded_in, records, waits}

-- what stands in a place past the first ones is among the rest
pub past : {X : Type 0} (n : ℕ) (xs : List X) (i : ℕ) (x : X) → n ≤ i → slice_get xs i ≡ Some x → Contains (drop n xs) x
past zero xs i x le at = at_place xs i x at
past (suc n) [] i x le at = absurd cc
past (suc n) (y ∷ ys) zero x le at = absurd (omega (arith, le))
past (suc n) (y ∷ ys) (suc i) x le at = past n ys i x (omega (arith, le)) at

module _ (lease : LeaseId) where
  itself : lease_eq lease lease ≡ true
  itself = (Decides-lease lease lease).1 refl

  -- it was recorded
  any_records : (ts : List Transition) (t : Transition) (change : Change) → Contains ts t → t.step ≡ Recorded lease change → list_any (λ (x : Transition). records lease x.step) ts ≡ true
  any_records [] t change there is = absurd (nowhere t there)
  any_records (x ∷ ts) t change there is = elim (here_or_later x ts t there) [
    | inl same ↦ or_first (records lease x.step) (list_any (λ (y : Transition). records lease y.step) ts) (ap (λ (y : Transition). records lease y.step) same ∙ ap (records lease) is ∙ itself)
    | inr more ↦ or_second (records lease x.step) (list_any (λ (y : Transition). records lease y.step) ts) (any_records ts t change more is)
  ]

  pub recorded_told : (ts : List Transition) (notes : List Note) (reply : Option Reply) (t : Transition) (change : Change) → Contains ts t → t.step ≡ Recorded lease change → waits (answer_of_change lease ts notes reply) ≡ false
  recorded_told ts notes reply t change there is = ap (λ b. waits (or_waiting lease (cond b (Some (Accepted lease)) None or_else (first_change lease notes or_else denial_in lease reply)))) (any_records ts t change there is)

  -- the records had changed
  is_noted : (note : Note) → (change_noted lease note ≡ None) ⊎ ((x : ℕ) × (y : ℕ) × (change_noted lease note ≡ Some (Changed lease x y)))
  is_noted (EndedNote of) = inl refl
  is_noted (ChangedNote of x y) = go (lease_eq of lease)
    where
      go : (b : Bool) → (cond b (Some (Changed lease x y)) None ≡ None) ⊎ ((m : ℕ) × (n : ℕ) × (cond b (Some (Changed lease x y)) None ≡ Some (Changed lease m n)))
      go true = inr (x, y, refl)
      go false = inl refl

  is_changed : (notes : List Note) → (first_change lease notes ≡ None) ⊎ ((x : ℕ) × (y : ℕ) × (first_change lease notes ≡ Some (Changed lease x y)))
  is_changed [] = inl refl
  is_changed (note ∷ notes) = elim (is_noted note) [
    | inl none ↦ elim (is_changed notes) [
      | inl later ↦ inl (ap (λ o. o or_else first_change lease notes) none ∙ later)
      | inr later ↦ inr (later.0, later.1, ap (λ o. o or_else first_change lease notes) none ∙ later.2)
    ]
    | inr one ↦ inr (one.0, one.1, ap (λ o. o or_else first_change lease notes) one.2)
  ]

  change_found : (notes : List Note) (x y : ℕ) → Contains notes (ChangedNote lease x y) → first_change lease notes ≡ None → ⊥
  change_found [] x y there none = nowhere (ChangedNote lease x y) there
  change_found (note ∷ notes) x y there none = elim (is_noted note) [
    | inl other ↦ elim (here_or_later note notes (ChangedNote lease x y) there) [
      | inl same ↦
          let noted : change_noted lease (ChangedNote lease x y) ≡ Some (Changed lease x y) = ap (λ b. cond b (Some (Changed lease x y)) None) itself in
          let both : None ≡ Some (Changed lease x y) = sym other ∙ ap (change_noted lease) same ∙ noted in
          cc
      | inr more ↦ change_found notes x y more (sym (ap (λ o. o or_else first_change lease notes) other) ∙ none)
    ]
    | inr one ↦ let both : Some (Changed lease one.0 one.1) ≡ None = sym (ap (λ o. o or_else first_change lease notes) one.2) ∙ none in cc
  ]

  changed_waits : (b : Bool) (x y : ℕ) (o : Option Answer) → waits (or_waiting lease (cond b (Some (Accepted lease)) None or_else (Some (Changed lease x y) or_else o))) ≡ false
  changed_waits true x y o = refl
  changed_waits false x y o = refl

  pub changed_told : (ts : List Transition) (notes : List Note) (reply : Option Reply) (x y : ℕ) → Contains notes (ChangedNote lease x y) → waits (answer_of_change lease ts notes reply) ≡ false
  changed_told ts notes reply x y there = elim (is_changed notes) [
    | inl none ↦ absurd (change_found notes x y there none)
    | inr one ↦ ap (λ o. waits (or_waiting lease (recorded_in lease ts or_else (o or_else denial_in lease reply)))) one.2 ∙ changed_waits (list_any (λ (t : Transition). records lease t.step) ts) one.0 one.1 (denial_in lease reply)
  ]

  -- its begin was refused
  denied_waits : (b : Bool) (denial : Denial) → waits (or_waiting lease (cond b (Some (Accepted lease)) None or_else (None or_else Some (Denied lease denial)))) ≡ false
  denied_waits true denial = refl
  denied_waits false denial = refl

  refused_told : (ts : List Transition) (notes : List Note) (denial : Denial) → waits (or_waiting lease (recorded_in lease ts or_else (first_change lease notes or_else Some (Denied lease denial)))) ≡ false
  refused_told ts notes denial = elim (is_changed notes) [
    | inl none ↦ ap (λ o. waits (or_waiting lease (recorded_in lease ts or_else (o or_else Some (Denied lease denial))))) none ∙ denied_waits (list_any (λ (t : Transition). records lease t.step) ts) denial
    | inr one ↦ ap (λ o. waits (or_waiting lease (recorded_in lease ts or_else (o or_else Some (Denied lease denial))))) one.2 ∙ changed_waits (list_any (λ (t : Transition). records lease t.step) ts) one.0 one.1 (Some (Denied lease denial))
  ]

  pub denied_told : (ts : List Transition) (notes : List Note) (reply : Option Reply) (of : LeaseId) (denial : Denial) → reply ≡ Some (Begun of (BegunDenied denial)) → waits (answer_of_change lease ts notes reply) ≡ false
  denied_told ts notes reply of denial is = ap (λ r. waits (answer_of_change lease ts notes r)) is ∙ refused_told ts notes denial
