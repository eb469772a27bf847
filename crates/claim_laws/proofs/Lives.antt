-- The life of one lease, move by move: it stays in order, and whatever was said of it stays true.
use Rattle.std.proofs.Common.{◌≡◌, inl, inr, true, false, Option, Some, None, refl, sym, ◌∙◌, ap}
use Rattle.claim_types.specs.declared.lease.How.TheVariants.{Committed, RolledBack}
use Rattle.claim_types.specs.declared.operations.Operations.{Operations}
use Rattle.claim_types.specs.declared.rule.Attempt.{Attempt}
use Rattle.claim_laws.specs.Lives.{Life, IsKnown, IsCommitted, IsLifeInOrder, BeginFact, CommitFact, RollbackFact}

-- after a move the life is in order, and what a message says of it is true as before; of begins this holds for operations that fit
pub record Moves (drawn drawn' : Type 0) (life life' : Life) (Fits : Operations → Type 0) : Type 0 where
  pub in_order : IsLifeInOrder drawn' life'
  pub known : IsKnown life → IsKnown life'
  pub committed : IsCommitted life → IsCommitted life'
  pub begin : (ops : Operations) → Fits ops → BeginFact drawn life ops → BeginFact drawn' life' ops
  pub commit : CommitFact life → CommitFact life'
  pub rollback : RollbackFact life → RollbackFact life'

abbrev pub Any : Operations → Type 0
Any ops = Unit {0}

different : {X : Type 0} (x : X) (o : Option X) → o ≡ None → o ≡ Some x → ⊥
different x o none some = cc

same_value : {X : Type 0} (x y : X) → Some x ≡ Some y → x ≡ y
same_value x y e = cc

-- a lease with a row was known
row_known_life : {drawn : Type 0} (life : Life) → IsLifeInOrder drawn life → (ops : Operations) → life.row ≡ Some ops → IsKnown life
row_known_life life fine ops row = elim (fine.row_known ops row) [ inl opened ↦ inl opened | inr committed ↦ inr (Committed, committed) ]

module _ {drawn : Type 0} (life : Life) (fine : IsLifeInOrder drawn life) where
  -- a begin opens it
  pub leased : (ops : Operations) → drawn → life.open_with ≡ None → life.settled ≡ None → ((attempt : Attempt) → life.pending ≡ Some attempt → attempt.ops ≡ ops) →
      Moves drawn drawn life (record life { open_with = Some ops }) (λ theirs. ops ≡ theirs)
  leased ops was_drawn closed unsettled of_attempt =
      let no_row : (mine : Operations) → life.row ≡ Some mine → ⊥ = λ mine row. elim (fine.row_known mine row) [ inl o ↦ different o.0 life.open_with closed o.1 | inr c ↦ different Committed life.settled unsettled c ] in
      record {
        in_order = record {
          known_drawn = λ known. was_drawn;
          pending_drawn = fine.pending_drawn;
          unsettled = λ mine is. unsettled;
          recorded_open = λ recorded. absurd (different (fine.recorded_open recorded).0 life.open_with closed (fine.recorded_open recorded).1);
          row_recorded = λ mine theirs row is. absurd (no_row mine row);
          row_known = λ mine row. absurd (no_row mine row);
          pending_rowless = fine.pending_rowless;
          pending_unsettled = fine.pending_unsettled;
          pending_open = λ attempt theirs waits is. sym (same_value ops theirs is) ∙ sym (of_attempt attempt waits);
        };
        known = λ known. inl (ops, refl);
        committed = λ c. c;
        begin = λ theirs same said. record { drawn_for = said.drawn_for; well_formed = said.well_formed; of_attempt = said.of_attempt; same_open = λ mine is. sym (same_value ops mine is) ∙ same };
        commit = λ said. elim said [ inl c ↦ inl c | inr both ↦ inr ((ops, refl), both.1) ];
        rollback = λ said. record { known = inl (ops, refl); not_pending = said.not_pending; no_row = said.no_row };
      }

  -- a commit applies it
  pub applied : (ops : Operations) → life.open_with ≡ Some ops → life.recorded ≡ true →
      Moves drawn drawn life (record life { open_with = None; settled = Some Committed; recorded = false }) Any
  applied ops is recorded =
      let kept = fine.recorded_open recorded in
      let not_waiting : (attempt : Attempt) → life.pending ≡ Some attempt → ⊥ = λ attempt waits. different kept.0 life.row (fine.pending_rowless attempt waits) kept.2 in
      record {
        in_order = record {
          known_drawn = λ known. fine.known_drawn (inl (ops, is));
          pending_drawn = fine.pending_drawn;
          unsettled = λ mine no. absurd cc;
          recorded_open = λ no. absurd cc;
          row_recorded = λ mine theirs row no. absurd cc;
          row_known = λ mine row. inr refl;
          pending_rowless = fine.pending_rowless;
          pending_unsettled = λ attempt waits. absurd (not_waiting attempt waits);
          pending_open = λ attempt theirs waits no. absurd (not_waiting attempt waits);
        };
        known = λ known. inr (Committed, refl);
        committed = λ c. refl;
        begin = λ theirs fits said. record { drawn_for = said.drawn_for; well_formed = said.well_formed; of_attempt = said.of_attempt; same_open = λ mine no. absurd cc };
        commit = λ said. inl refl;
        rollback = λ said. absurd (different kept.0 life.row said.no_row kept.2);
      }

  -- a rollback gives it up
  pub given_up : life.settled ≡ None → RollbackFact life →
      Moves drawn drawn life (record life { open_with = None; settled = Some RolledBack }) Any
  given_up unsettled said = record {
    in_order = record {
      known_drawn = λ known. fine.known_drawn said.known;
      pending_drawn = fine.pending_drawn;
      unsettled = λ mine no. absurd cc;
      recorded_open = λ recorded. absurd (different (fine.recorded_open recorded).0 life.row said.no_row (fine.recorded_open recorded).2);
      row_recorded = λ mine theirs row no. absurd cc;
      row_known = λ mine row. absurd (different mine life.row said.no_row row);
      pending_rowless = fine.pending_rowless;
      pending_unsettled = λ attempt waits. absurd (different attempt life.pending said.not_pending waits);
      pending_open = λ attempt theirs waits no. absurd cc;
    };
    known = λ known. inr (RolledBack, refl);
    committed = λ c. absurd (different Committed life.settled unsettled c);
    begin = λ theirs fits says. record { drawn_for = says.drawn_for; well_formed = says.well_formed; of_attempt = says.of_attempt; same_open = λ mine no. absurd cc };
    commit = λ says. elim says [ inl c ↦ absurd (different Committed life.settled unsettled c) | inr both ↦ absurd (different both.1.0 life.row said.no_row both.1.1) ];
    rollback = λ says. record { known = inr (RolledBack, refl); not_pending = says.not_pending; no_row = says.no_row };
  }

  -- its cell draws it
  pub asked : {drawn' : Type 0} (attempt : Attempt) → (drawn → ⊥) → drawn' →
      Moves drawn drawn' life (record life { pending = Some attempt }) Any
  asked attempt undrawn now_drawn =
      let unknown : IsKnown life → ⊥ = λ known. undrawn (fine.known_drawn known) in
      let no_row : (ops : Operations) → life.row ≡ Some ops → ⊥ = λ ops row. unknown (row_known_life life fine ops row) in
      record {
        in_order = record {
          known_drawn = λ known. now_drawn;
          pending_drawn = λ mine waits. now_drawn;
          unsettled = fine.unsettled;
          recorded_open = fine.recorded_open;
          row_recorded = fine.row_recorded;
          row_known = fine.row_known;
          pending_rowless = λ mine waits. nothing life.row no_row;
          pending_unsettled = λ mine waits. nothing life.settled (λ how is. unknown (inr (how, is)));
          pending_open = λ mine ops waits is. absurd (unknown (inl (ops, is)));
        };
        known = λ known. known;
        committed = λ c. c;
        begin = λ ops fits said. absurd (undrawn said.drawn_for);
        commit = λ said. said;
        rollback = λ said. absurd (unknown said.known);
      }
    where
      nothing : {X : Type 0} (o : Option X) → ((x : X) → o ≡ Some x → ⊥) → o ≡ None
      nothing None h = refl
      nothing (Some x) h = absurd (h x refl)

  -- its attempt ends
  pub ended : {drawn' : Type 0} → (drawn → drawn') → Moves drawn drawn' life (record life { pending = None }) Any
  ended grows = record {
    in_order = record {
      known_drawn = λ known. grows (fine.known_drawn known);
      pending_drawn = λ attempt no. absurd cc;
      unsettled = fine.unsettled;
      recorded_open = fine.recorded_open;
      row_recorded = fine.row_recorded;
      row_known = fine.row_known;
      pending_rowless = λ attempt no. absurd cc;
      pending_unsettled = λ attempt no. absurd cc;
      pending_open = λ attempt ops no is. absurd cc;
    };
    known = λ known. known;
    committed = λ c. c;
    begin = λ ops fits said. record { drawn_for = grows said.drawn_for; well_formed = said.well_formed; of_attempt = λ attempt no. absurd cc; same_open = said.same_open };
    commit = λ said. said;
    rollback = λ said. record { known = said.known; not_pending = refl; no_row = said.no_row };
  }

  -- its cell records it
  pub recorded : {drawn' : Type 0} → (drawn → drawn') → (attempt : Attempt) (ops : Operations) → life.pending ≡ Some attempt → life.open_with ≡ Some ops → attempt.ops ≡ ops →
      Moves drawn drawn' life (record life { recorded = true; pending = None; row = Some attempt.ops }) Any
  recorded grows attempt ops waits is same = record {
    in_order = record {
      known_drawn = λ known. grows (fine.known_drawn known);
      pending_drawn = λ mine no. absurd cc;
      unsettled = fine.unsettled;
      recorded_open = λ r. (ops, is, ap Some same);
      row_recorded = λ mine theirs row opened. refl;
      row_known = λ mine row. inl (ops, is);
      pending_rowless = λ mine no. absurd cc;
      pending_unsettled = λ mine no. absurd cc;
      pending_open = λ mine theirs no opened. absurd cc;
    };
    known = λ known. known;
    committed = λ c. c;
    begin = λ theirs fits said. record { drawn_for = grows said.drawn_for; well_formed = said.well_formed; of_attempt = λ mine no. absurd cc; same_open = said.same_open };
    commit = λ said. elim said [ inl c ↦ inl c | inr both ↦ inr (both.0, (attempt.ops, refl)) ];
    rollback = λ said. absurd (different attempt life.pending said.not_pending waits);
  }

  -- its row is taken away
  pub row_gone : {drawn' : Type 0} → (drawn → drawn') → IsCommitted life → Moves drawn drawn' life (record life { row = None }) Any
  row_gone grows settled =
      let closed : (ops : Operations) → life.open_with ≡ Some ops → ⊥ = λ ops is. different Committed life.settled (fine.unsettled ops is) settled in
      record {
        in_order = record {
          known_drawn = λ known. grows (fine.known_drawn known);
          pending_drawn = λ attempt waits. grows (fine.pending_drawn attempt waits);
          unsettled = fine.unsettled;
          recorded_open = λ r. absurd (closed (fine.recorded_open r).0 (fine.recorded_open r).1);
          row_recorded = λ mine theirs no is. absurd cc;
          row_known = λ mine no. absurd cc;
          pending_rowless = λ attempt waits. refl;
          pending_unsettled = fine.pending_unsettled;
          pending_open = fine.pending_open;
        };
        known = λ known. known;
        committed = λ c. c;
        begin = λ ops fits said. record { drawn_for = grows said.drawn_for; well_formed = said.well_formed; of_attempt = said.of_attempt; same_open = said.same_open };
        commit = λ said. inl settled;
        rollback = λ said. record { known = said.known; not_pending = said.not_pending; no_row = refl };
      }
