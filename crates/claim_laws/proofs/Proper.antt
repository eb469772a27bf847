-- Proper files whose cells were just opened are a start.
use Rattle.std.proofs.Common.{◌≡◌, inl, inr, ℕ, ◌+◌, ◌<◌, ◌≤◌, Bool, true, false, ◌&&◌, nat_eq, nat_le, nat_lt, List, [], ◌∷◌, length, Option, Some, None, is_none, refl, sym, ◌∙◌, ap, subst, arith}
use Rattle.std.specs.List.{Contains}
use Rattle.std.specs.FinMap as map
use Rattle.std.specs.FinMap.{get-empty, len-empty}
use Rattle.std.proofs.lemmas.Bool.Decides.{Decides-eqb, nat_tests}
use Rattle.std.proofs.lemmas.List.Elements.{Contains-append_left, Contains-push}
use Rattle.cells_base.proofs.Truth.{and_split}
use Rattle.cells_base.proofs.Maps.{inserted, removed}
use Rattle.claim_types.proofs.Ordered.{leases_total, leases_exact}
use Rattle.claim_types.specs.Order.{lease_cmp, operations_eq}
use Rattle.claim_types.specs.declared.cell.Range.{Range}
use Rattle.claim_types.specs.declared.entry.CellEntry.{CellEntry}
use Rattle.claim_types.specs.declared.entry.CellEntry.TheVariants.{Epoch, Recorded, RowGone, Got}
use Rattle.claim_types.specs.declared.lease.LeaseId.{LeaseId}
use Rattle.claim_types.specs.declared.operations.Operations.{Operations}
use Rattle.claim_types.specs.declared.rule.Attempt.{Attempt}
use Rattle.claim_map.specs.Registry.{Registry}
use Rattle.claim_map.specs.State.{tree_of, ranges_of}
use Rattle.claim_map.specs.Ranges.{last_end}
use Rattle.claim_map.specs.Claims.{operations_of}
use Rattle.claim_map.specs.Rules.{rule_of}
use Rattle.claim_map.specs.Trees.{TreeFits}
use Rattle.claim_map.proofs.Trees.{fits_more, empty_fits}
use Rattle.claim_map.proofs.Changed.{changed_fits}
use Rattle.claim_laws.specs.Nodes.{still_fits}
use Rattle.claim_laws.specs.World.{World, agent_of, IsDrawn}
use Rattle.claim_laws.specs.Lives.{life_of, IsLifeInOrder}
use Rattle.claim_laws.specs.Files.{Files, Store, where_legal, may_keep_row, store_turn, store_in, fold_turns, empty_store, store_at}
use Rattle.claim_laws.specs.Facts.{IsCellInOrder, IsStart}
use Rattle.claim_laws.specs.Proper.{IsProper, AreJustOpened}
use Rattle.claim_map.specs.Bounds.{AreCells}
use Rattle.cells_base.proofs.Members.{of_filter}
use Rattle.cells_base.proofs.Counts.{len_more, len_less}
use Rattle.claim_laws.proofs.Given.{ends_within}
use Rattle.cells_base.proofs.Options.{nothing_of}
use Rattle.claim_types.specs.declared.limits.TheConstants.{ATTEMPTS_AND_ROWS}

-- what entries that are legal in their turns leave in a cell's file
record Fine (cell : ℕ) (s : Store) : Type 0 where
  fits : TreeFits s.tree s.known
  few : map.len s.rows ≤ ATTEMPTS_AND_ROWS
  own : (lease : LeaseId) (ops : Operations) → map.get s.rows lease ≡ Some ops → lease.cell ≡ cell

abbrev Ordered : Store → Type 0
Ordered s = (r : Range) → Contains s.known r → r.low ≤ r.high

legal_says : (b : Bool) (s t : Store) → where_legal b s ≡ Some t → (b ≡ true) × (s ≡ t)
legal_says true s t h = (refl, cc)
legal_says false s t h = absurd cc

less_of : (n m : ℕ) → nat_lt n m ≡ true → n < m
less_of n m h = grind (arith, nat_tests, h)

module _ (cell : ℕ) where
  -- known ranges stay known
  turn_grows : (s t : Store) (e : CellEntry) → store_turn cell s e ≡ Some t → (r : Range) → Contains s.known r → Contains t.known r
  turn_grows s t (Epoch epoch) h r is = let said = legal_says _ _ t h in subst (λ (x : Store). Contains x.known r) said.1 is
  turn_grows s t (Recorded lease change ops) h r is = let said = legal_says _ _ t h in subst (λ (x : Store). Contains x.known r) said.1 is
  turn_grows s t (RowGone lease) h r is = let said = legal_says _ _ t h in subst (λ (x : Store). Contains x.known r) said.1 is
  turn_grows s t (Got number low high) h r is = let said = legal_says _ _ t h in subst (λ (x : Store). Contains x.known r) said.1 (Contains-append_left s.known _ r is)

  turn_keeps : (s t : Store) (e : CellEntry) → store_turn cell s e ≡ Some t → Ordered t → Fine cell s → Fine cell t
  turn_keeps s t (Epoch epoch) h ordered fine = let said = legal_says _ _ t h in subst (Fine cell) said.1 (record { fits = fine.fits; few = fine.few; own = fine.own })
  turn_keeps s t (Recorded lease change ops) h ordered fine =
      let said = legal_says _ _ t h in
      let parts = and_split (may_keep_row cell s lease) (still_fits s.tree s.known change ops) said.0 in
      let here = and_split (nat_eq lease.cell cell) (nat_le lease.epoch s.epoch && (is_none (map.get s.rows lease) && nat_lt (map.len s.rows) ATTEMPTS_AND_ROWS)) parts.0 in
      let now = and_split (nat_le lease.epoch s.epoch) (is_none (map.get s.rows lease) && nat_lt (map.len s.rows) ATTEMPTS_AND_ROWS) here.1 in
      let room = less_of (map.len s.rows) ATTEMPTS_AND_ROWS (and_split (is_none (map.get s.rows lease)) (nat_lt (map.len s.rows) ATTEMPTS_AND_ROWS) now.1).1 in
      let ruled = nothing_of (rule_of s.tree change s.known) (and_split (is_none (rule_of s.tree change s.known)) (operations_eq (operations_of s.tree change s.known) ops) parts.1).0 in
      subst (Fine cell) said.1 (record {
        fits = changed_fits s.tree change s.known fine.fits ruled;
        few = (let more = len_more leases_total s.rows lease ops in omega (arith, more, room));
        own = λ l o is. elim (inserted leases_total leases_exact s.rows lease ops l o is) [ inl new ↦ ap (λ (x : LeaseId). x.cell) new.0 ∙ (Decides-eqb lease.cell cell).0 here.0 | inr old ↦ fine.own l o old.1 ];
      })
  turn_keeps s t (RowGone lease) h ordered fine =
      let said = legal_says _ _ t h in
      subst (Fine cell) said.1 (record {
        fits = fine.fits;
        few = (let less = len_less leases_total s.rows lease in let few = fine.few in omega (arith, less, few));
        own = λ l o is. fine.own l o (removed leases_total leases_exact s.rows lease l o is).1;
      })
  turn_keeps s t (Got number low high) h ordered fine =
      let said = legal_says _ _ t h in
      let range : Range = record { cell = cell; number = number; low = low; high = high } in
      let next = and_split (nat_eq number (length s.known + 1)) (nat_lt (last_end s.known) low) said.0 in
      let there : Contains t.known range = subst (λ (x : Store). Contains x.known range) said.1 (Contains-push s.known range) in
      subst (Fine cell) said.1 (record { fits = fits_more s.tree s.known range fine.fits (less_of (last_end s.known) low next.1) (ordered range there); few = fine.few; own = fine.own })

  from_nothing : (es : List CellEntry) (t : Store) → fold_turns (store_turn cell) None es ≡ Some t → ⊥
  from_nothing [] t h = cc
  from_nothing (e ∷ es) t h = from_nothing es t h

  fold_grows : (es : List CellEntry) (s t : Store) → fold_turns (store_turn cell) (Some s) es ≡ Some t → (r : Range) → Contains s.known r → Contains t.known r
  fold_grows [] s t h r is = let same : s ≡ t = cc in subst (λ (x : Store). Contains x.known r) same is
  fold_grows (e ∷ es) s t h r is = go (store_turn cell s e) refl h (λ u there. fold_grows es u t there)
    where
      go : (o : Option Store) → store_turn cell s e ≡ o → fold_turns (store_turn cell) o es ≡ Some t → ((u : Store) → fold_turns (store_turn cell) (Some u) es ≡ Some t → (q : Range) → Contains u.known q → Contains t.known q) → Contains t.known r
      go None turn rest deeper = absurd (from_nothing es t rest)
      go (Some u) turn rest deeper = deeper u rest r (turn_grows s u e turn r is)

  fold_keeps : (es : List CellEntry) (s t : Store) → fold_turns (store_turn cell) (Some s) es ≡ Some t → Ordered t → Fine cell s → Fine cell t
  fold_keeps [] s t h ordered fine = let same : s ≡ t = cc in subst (Fine cell) same fine
  fold_keeps (e ∷ es) s t h ordered fine = go (store_turn cell s e) refl h (λ u there. fold_keeps es u t there ordered)
    where
      go : (o : Option Store) → store_turn cell s e ≡ o → fold_turns (store_turn cell) o es ≡ Some t → ((u : Store) → fold_turns (store_turn cell) (Some u) es ≡ Some t → Fine cell u → Fine cell t) → Fine cell t
      go None turn rest deeper = absurd (from_nothing es t rest)
      go (Some u) turn rest deeper = deeper u rest (turn_keeps s u e turn (λ r is. ordered r (fold_grows es u t rest r is)) fine)

  nothing_fine : Fine cell empty_store
  nothing_fine = record {
    fits = empty_fits;
    few = (let none = len-empty lease_cmp Operations in omega (arith, none));
    own = λ l o is. (let both : None ≡ Some o = sym (get-empty lease_cmp l) ∙ is in absurd cc);
  }

  file_fine : (es : List CellEntry) (t : Store) → store_in cell es ≡ Some t → Ordered t → Fine cell t
  unfolding store_in
  file_fine es t h ordered = fold_keeps es empty_store t h ordered nothing_fine

module _ (registry : Registry) (files : Files) (w : World) (configured : AreCells registry) (proper : IsProper registry files w) (fresh : AreJustOpened registry w) where
  ordered : (cell : ℕ) → Ordered (store_at w cell)
  ordered cell r is =
      let known = proper.known cell in
      let given = subst (λ (rs : List Range). Contains rs r) (sym known.1) (Contains-append_left (agent_of w.agents cell).known known.0 r is) in
      ends_within w.claims.ranges proper.sound.ranges r (of_filter (λ (x : Range). nat_eq x.cell cell) w.claims.ranges r given).0

  fine : (cell : ℕ) → Fine cell (store_at w cell)
  fine cell = elim (proper.lacking cell) [
    | inl of ↦ file_fine cell (files.cells cell) (store_at w cell) (subst (λ n. store_in n (files.cells n) ≡ Some (store_at w n)) of.2 (proper.stand.stores of.0 of.1)) (ordered cell)
    | inr none ↦ subst (Fine cell) (sym none) (nothing_fine cell)
  ]

  no_attempt : (cell : ℕ) (lease : LeaseId) (attempt : Attempt) → map.get (agent_of w.agents cell).pending lease ≡ Some attempt → ⊥
  no_attempt cell lease attempt is = let both : None ≡ Some attempt = sym (get-empty lease_cmp lease) ∙ ap (λ m. map.get m lease) (sym (fresh.none_waits cell)) ∙ is in cc

  life : (lease : LeaseId) → IsLifeInOrder (IsDrawn w.agents lease) (life_of w.claims w.agents lease)
  life lease = record {
    known_drawn = λ known. (proper.bounds lease known, inl (fresh.above lease known));
    pending_drawn = λ attempt is. absurd (no_attempt lease.cell lease attempt is);
    unsettled = λ ops is. proper.sound.unsettled lease ops is;
    recorded_open = λ is. (proper.recorded lease).0 is;
    row_recorded = λ ops theirs row opened. elim (proper.rows lease ops row) [
      | inl mine ↦ (proper.recorded lease).1 (ops, mine, row)
      | inr committed ↦ (let none = proper.sound.unsettled lease theirs opened in let both : None ≡ Some Rattle.claim_types.specs.declared.lease.How.TheVariants.Committed = sym none ∙ committed in absurd cc)
    ];
    row_known = λ ops row. elim (proper.rows lease ops row) [ inl mine ↦ inl (ops, mine) | inr committed ↦ inr committed ];
    pending_rowless = λ attempt is. absurd (no_attempt lease.cell lease attempt is);
    pending_unsettled = λ attempt is. absurd (no_attempt lease.cell lease attempt is);
    pending_open = λ attempt ops is opened. absurd (no_attempt lease.cell lease attempt is);
  }

  cell_order : (cell : ℕ) → IsCellInOrder (ranges_of w.claims.ranges cell) cell (tree_of w.claims cell) (agent_of w.agents cell)
  cell_order cell =
      let kept = fine cell in
      record {
        room = (let none = ap map.len (fresh.none_waits cell) ∙ len-empty lease_cmp Attempt in let few = kept.few in omega (arith, none, few));
        own_attempts = λ l attempt is. absurd (no_attempt cell l attempt is);
        own_rows = kept.own;
        known = proper.known cell;
        fits = kept.fits;
        present_epoch = λ l attempt is. absurd (no_attempt cell l attempt is);
        asked_before = λ l attempt is. absurd (no_attempt cell l attempt is);
        well_formed = λ l attempt is. absurd (no_attempt cell l attempt is);
        asked_now = λ l attempt is at. absurd (no_attempt cell l attempt is);
      }

  pub proper_start : IsStart registry w
  proper_start = record {
    configured = configured;
    sound = proper.sound;
    lives = life;
    cells = cell_order;
    installed = λ cell a at. let there = fresh.installed cell a at in record { number = subst Rattle.claim_types.specs.Bounds.IsCell there.0.2 (configured.ids there.0.0 there.0.1); epoch_least = there.1.0; epoch_most = there.1.1 };
    none_waits = fresh.none_waits;
    nothing_sent = fresh.nothing_sent;
    nothing_handed = fresh.nothing_handed;
    no_trace = fresh.no_trace;
    no_notes = fresh.no_notes;
  }
