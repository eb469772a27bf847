-- At each moment of an opening the files stand for what they might have stood for at its start, where cells may be in later epochs.
use Rattle.std.proofs.Common.{◌≡◌, ◌≢◌, ◌⊎◌, inl, inr, ⊎_elim, ℕ, ◌+◌, ◌<◌, ◌≤◌, nat_eq, true, false, cond, IsTrue, List, [], ◌∷◌, ◌++◌, Option, Some, None, map as list_map, refl, sym, ◌∙◌, ap, subst, arith}
use Rattle.std.specs.Prelude.{IsSome}
use Rattle.std.specs.List.{Contains}
use Rattle.std.proofs.lemmas.Bool.Decides.{Decides-eqb}
use Rattle.cells_base.proofs.Finds.{find_passes}
use Rattle.cells_base.proofs.Truth.{true_or_false}
use Rattle.disk_journal.specs.declared.disk.Disk.{Ghosts}
use Rattle.disk_journal.specs.Disk.{Image, IsImage}
use Rattle.disk_journal.specs.Effects.{IsOpening, IsTrimmed}
use Rattle.disk_journal.specs.Entries.{Format, HasEntries, IsOneToOne, Stands}
use Rattle.disk_journal.specs.Journal.{HasBodies, IsJournal}
use Rattle.disk_journal.specs.Moments.{LeavesOnly}
use Rattle.disk_journal.proofs.Entries.{one_list_of}
use Rattle.disk_journal.proofs.Moments.{CountsNow, OnlyNow, SeenMayStay, joined, started, weaker}
use Rattle.disk_journal.proofs.Reading.{one_list}
use Rattle.entry_codec.proofs.Entries.{cell_one}
use Rattle.entry_codec.specs.Spelling.{cell_entry_bytes}
use Rattle.claim_types.specs.declared.cell.Cell.{Cell}
use Rattle.claim_types.specs.declared.entry.CellEntry.TheVariants.{Epoch}
use Rattle.claim_map.specs.Bounds.{AreCells}
use Rattle.claim_map.specs.Registry.{Registry, cell_of}
use Rattle.claim_map.proofs.Found.{Contains-found}
use Rattle.claim_laws.specs.Files.{Store, store_in}
use Rattle.claim_service.specs.Node.{service}
use Rattle.claim_service.specs.Opening.{KnowsAll}
use Rattle.claim_service.specs.declared.limits.TheConstants.{SERVICE_FILE}
use Rattle.cell_store.specs.Opening.{GoesOn, HasNextEpoch, IsOpened, IsOpeningOrNext, KeepsBodies, OpensAtNext, next_epoch}
use Rattle.cell_store.specs.declared.store.CellStore.{CellStore}
use Rattle.cell_store.specs.Store.{store}
use Rattle.cell_store.proofs.Turning.{epoch_turns, goes_on}
use Rattle.cells_world.specs.Opening.{AreMoved, IsAsBefore, IsIdOf, IsOpenedFrom, IsStoreAsBefore, KeepsFiles, Moves, StandsStill, in_epoch}
use Rattle.cells_world.proofs.Places.{same_some}

-- a file that reads the same stands for the same
pub stands_same : {E S : Type 0} (f : Format E S) (from img : Image) (file : ℕ) (s : S) → img file ≡ from file → Stands f img file s → Stands f from file s
stands_same f from img file s same is = record {
  es = is.es;
  has = record { bodies = subst (λ c. IsJournal c (list_map f.bytes is.es)) same is.has.bodies; entries = is.has.entries };
  folds = is.folds;
}

entries_same : {E S : Type 0} (f : Format E S) (from img : Image) (file : ℕ) (es : List E) → from file ≡ img file → HasEntries f from file es → HasEntries f img file es
entries_same f from img file es same has = record { bodies = subst (λ c. IsJournal c (list_map f.bytes es)) same has.bodies; entries = has.entries }

-- a file that keeps its bodies stands for what it stood for
pub stands_on : {E S : Type 0} (f : Format E S) (from img : Image) (file : ℕ) (s : S) → KeepsBodies file from img → Stands f from file s → Stands f img file s
stands_on f from img file s keeps is = record { es = is.es; has = record { bodies = keeps.bodies (list_map f.bytes is.es) is.has.bodies; entries = is.has.entries }; folds = is.folds }

-- it has the entries that it had
entries_on : {E S : Type 0} (f : Format E S) (from img : Image) (file : ℕ) (es : List E) → KeepsBodies file from img → HasEntries f from file es → HasEntries f img file es
entries_on f from img file es keeps has = record { bodies = keeps.bodies (list_map f.bytes es) has.bodies; entries = has.entries }

-- the service's file names the cells that it named, where it keeps its bodies
pub knows_on : (registry : Registry) (from img : Image) → KeepsBodies SERVICE_FILE from img → KnowsAll registry from → KnowsAll registry img
knows_on registry from img keeps is = record { es = is.es; has = entries_on service from img SERVICE_FILE is.es keeps is.has; known = is.known }

-- and where it reads the same
pub knows_same : (registry : Registry) (from img : Image) → from SERVICE_FILE ≡ img SERVICE_FILE → KnowsAll registry from → KnowsAll registry img
knows_same registry from img same is = record { es = is.es; has = entries_same service from img SERVICE_FILE is.es same is.has; known = is.known }

pub trimmed_keeps : (file : ℕ) (from img : Image) → IsTrimmed file from img → KeepsBodies file from img
trimmed_keeps file from img is = record { bodies = is.bodies; no_journal = λ none. is.no_journal none file refl }

-- a file stands for one state
pub same_state : {E S : Type 0} (f : Format E S) → IsOneToOne f → (img : Image) (file : ℕ) (s t : S) → Stands f img file s → Stands f img file t → s ≡ t
same_state f one img file s t a b = same_some s t (sym a.folds ∙ ap f.state_in (one_list_of f one img file a.es b.es a.has b.has) ∙ b.folds)

-- no cell's file is the service's
pub number_of : (registry : Registry) → AreCells registry → (id : ℕ) → IsSome (cell_of registry id) → 1 ≤ id
number_of registry cells id known = go (cell_of registry id) refl
  where
    go : (o : Option Cell) → cell_of registry id ≡ o → 1 ≤ id
    go None is = let none : IsSome {T = Cell} None = subst (λ (o : Option Cell). IsSome o) is known in absurd cc
    go (Some c) is = subst (λ n. 1 ≤ n) ((Decides-eqb c.id id).0 (find_passes (λ (x : Cell). nat_eq x.id id) registry.cells c is)) (cells.ids c (Contains-found (λ (x : Cell). nat_eq x.id id) registry.cells c is)).0

-- one file of an image, and the others of another
module _ (file : ℕ) (own others : Image) where
  abbrev mixed : Image
  mixed q = cond (nat_eq q file) (own q) (others q)

  mixed_here : mixed file ≡ own file
  mixed_here = ap (λ b. cond b (own file) (others file)) ((Decides-eqb file file).1 refl)

  mixed_might : {D : Type 0} (g : Ghosts D) (d : D) → g.may_leave d file (own file) → ((q : ℕ) → q ≢ file → g.may_leave d q (others q)) → IsImage (g.may_leave d) mixed
  mixed_might g d this those q = elim (true_or_false (nat_eq q file)) [
    | inl same ↦ let is = (Decides-eqb q file).0 same in subst (λ x. g.may_leave d x (mixed x)) (sym is) (subst (g.may_leave d file) (sym mixed_here) this)
    | inr other ↦ subst (g.may_leave d q) (sym (ap (λ b. cond b (own q) (others q)) other)) (those q (λ is. let both : true ≡ false = sym ((Decides-eqb q file).1 is) ∙ other in cc))
  ]

  -- of each file what is said of the one, or that it is the same
  mixed_files : (WentOn : ℕ → Image → Image → Type 0) → WentOn file mixed others → (q : ℕ) → (others q ≡ mixed q) ⊎ ((q ≡ file) × WentOn q mixed others)
  mixed_files WentOn went q = elim (true_or_false (nat_eq q file)) [
    | inl same ↦ let is = (Decides-eqb q file).0 same in inr (is, subst (λ x. WentOn x mixed others) (sym is) went)
    | inr other ↦ inl (sym (ap (λ b. cond b (own q) (others q)) other))
  ]

-- what is said of a file is said of its bytes
module _ (cell : ℕ) (from now img then_img : Image) (was : from cell ≡ now cell) (is : img cell ≡ then_img cell) where
  pub keeps_same : KeepsBodies cell now then_img → KeepsBodies cell from img
  keeps_same keeps = record {
    bodies = λ bs of. subst (λ c. IsJournal c bs) (sym is) (keeps.bodies bs (subst (λ c. IsJournal c bs) was of));
    no_journal = λ none. is ∙ keeps.no_journal (λ bs of. none bs (subst (λ c. IsJournal c bs) (sym was) of)) ∙ sym was;
  }

  pub before_same : (tries : ℕ) → IsStoreAsBefore tries cell now then_img → IsStoreAsBefore tries cell from img
  before_same tries before = record {
    stands = λ s of. (
        let it = before.stands s (stands_same (store cell) now from cell s was of) in
        (it.0, it.1, it.2, stands_same (store cell) img then_img cell (in_epoch it.0 s) (sym is) it.3));
    damaged = λ none. keeps_same (before.damaged (λ s of. none s (stands_same (store cell) from now cell s (sym was) of)));
  }

-- a file that is the same keeps its bodies
itself : (file : ℕ) (from img : Image) → img file ≡ from file → KeepsBodies file from img
itself file from img same = record { bodies = λ bs of. subst (λ c. IsJournal c bs) (sym same) of; no_journal = λ none. same }

pub keeps_then : (file : ℕ) (from mid img : Image) → KeepsBodies file from mid → KeepsBodies file mid img → KeepsBodies file from img
keeps_then file from mid img first second = record {
  bodies = λ bs of. second.bodies bs (first.bodies bs of);
  no_journal = λ none. (let same = first.no_journal none in second.no_journal (λ bs of. none bs (subst (λ c. IsJournal c bs) same of)) ∙ same);
}

-- A cell's file.
module _ (cell : ℕ) (from img : Image) where
  keeps_before : KeepsBodies cell from img → IsStoreAsBefore 1 cell from img
  keeps_before keeps = record { stands = λ s of. (s.epoch, omega arith, omega arith, stands_on (store cell) from img cell s keeps of); damaged = λ none. keeps }

  next_before : HasNextEpoch cell from img → IsStoreAsBefore 1 cell from img
  next_before next = record {
    stands = λ s of. (
        let same = one_list_of (store cell) cell_one from cell of.es next.es of.has next.had in
        let state : next.state ≡ s = same_some next.state s (sym next.folds ∙ ap (store_in cell) (sym same) ∙ of.folds) in
        let here : Stands (store cell) img cell (next_epoch next.state) = record { es = next.es ++ Epoch (next.state.epoch + 1) ∷ []; has = next.has; folds = goes_on cell next.state (next_epoch next.state) (Epoch (next.state.epoch + 1)) (epoch_turns cell next.state) next.es next.folds } in
        (s.epoch + 1, omega arith, omega arith, subst (λ (t : Store). Stands (store cell) img cell (next_epoch t)) state here));
    damaged = λ none. absurd (none next.state (record { es = next.es; has = next.had; folds = next.folds }));
  }

  pub goes_before : GoesOn cell from img → IsStoreAsBefore 1 cell from img
  goes_before (inl keeps) = keeps_before keeps
  goes_before (inr next) = next_before next

  pub once_or_twice : IsStoreAsBefore 1 cell from img → IsStoreAsBefore 2 cell from img
  once_or_twice once = record { stands = λ s of. (let it = once.stands s of in let most = it.2 in (it.0, it.1, omega (arith, most), it.3)); damaged = once.damaged }

-- one try, and then another
module _ (cell : ℕ) (from mid img : Image) (first : IsStoreAsBefore 1 cell from mid) (second : IsStoreAsBefore 1 cell mid img) where
  none_there : ((s : Store) → Stands (store cell) from cell s → ⊥) → (s : Store) → Stands (store cell) mid cell s → ⊥
  none_there none s of =
      let keeps = first.damaged none in
      let no_bodies : (bs : List (List ℕ)) → HasBodies from cell bs → ⊥ = (λ bs had. (
      let same = one_list mid cell bs (list_map cell_entry_bytes of.es) (keeps.bodies bs had) of.has.bodies in
      none s (record { es = of.es; has = record { bodies = subst (HasBodies from cell) same had; entries = of.has.entries }; folds = of.folds }))) in
      none s (stands_same (store cell) from mid cell s (keeps.no_journal no_bodies) of)

  pub twice_before : IsStoreAsBefore 2 cell from img
  twice_before = record {
    stands = λ s of. (
        let one = first.stands s of in
        let two = second.stands (in_epoch one.0 s) one.3 in
        (two.0, (let a = one.1 in let b = two.1 in omega (arith, a, b)), (let a = one.2 in let b = two.2 in omega (arith, a, b)), two.3));
    damaged = λ none. keeps_then cell from mid img (first.damaged none) (second.damaged (none_there none));
  }

module _ {D : Type 0} (g : Ghosts D) (old : D) where
  -- the service's file in one try
  service_moved : (img : Image) → IsOpening g old SERVICE_FILE img → AreMoved g (λ q. q ≡ SERVICE_FILE) KeepsBodies old img
  service_moved img is = record {
    from = mixed SERVICE_FILE is.from img;
    might = mixed_might SERVICE_FILE is.from img g old (is.might SERVICE_FILE) is.others;
    files = mixed_files SERVICE_FILE is.from img KeepsBodies
        (keeps_same SERVICE_FILE (mixed SERVICE_FILE is.from img) is.from img img (mixed_here SERVICE_FILE is.from img) refl (trimmed_keeps SERVICE_FILE is.from img is.own));
  }

  pub service_moves : (new : D) → LeavesOnly g old new (IsOpening g old SERVICE_FILE) → Moves g (λ q. q ≡ SERVICE_FILE) KeepsBodies old new
  service_moves new moments = weaker g old new (IsOpening g old SERVICE_FILE) (AreMoved g (λ q. q ≡ SERVICE_FILE) KeepsBodies old) moments service_moved

  -- a cell's file in one try
  module _ (cell : ℕ) (stay : SeenMayStay g) where
    went_on : (own img : Image) → g.may_leave old cell (own cell) → ((q : ℕ) → q ≢ cell → g.may_leave old q (img q)) → IsStoreAsBefore 1 cell own img → AreMoved g (λ q. q ≡ cell) (IsStoreAsBefore 1) old img
    went_on own img might others before = record {
      from = mixed cell own img;
      might = mixed_might cell own img g old might others;
      files = mixed_files cell own img (IsStoreAsBefore 1) (before_same cell (mixed cell own img) own img img (mixed_here cell own img) refl 1 before);
    }

    cell_moved : (img : Image) → IsOpeningOrNext g cell old img → AreMoved g (λ q. q ≡ cell) (IsStoreAsBefore 1) old img
    cell_moved img is = elim is.this [
      | inl it ↦ went_on it.0 img (it.1 cell) is.others (keeps_before cell it.0 img it.2)
      | inr next ↦ went_on (g.seen old) img (stay old cell) is.others (next_before cell (g.seen old) img next)
    ]

    pub cell_moves : (new : D) → OpensAtNext g cell old new → Moves g (λ q. q ≡ cell) (IsStoreAsBefore 1) old new
    cell_moves new opens = weaker g old new (IsOpeningOrNext g cell old) (AreMoved g (λ q. q ≡ cell) (IsStoreAsBefore 1) old) opens cell_moved

-- Moments join, where what went on in the first and in the second part went on so in both.
abbrev Joins : (ℕ → Type 0) → (ℕ → Image → Image → Type 0) → (ℕ → Type 0) → (ℕ → Image → Image → Type 0) → (ℕ → Type 0) → (ℕ → Image → Image → Type 0) → Type 0
Joins A R B S C T = (q : ℕ) (from mid img : Image) → (mid q ≡ from q) ⊎ (A q × R q from mid) → (img q ≡ mid q) ⊎ (B q × S q mid img) → (img q ≡ from q) ⊎ (C q × T q from img)

module _ {D : Type 0} (g : Ghosts D) where
  pub moves_still : (d : D) (A : ℕ → Type 0) (R : ℕ → Image → Image → Type 0) → OnlyNow g → Moves g A R d d
  moves_still d A R only_now tells = started g d (AreMoved g A R d) only_now (λ img is. record { from = img; might = is; files = λ q. inl refl })

  pub moves_so : (old new : D) (A C : ℕ → Type 0) (R T : ℕ → Image → Image → Type 0) → ((q : ℕ) (from img : Image) → A q × R q from img → C q × T q from img) → Moves g A R old new → Moves g C T old new
  moves_so old new A C R T so moves = weaker g old new (AreMoved g A R old) (AreMoved g C T old) moves
      (λ img is. record { from = is.from; might = is.might; files = λ q. ⊎_elim (λ same. inl same) (λ went. inr (so q is.from img went)) (is.files q) })

  pub moves_then : CountsNow g → (old mid new : D) (A B C : ℕ → Type 0) (R S T : ℕ → Image → Image → Type 0) → Joins A R B S C T → Moves g A R old mid → Moves g B S mid new → Moves g C T old new
  moves_then counts_now old mid new A B C R S T joins first second tells =
      let one = first tells in
      let now : (img : Image) → IsImage (g.may_leave mid) img → AreMoved g A R old img = (λ img is. one.each img (counts_now mid (g.moment old) img one.later is)) in
      joined g old mid new (AreMoved g A R old) (AreMoved g B S mid) (AreMoved g C T old) one (second tells)
      (λ img is. record { from = is.from; might = is.might; files = λ q. joins q is.from img img (is.files q) (inl refl) })
      (λ img is. (
      let at = now is.from is.might in
      record { from = at.from; might = at.might; files = λ q. joins q at.from is.from img (at.files q) (is.files q) }))

  -- no call of the disk was made
  pub keeps_still : (registry : Registry) (d : D) → OnlyNow g → KeepsFiles g registry d d
  keeps_still registry d only_now tells = started g d (IsAsBefore g registry d) only_now (λ img is. record {
    from = img;
    might = is;
    service = itself SERVICE_FILE img img refl;
    stores = λ id some. once_or_twice id img img (keeps_before id img img (itself id img img refl));
    others = λ q apart none. refl;
  })

  -- one file, tried twice
  pub service_twice : CountsNow g → (old mid new : D) → Moves g (λ q. q ≡ SERVICE_FILE) KeepsBodies old mid → Moves g (λ q. q ≡ SERVICE_FILE) KeepsBodies mid new → Moves g (λ q. q ≡ SERVICE_FILE) KeepsBodies old new
  service_twice counts_now old mid new = moves_then counts_now old mid new _ _ _ KeepsBodies KeepsBodies KeepsBodies both
    where
      both : Joins (λ q. q ≡ SERVICE_FILE) KeepsBodies (λ q. q ≡ SERVICE_FILE) KeepsBodies (λ q. q ≡ SERVICE_FILE) KeepsBodies
      both q from mid_img img (inl was) (inl is) = inl (is ∙ was)
      both q from mid_img img (inl was) (inr went) = inr (went.0, keeps_same q from mid_img img img (sym was) refl went.1)
      both q from mid_img img (inr went) (inl is) = inr (went.0, keeps_same q from from img mid_img refl is went.1)
      both q from mid_img img (inr went) (inr more) = inr (more.0, keeps_then q from mid_img img went.1 more.1)

  pub cell_twice : CountsNow g → (cell : ℕ) (old mid new : D) → Moves g (λ q. q ≡ cell) (IsStoreAsBefore 1) old mid → Moves g (λ q. q ≡ cell) (IsStoreAsBefore 1) mid new → Moves g (λ q. q ≡ cell) (IsStoreAsBefore 2) old new
  cell_twice counts_now cell old mid new = moves_then counts_now old mid new _ _ _ (IsStoreAsBefore 1) (IsStoreAsBefore 1) (IsStoreAsBefore 2) both
    where
      both : Joins (λ q. q ≡ cell) (IsStoreAsBefore 1) (λ q. q ≡ cell) (IsStoreAsBefore 1) (λ q. q ≡ cell) (IsStoreAsBefore 2)
      both q from mid_img img (inl was) (inl is) = inl (is ∙ was)
      both q from mid_img img (inl was) (inr went) = inr (went.0, once_or_twice q from img (before_same q from mid_img img img (sym was) refl 1 went.1))
      both q from mid_img img (inr went) (inl is) = inr (went.0, once_or_twice q from img (before_same q from from img mid_img refl is 1 went.1))
      both q from mid_img img (inr went) (inr more) = inr (more.0, twice_before q from mid_img img went.1 more.1)

  pub moves_once : (cell : ℕ) (old new : D) → Moves g (λ q. q ≡ cell) (IsStoreAsBefore 1) old new → Moves g (λ q. q ≡ cell) (IsStoreAsBefore 2) old new
  moves_once cell old new = moves_so old new _ _ (IsStoreAsBefore 1) (IsStoreAsBefore 2) (λ q from img went. (went.0, once_or_twice q from img went.1))

  -- files of some numbers, and then those of others
  pub moves_apart : CountsNow g → (old mid new : D) (A B C : ℕ → Type 0) (R : ℕ → Image → Image → Type 0) → ((q : ℕ) (from mid_img img img_now : Image) → from q ≡ mid_img q → img_now q ≡ img q → R q mid_img img → R q from img_now) →
      ((q : ℕ) → A q → B q → ⊥) → ((q : ℕ) → A q → C q) → ((q : ℕ) → B q → C q) → Moves g A R old mid → Moves g B R mid new → Moves g C R old new
  moves_apart counts_now old mid new A B C R same apart left right = moves_then counts_now old mid new A B C R R R both
    where
      both : Joins A R B R C R
      both q from mid_img img (inl was) (inl is) = inl (is ∙ was)
      both q from mid_img img (inl was) (inr went) = inr (right q went.0, same q from mid_img img img (sym was) refl went.1)
      both q from mid_img img (inr went) (inl is) = inr (left q went.0, same q from from mid_img img refl is went.1)
      both q from mid_img img (inr went) (inr more) = absurd (apart q went.0 more.0)

  -- the service's file, and then those of the cells
  pub moves_all : (registry : Registry) → AreCells registry → CountsNow g → (old mid new : D) → Moves g (λ q. q ≡ SERVICE_FILE) KeepsBodies old mid → ((q : ℕ) → IsIdOf registry.cells q → IsSome (cell_of registry q)) → Moves g (IsIdOf registry.cells) (IsStoreAsBefore 2) mid new → KeepsFiles g registry old new
  moves_all registry cells counts_now old mid new first known second tells =
      weaker g old new (AreMoved g Either Went old) (IsAsBefore g registry old) (moves_then counts_now old mid new _ _ Either KeepsBodies (IsStoreAsBefore 2) Went both first second) whole tells
    where
      Either : ℕ → Type 0
      Either q = (q ≡ SERVICE_FILE) ⊎ IsSome (cell_of registry q)

      Went : ℕ → Image → Image → Type 0
      Went q from img = (q ≡ SERVICE_FILE × KeepsBodies q from img) ⊎ (IsSome (cell_of registry q) × IsStoreAsBefore 2 q from img)

      not_both : (q : ℕ) → q ≡ SERVICE_FILE → IsSome (cell_of registry q) → ⊥
      not_both q zero_is some = let one = number_of registry cells q some in omega (arith, one, zero_is)

      both : Joins (λ q. q ≡ SERVICE_FILE) KeepsBodies (IsIdOf registry.cells) (IsStoreAsBefore 2) Either Went
      both q from mid_img img (inl was) (inl is) = inl (is ∙ was)
      both q from mid_img img (inl was) (inr went) = inr (inr (known q went.0), inr (known q went.0, before_same q from mid_img img img (sym was) refl 2 went.1))
      both q from mid_img img (inr went) (inl is) = inr (inl went.0, inl (went.0, keeps_same q from from img mid_img refl is went.1))
      both q from mid_img img (inr went) (inr more) = absurd (not_both q went.0 (known q more.0))

      whole : (img : Image) → AreMoved g Either Went old img → IsAsBefore g registry old img
      whole img is = record {
        from = is.from;
        might = is.might;
        service = ⊎_elim (λ same. itself SERVICE_FILE is.from img same) (λ went. ⊎_elim (λ own. own.1) (λ other. absurd (not_both SERVICE_FILE refl other.0)) went.1) (is.files SERVICE_FILE);
        stores = λ id some. ⊎_elim (λ same. once_or_twice id is.from img (keeps_before id is.from img (itself id is.from img same))) (λ went. ⊎_elim (λ own. absurd (not_both id own.0 some)) (λ other. other.1) went.1) (is.files id);
        others = λ q apart none. ⊎_elim (λ same. same) (λ went. ⊎_elim (λ own. absurd (apart own)) (λ some. let no : IsSome {T = Cell} None = subst (λ (o : Option Cell). IsSome o) none some in absurd cc) went.0) (is.files q);
      }

-- What a store keeps that was opened in the first try, or in the second.
module _ {D : Type 0} (g : Ghosts D) (cell : ℕ) (old : D) where
  pub opened_first : (new : D) (s : CellStore) → (IsTrue g.tells → IsOpened cell (g.seen old) s) → IsOpenedFrom g cell old new s
  opened_first new s opened tells before stands =
      let it = opened tells in
      (before.epoch + 1, (omega arith, omega arith, λ still. refl), it.now ∙ ap next_epoch (same_state (store cell) cell_one (g.seen old) cell it.before before it.stands stands))

  pub opened_second : (mid new : D) (s : CellStore) → (IsTrue g.tells → GoesOn cell (g.seen old) (g.seen mid)) → (IsTrue g.tells → IsOpened cell (g.seen mid) s) → (StandsStill g old new → ⊥) → IsOpenedFrom g cell old new s
  opened_second mid new s reads opened rose tells before stands =
      let first = (goes_before cell (g.seen old) (g.seen mid) (reads tells)).stands before stands in
      let it = opened tells in
      let least = first.1 in
      let most = first.2 in
      (first.0 + 1, (omega (arith, least), omega (arith, most), λ still. absurd (rose still)), it.now ∙ ap next_epoch (same_state (store cell) cell_one (g.seen mid) cell it.before (in_epoch first.0 before) it.stands first.3))
