-- What the layers above need of entries on a disk, for any form of them.
use Rattle.std.proofs.Common.{◌≡◌, true, IsTrue, ◌⊎◌, inl, inr, ⊎_elim, ap, ℕ, List, [], ◌∷◌, ◌++◌, Option, Some, None, refl, sym, ◌∙◌, subst}
use Rattle.std.specs.Prelude.{map}
use Rattle.std.specs.List.{AllByRecursion}
use Rattle.disk_journal.specs.declared.disk.Disk.{Ghosts}
use Rattle.disk_journal.specs.Disk.{Image, IsImage}
use Rattle.disk_journal.specs.Moments.{LeavesOnly}
use Rattle.disk_journal.specs.Journal.{HasBodies, JournalState}
use Rattle.disk_journal.specs.Effects.{AreApart, MayLeaveOwn, OthersStay, StaysElsewhere, IsSettled, IsAppending, IsOpening, Adds, AddsAtMost, HasBodiesOr, LeavesBodyInDoubt}
use Rattle.cells_base.specs.Lists.{with_entry}
use Rattle.disk_journal.specs.Entries.{Format, IsOneToOne, HasEntries, HasEntriesOr, Stands, Keeper, Rests, IsAtRest, HasTheseOr, AppendsAtMost, Appended, IsEntryInDoubt, LeavesEntryInDoubt, HasAsBefore, OpensAs, HasAsBeforeOr, OpensWith, AlwaysHasEntries}
use Rattle.disk_journal.proofs.Moments.{OnlyNow, CountsNow, SeenMayStay, started, weaker, joins}
use Rattle.disk_journal.proofs.Settled.{settled_seen, settled_elsewhere}
use Rattle.disk_journal.proofs.Reading.{one_list}

-- entries that are written one-to-one are one list in any image
module _ {E S : Type 0} (f : Format E S) (apart : IsOneToOne f) where
  one_spelling : (es fs : List E) → AllByRecursion f.IsEntry es → AllByRecursion f.IsEntry fs → map f.bytes es ≡ map f.bytes fs → es ≡ fs
  one_spelling [] [] a b same = refl
  one_spelling [] (y ∷ fs) a b same = cc
  one_spelling (x ∷ es) [] a b same = cc
  one_spelling (x ∷ es) (y ∷ fs) a b same =
      let head : f.bytes x ≡ f.bytes y = cc in
      let tail : map f.bytes es ≡ map f.bytes fs = cc in
      ap (λ e. e ∷ es) (apart x y a.0 b.0 head) ∙ ap (λ rest. y ∷ rest) (one_spelling es fs a.1 b.1 tail)

  pub one_list_of : (img : Image) (file : ℕ) (es fs : List E) → HasEntries f img file es → HasEntries f img file fs → es ≡ fs
  one_list_of img file es fs a b = one_spelling es fs a.entries b.entries (one_list img file (map f.bytes es) (map f.bytes fs) a.bodies b.bodies)

module _ {D E S : Type 0} (g : Ghosts D) (f : Format E S) where
  -- whatever a crash leaves of the node's own files has its entries, and so has what a read gives
  pub rests_in : (d : D) (k : Keeper S) (es : List E) → Rests g f d k es → (img : Image) → MayLeaveOwn g d k.journal.file img → HasEntries f img k.journal.file es
  rests_in d k es rests img own = record { bodies = rests.settled.durable img own; entries = rests.entries }

  pub rests_seen : (d : D) (k : Keeper S) (es : List E) → Rests g f d k es → HasEntries f (g.seen d) k.journal.file es
  rests_seen d k es rests = record { bodies = settled_seen g d k.journal (map f.bytes es) rests.settled; entries = rests.entries }

  pub stands_in : (d : D) (k : Keeper S) → IsTrue g.tells → IsAtRest g f d k → (img : Image) → MayLeaveOwn g d k.journal.file img → Stands f img k.journal.file k.state
  stands_in d k tells rest img own = let it = rest tells in record { es = it.0; has = rests_in d k it.0 it.1 img own; folds = it.1.folds }

  -- a call that has to do with another node's files leaves it at rest
  pub rests_with : (old new : D) (file : ℕ) (k : Keeper S) (es : List E) → IsTrue g.tells → AreApart file k.journal.file → StaysElsewhere g file old new → Rests g f old k es → Rests g f new k es
  rests_with old new file k es tells apart stays rests = record {
    live = rests.live;
    settled = settled_elsewhere g old new file k.journal (map f.bytes es) apart (stays tells) rests.settled;
    entries = rests.entries;
    folds = rests.folds;
  }

  pub rests_on : (old new : D) (file : ℕ) (k : Keeper S) → AreApart file k.journal.file → StaysElsewhere g file old new → IsAtRest g f old k → IsAtRest g f new k
  rests_on old new file k apart stays rest = λ tells. let it = rest tells in (it.0, rests_with old new file k it.0 tells apart stays it.1)

-- one entry more
module _ {E S : Type 0} (f : Format E S) (e : E) where
  pub map_push : (es : List E) → map f.bytes (es ++ e ∷ []) ≡ map f.bytes es ++ f.bytes e ∷ []
  map_push [] = refl
  map_push (x ∷ es) = ap (λ bs. f.bytes x ∷ bs) (map_push es)

  pub all_push : (es : List E) → AllByRecursion f.IsEntry es → f.IsEntry e → AllByRecursion f.IsEntry (es ++ e ∷ [])
  all_push [] all entry = (entry, tt)
  all_push (x ∷ es) all entry = (all.0, all_push es all.1 entry)

  pub has_either : (img : Image) (file : ℕ) (es : List E) → AllByRecursion f.IsEntry es → f.IsEntry e → HasBodiesOr img file (map f.bytes es) (f.bytes e) → HasEntriesOr f img file es (Some e)
  has_either img file es all entry (inl has) = inl (record { bodies = has; entries = all })
  has_either img file es all entry (inr has) = inr (record { bodies = subst (HasBodies img file) (sym (map_push es)) has; entries = all_push es all entry })

-- From what an append of the journal promises to what the node's call promises.
module _ {D E S : Type 0} (g : Ghosts D) (f : Format E S) (old new : D) (k : Keeper S) (t : S) (e : E) (journal : JournalState)
    (entry : f.IsEntry e) (turns : (es : List E) → f.state_in es ≡ Some k.state → f.state_in (es ++ e ∷ []) ≡ Some t) where
  -- `live` and `adds` of an Ok append
  pub appended : journal.live ≡ true → Adds g old new k.journal journal (f.bytes e) → Appended g f old new k (record { journal = journal; state = t }) (Some e)
  appended live adds = λ tells es rests. record {
    live = live;
    settled = subst (IsSettled g new journal) (sym (map_push f e es)) (adds tells (map f.bytes es) rests.settled);
    entries = all_push f e es rests.entries entry;
    folds = turns es rests.folds;
  }

  -- `any_moment` of any append
  pub appends_at_most : AddsAtMost g old new k.journal (f.bytes e) → AppendsAtMost g f old new k (Some e)
  appends_at_most any_moment = λ es rests.
      weaker g old new (IsAppending g old k.journal.file (map f.bytes es) (f.bytes e)) (HasTheseOr g f old k.journal.file es (Some e)) (any_moment (map f.bytes es) rests.settled)
      (λ img is. record { this = has_either f e img k.journal.file es rests.entries entry is.own; others = is.others })

  -- `in_doubt` of one that failed
  pub leaves_in_doubt : LeavesBodyInDoubt g old new k.journal (f.bytes e) → LeavesEntryInDoubt g f old new k (Some e)
  leaves_in_doubt in_doubt = λ tells es rests.
      let body = in_doubt tells (map f.bytes es) rests.settled in
      record {
        left = λ img is. has_either f e img k.journal.file es rests.entries entry (body.left img (λ q own. is q));
        read = has_either f e (g.seen new) k.journal.file es rests.entries entry body.read;
      }

-- where nothing is due, no call of the disk is made
pub nothing_appended : {D E S : Type 0} (g : Ghosts D) (f : Format E S) (d : D) (k : Keeper S) → Appended g f d d k k None
nothing_appended g f d k = λ tells es rests. rests

pub nothing_at_most : {D E S : Type 0} (g : Ghosts D) (f : Format E S) (d : D) (k : Keeper S) (more : Option E) → OnlyNow g → AppendsAtMost g f d d k more
nothing_at_most g f d k more only_now = λ es rests tells.
    started g d (HasTheseOr g f d k.journal.file es more) only_now (λ img is. record { this = inl (rests_in g f d k es rests img (λ q own. is q)); others = λ q other. is q })

-- A call failed, and the node's file was opened again: at each moment the file had the entries from before or these with the one more, and one of the two is what a read gives.
module _ {D E S : Type 0} (g : Ghosts D) (f : Format E S) (apart : IsOneToOne f) (old mid new : D) (file : ℕ) (es : List E) (more : Option E) (in_doubt : IsTrue g.tells → IsEntryInDoubt g f mid file es more) where
  one_of_two : (img : Image) (fs : List E) → HasEntriesOr f img file es more → HasEntries f img file fs → (fs ≡ es) ⊎ (fs ≡ with_entry es more)
  one_of_two img fs either has = ⊎_elim (λ these. inl (one_list_of f apart img file fs es has these)) (λ these. inr (one_list_of f apart img file fs (with_entry es more) has these)) either

  has_some : (img : Image) → HasEntriesOr f img file es more → (fs : List E) × HasEntries f img file fs
  has_some img either = ⊎_elim (λ has. (es, has)) (λ has. (with_entry es more, has)) either

  pub reopened_entries : (fs : List E) → IsTrue g.tells → HasEntries f (g.seen mid) file fs → (fs ≡ es) ⊎ (fs ≡ with_entry es more)
  reopened_entries fs tells has = let doubt = in_doubt tells in one_of_two (g.seen mid) fs doubt.read has

  pub reopened_moments : LeavesOnly g old mid (HasTheseOr g f old file es more) → StaysElsewhere g file old mid → OpensAs g f mid new file → LeavesOnly g old new (HasTheseOr g f old file es more)
  reopened_moments failed stays opens = λ tells.
      let doubt = in_doubt tells in
      let later : (img : Image) → HasAsBefore g f mid file img → HasTheseOr g f old file es more img = (λ img is. record {
        this = ⊎_elim (λ e. inl (subst (HasEntries f img file) e is.has)) (λ e. inr (subst (HasEntries f img file) e is.has)) (one_of_two is.from is.es (doubt.left is.from is.might) is.had);
        others = λ q other. (stays tells q other).leaves (img q) (is.others q other);
      }) in
      joins g old mid new (HasTheseOr g f old file es more) (HasAsBefore g f mid file) (HasTheseOr g f old file es more)
      failed (opens (λ img is. has_some img (doubt.left img is))) (λ img is. is) later tells

-- what is in doubt after a call, by what a crash at any moment of it left
pub in_doubt_by : {D E S : Type 0} (g : Ghosts D) (f : Format E S) → CountsNow g → SeenMayStay g → (old new : D) (file : ℕ) (es : List E) (more : Option E)
    → LeavesOnly g old new (HasTheseOr g f old file es more) → IsTrue g.tells → IsEntryInDoubt g f new file es more
in_doubt_by g f counts_now seen_may_stay old new file es more moments tells =
    let run = moments tells in
    let now : (img : Image) → IsImage (g.may_leave new) img → HasEntriesOr f img file es more = (λ img is. let at = run.each img (counts_now new (g.moment old) img run.later is) in at.this) in
    record { left = now; read = now (g.seen new) (λ q. seen_may_stay new q) }

-- From what an opening of the journal promises to what a node's opening promises.
module _ {D E S : Type 0} (g : Ghosts D) (f : Format E S) (old mid : D) (file : ℕ) (opening : LeavesOnly g old mid (IsOpening g old file)) where
  as_before : AlwaysHasEntries g f old file → (img : Image) → IsOpening g old file img → HasAsBefore g f old file img
  as_before each img is =
      let had = each is.from is.might in
      record { es = had.0; has = record { bodies = is.own.bodies (map f.bytes had.0) had.1.bodies; entries = had.1.entries }; from = is.from; might = is.might; had = had.1; others = is.others }

  pub opens_as : OpensAs g f old mid file
  opens_as each = weaker g old mid (IsOpening g old file) (HasAsBefore g f old file) opening (as_before each)

  -- and where one entry is appended then to what a read gave
  module _ (new : D) (journal : JournalState) (here : journal.file ≡ file) (es : List E) (e : E) (all : AllByRecursion f.IsEntry es) (entry : f.IsEntry e) (seen_may_stay : SeenMayStay g)
      (read : IsTrue g.tells → HasBodies (g.seen old) file (map f.bytes es)) (stays : StaysElsewhere g file old mid)
      (settled : IsTrue g.tells → IsSettled g mid journal (map f.bytes es)) (append : AddsAtMost g mid new journal (f.bytes e)) where
    pub opens_with : OpensWith g f old new file
    opens_with each = λ tells.
        let had : HasEntries f (g.seen old) file es = record { bodies = read tells; entries = all } in
        let added : (img : Image) → IsAppending g mid journal.file (map f.bytes es) (f.bytes e) img → HasAsBeforeOr g f old file img = (λ img is.
        let others : OthersStay g old file img = (λ q other. (stays tells q other).leaves (img q) (is.others q (λ own. other (own ∙ here)))) in
        let either : HasEntriesOr f img file es (Some e) = subst (λ q. HasEntriesOr f img q es (Some e)) here (has_either f e img journal.file es all entry is.own) in
        record {
          this = ⊎_elim
              (λ (has : HasEntries f img file es). inl (record { es = es; has = has; from = g.seen old; might = λ q. seen_may_stay old q; had = had; others = others }))
              (λ (has : HasEntries f img file (es ++ e ∷ [])). inr (es, e, had, has))
              either;
          others = others;
        }) in
        joins g old mid new (IsOpening g old file) (IsAppending g mid journal.file (map f.bytes es) (f.bytes e)) (HasAsBeforeOr g f old file)
        opening (append (map f.bytes es) (settled tells))
        (λ img is. let so = as_before each img is in record { this = inl so; others = is.others })
        added tells
