-- What the layers above a journal need of it between its calls.
use Rattle.std.proofs.Common.{inl, inr, ⊎_elim, ℕ, List, [], ◌∷◌, ◌++◌, IsTrue, refl, sym, ◌∙◌, subst}
use Rattle.disk_journal.specs.Disk.{Image, IsImage}
use Rattle.disk_journal.specs.Moments.{Stays, LeavesOnly}
use Rattle.disk_journal.specs.Journal.{IsOwn, IsJournal, HasBodies, JournalState, EndsAt}
use Rattle.disk_journal.specs.Effects.{AreApart, IsSettled, IsOpening, IsAppending, IsBodyInDoubt, StaysElsewhere}
use Rattle.disk_journal.specs.declared.disk.Disk.{Ghosts}
use Rattle.disk_journal.proofs.Moments.{joins}

module _ {D : Type 0} (g : Ghosts D) (d : D) (journal : JournalState) (bodies : List (List ℕ)) (s : IsSettled g d journal bodies) where
  -- every content that a crash may leave of a settled journal's file has its bodies
  pub settled_content : (c : List ℕ) → g.may_leave d journal.file c → IsJournal c bodies
  settled_content c may = s.durable (λ q. c) (λ q own. subst (λ f. g.may_leave d f c) (sym own) may)

  -- and so has what a read gives
  pub settled_seen : HasBodies (g.seen d) journal.file bodies
  settled_seen = (s.ends.front, [], s.ends.records, s.ends.file)

-- a file that stays, and stays again
pub stays_on : {D : Type 0} (g : Ghosts D) (q : ℕ) (old mid new : D) → Stays g q old mid → Stays g q mid new → Stays g q old new
stays_on g q old mid new first second = record { reads = second.reads ∙ first.reads; leaves = λ c may. first.leaves c (second.leaves c may) }

-- a call on the files of another journal leaves it settled
pub settled_elsewhere : {D : Type 0} (g : Ghosts D) (old new : D) (file : ℕ) (journal : JournalState) (bodies : List (List ℕ))
    → AreApart file journal.file → ((q : ℕ) → (IsOwn file q → ⊥) → Stays g q old new) → IsSettled g old journal bodies → IsSettled g new journal bodies
settled_elsewhere g old new file journal bodies apart stays s = record {
  ends = subst (λ c. EndsAt c journal.gate bodies) (sym (here journal.file refl).reads) s.ends;
  durable = λ img own. s.durable img (λ q is. (here q is).leaves (img q) (own q is));
}
  where
    here : (q : ℕ) → IsOwn journal.file q → Stays g q old new
    here q own = stays q (λ other. apart q other own)

-- where each image at the start of an opening has a list of bodies, each at a moment of it has one that an image at the start had
pub opening_keeps : {D : Type 0} (g : Ghosts D) (old : D) (file : ℕ) → ((from : Image) → IsImage (g.may_leave old) from → (bodies : List (List ℕ)) × HasBodies from file bodies)
    → (img : Image) → IsOpening g old file img → (bodies : List (List ℕ)) × HasBodies img file bodies × ((from : Image) × IsImage (g.may_leave old) from × HasBodies from file bodies)
opening_keeps g old file each img is = let had = each is.from is.might in (had.0, is.own.bodies had.0 had.1, (is.from, is.might, had.1))

-- Where an append failed and its file was opened again, every crash since its start leaves the bodies or these with the one more.
pub reopened : {D : Type 0} (g : Ghosts D) (old mid new : D) (file : ℕ) (bodies : List (List ℕ)) (body : List ℕ) → LeavesOnly g old mid (IsAppending g old file bodies body)
    → (IsTrue g.tells → IsBodyInDoubt g mid file bodies body) → StaysElsewhere g file old mid → LeavesOnly g mid new (IsOpening g mid file) → LeavesOnly g old new (IsAppending g old file bodies body)
reopened g old mid new file bodies body failed in_doubt stays opens = λ tells.
    let doubt = in_doubt tells in
    joins g old mid new (IsAppending g old file bodies body) (IsOpening g mid file) (IsAppending g old file bodies body) failed opens (λ img is. is)
    (λ img is. record {
      own = ⊎_elim (λ has. inl (is.own.bodies bodies has)) (λ has. inr (is.own.bodies (bodies ++ body ∷ []) has)) (doubt.left is.from (λ q own. is.might q));
      others = λ q other. (stays tells q other).leaves (img q) (is.others q other);
    }) tells
