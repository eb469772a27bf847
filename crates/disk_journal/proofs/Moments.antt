-- How a run of disk calls goes on.
use Rattle.std.proofs.Common.{inl, inr, ⊎_elim, ℕ, ◌≤◌, arith}
use Rattle.disk_journal.specs.Disk.{Image, IsImage, Elapses}
use Rattle.disk_journal.specs.Moments.{LeftOnly, LeavesOnly}
use Rattle.disk_journal.specs.declared.disk.Disk.{Ghosts}

module _ {D : Type 0} (g : Ghosts D) where
  -- time goes on between two disks
  abbrev pub Goes : D → D → Type 0
  Goes d new = Elapses (g.moment d) (g.moment new) (g.left_since d) (g.left_since new) (g.may_leave new)

  -- two laws of every disk
  abbrev pub OnlyNow : Type 0
  OnlyNow = (d : D) (img : Image) → g.left_since d (g.moment d) img → IsImage (g.may_leave d) img

  abbrev pub CountsNow : Type 0
  CountsNow = (d : D) (t : ℕ) (img : Image) → t ≤ g.moment d → IsImage (g.may_leave d) img → g.left_since d t img

  abbrev pub SeenMayStay : Type 0
  SeenMayStay = (d : D) (file : ℕ) → g.may_leave d file (g.seen d file)

  -- before the first call
  pub started : (old : D) (P : Image → Type 0) → OnlyNow → ((img : Image) → IsImage (g.may_leave old) img → P img) → LeftOnly g old old P
  started old P only here = record { later = omega arith; each = λ img left. here img (only old img left); before = λ t img le left. inl left }

  -- one call more, after which a crash leaves what has P
  pub goes_on : (old d new : D) (P : Image → Type 0) → LeftOnly g old d P → Goes d new → ((img : Image) → IsImage (g.may_leave new) img → P img) → LeftOnly g old new P
  goes_on old d new P run time here = record {
    later = omega (arith, run.later, time.later);
    each = λ img left. ⊎_elim (run.each img) (here img) (time.nothing_else (g.moment old) img run.later left);
    before = λ t img le left. ⊎_elim (run.before t img le) (λ now. inr (here img now)) (time.nothing_else t img (omega (arith, le, run.later)) left);
  }

  -- one run after another
  pub joined : (old mid new : D) (P Q R : Image → Type 0) → LeftOnly g old mid P → LeftOnly g mid new Q → ((img : Image) → P img → R img) → ((img : Image) → Q img → R img) → LeftOnly g old new R
  joined old mid new P Q R first second p q = record {
    later = omega (arith, first.later, second.later);
    each = λ img left. ⊎_elim (λ past. p img (first.each img past)) (q img) (second.before (g.moment old) img first.later left);
    before = λ t img le left. ⊎_elim
        (λ past. ⊎_elim (λ before. inl before) (λ during. inr (p img during)) (first.before t img le past))
        (λ during. inr (q img during)) (second.before t img (omega (arith, le, first.later)) left);
  }

  pub weakened : (old new : D) (P Q : Image → Type 0) → LeftOnly g old new P → ((img : Image) → P img → Q img) → LeftOnly g old new Q
  weakened old new P Q run p = record {
    later = run.later;
    each = λ img left. p img (run.each img left);
    before = λ t img le left. ⊎_elim (λ past. inl past) (λ during. inr (p img during)) (run.before t img le left);
  }

  -- the same of disks that may not tell their content
  pub joins : (old mid new : D) (P Q R : Image → Type 0) → LeavesOnly g old mid P → LeavesOnly g mid new Q → ((img : Image) → P img → R img) → ((img : Image) → Q img → R img) → LeavesOnly g old new R
  joins old mid new P Q R first second p q = λ tells. joined old mid new P Q R (first tells) (second tells) p q

  pub weaker : (old new : D) (P Q : Image → Type 0) → LeavesOnly g old new P → ((img : Image) → P img → Q img) → LeavesOnly g old new Q
  weaker old new P Q run p = λ tells. weakened old new P Q (run tells) p
