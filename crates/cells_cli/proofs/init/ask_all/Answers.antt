use Rattle.std.proofs.Common.{◌≤◌, ◌<◌, List, ℕ, length, get_or, subst, arith}
use Rattle.std.specs.List.{All}
use Rattle.std.proofs.lemmas.List.{take_all}
use Rattle.std.proofs.lemmas.List.Elements.{All-more}
use Rattle.cells_cli.specs.Files.{IsFree}
use Rattle.cells_cli.proofs.Making.{stays_on, free_before}
use Rattle.cells_cli.proofs.init.ask_all.Goals as goal

pub returns-in_err-ask-clause-stays : goal.returns-in_err-ask-clause-stays
returns-in_err-ask-clause-stays g c = stays_on g.D.Disk c.args.disk.now c.loop-file.disk c.ask.new.disk c.loop-file.invariant.stays c.ask.ensures.stays

pub loop-file-preserved : goal.loop-file-preserved
loop-file-preserved g c =
    let files = c.args.files.now in
    let i = c.loop-file.file-index in
    let lt : i < length files = omega arith in
    record {
      free = λ t. All-more (IsFree (g.D.Disk.seen c.args.disk.now)) files i 0 lt (c.loop-file.invariant.free t)
          (free_before g.D.Disk c.args.disk.now c.loop-file.disk (get_or files i 0) (c.loop-file.invariant.stays t (get_or files i 0)) (c.in_ok-ask.ensures.told t));
      stays = stays_on g.D.Disk c.args.disk.now c.loop-file.disk c.ask.new.disk c.loop-file.invariant.stays c.ask.ensures.stays;
      later = omega (arith, c.ask.ensures.later, c.loop-file.invariant.later);
    }

pub returns-clause-told : goal.returns-clause-told
returns-clause-told g c = λ t.
    let files = c.args.files.now in
    let few : length files ≤ c.loop-file.file-index = omega arith in
    subst (λ (l : List ℕ). All (IsFree (g.D.Disk.seen c.args.disk.now)) l) (take_all c.loop-file.file-index files few) (c.loop-file.invariant.free t)
