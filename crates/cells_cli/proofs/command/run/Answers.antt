use Rattle.std.proofs.Common.{◌≡◌, ◌++◌, Some, Ok, Err, List, ℕ, inl, subst, sym, ap, ◌∙◌, Option, Result}
use Rattle.std.specs.Prelude.{IsErr, String}
use Rattle.std.specs.declared.alloc.Global.{Global}
use Rattle.cells_edge.specs.declared.source.Source.{Ghosts as SourceGhosts}
use Rattle.cells_cli.specs.Config.{Job, job_of, job_with, does_lines, makes_files, command_of, IsSound, ReadsConfig, Configures, ConfiguresAs, status_of_config}
use Rattle.cells_cli.specs.declared.config.ConfigFault.{ConfigFault}
use Rattle.cells_cli.specs.declared.config.Work.TheVariants.{Answer, Make, Run}
use Rattle.cells_cli.specs.Lines.{lines_of}
use Rattle.cells_cli.specs.declared.command.Command.{Command}
use Rattle.cells_cli.specs.declared.status.Status.{Status}
use Rattle.cells_cli.specs.declared.status.Status.TheVariants.{Usage}
use Rattle.cells_cli.specs.Files.{AreDistinct}
use Rattle.cells_cli.specs.Installed.{LeavesFiles}
use Rattle.cells_cli.specs.declared.config.Work.{Work}
use Rattle.cells_cli.specs.Report.{asked_by, lines_for, IsReport, TellsConfig}
use Rattle.cells_cli.proofs.Reported.{EndsWith, at_once, config_ends, config_other}
use Rattle.claim_map.specs.Registry.{Registry}
use Rattle.cells_cli.specs.Report.{WritesFrontOf}
use Rattle.cells_cli.specs.Ups.{RunsUp}
use Rattle.cells_cli.specs.Went.{moment_shown}
use Rattle.cells_cli.proofs.Reporting.{is_report, config_fails}
use Rattle.cells_cli.proofs.command.run.Goals as goal

-- the configuration gives what the words ask for: the work, or the refusal
asked_of : {A : Type 0} (a : SourceGhosts A) (words : List (String Global)) (config : A) (command : Command) → Some command ≡ command_of words → TellsConfig a words
    → (r : Result Work ConfigFault) → ConfiguresAs a command config r → Configures r (job_of (command_of words) (a.left config))
asked_of a words config command is tells r told = subst (λ (o : Option Command). Configures r (job_of o (a.left config))) is (told (λ h. tells (subst ReadsConfig is h)))

asked_work : {A : Type 0} (a : SourceGhosts A) (words : List (String Global)) (config : A) (command : Command) → Some command ≡ command_of words → TellsConfig a words
    → (work named : Work) → work ≡ named → ConfiguresAs a command config (Ok work) → job_of (command_of words) (a.left config) ≡ Ok (job_with named)
asked_work a words config command is tells work named same told = asked_of a words config command is tells (Ok work) told ∙ ap (λ (it : Work). Ok (job_with it)) same

same_files : (a b : List ℕ) (job : Result Job Status) → job ≡ Ok (makes_files a) → job ≡ Ok (makes_files b) → a ≡ b
same_files a b job h k = cc

pub returns-in_default-clause-report : goal.returns-in_default-clause-report
returns-in_default-clause-report g c a b w =
    let asked = asked_by c.args.words.now (g.A.Source.left c.args.config.now) (g.B.Source.left c.args.script.now) in
    let once : asked.job ≡ Err Usage = ap (λ (command : Option Command). job_of command (g.A.Source.left c.args.config.now)) (sym c.command_of.ensures ∙ c.in_default.is) in
    at_once asked Usage (λ e. cc) (inl once) _ _ c.finish.result c.finish.ensures.ends ((λ h. c.finish.ensures.told h w), (λ h. c.finish.ensures.part h w))

pub returns-in-Err-clause-report : goal.returns-in-Err-clause-report
returns-in-Err-clause-report g c a b w =
    let asked = asked_by c.args.words.now (g.A.Source.left c.args.config.now) (g.B.Source.left c.args.script.now) in
    let fault = c.in-Err.fault in
    let told = asked_of g.A.Source c.args.words.now c.args.config.now c.in-Some.command (sym c.in-Some.is ∙ c.command_of.ensures) a (Err fault) c.in-Err.ensures.told in
    let own = c.from.ensures in
    let ends = subst (λ (s : Status). EndsWith s c.finish-in-Err.result) own c.finish-in-Err.ensures.ends in
    at_once asked (status_of_config fault) (config_other fault) (config_ends fault asked.job told) _ _ c.finish-in-Err.result ends
    ((λ h. c.finish-in-Err.ensures.told h w), (λ h. subst (λ (s : Status). WritesFrontOf g.W.Sink c.args.out.now c.finish-in-Err.new.out s) own (c.finish-in-Err.ensures.part h) w))

pub returns-in-Ok-Answer-clause-report : goal.returns-in-Ok-Answer-clause-report
returns-in-Ok-Answer-clause-report g c a b w =
    let told = asked_work g.A.Source c.args.words.now c.args.config.now c.in-Some.command (sym c.in-Some.is ∙ c.command_of.ensures) a c.in-Ok-Answer.field-0 (Answer c.in-Ok-Answer.service) c.in-Ok-Answer.field-0-is c.in-Ok-Answer.ensures.told in
    subst (λ (job : Result Job Status). (report : List ℕ) × IsReport (record { job = job; lines = lines_for job (g.B.Source.left c.args.script.now) }) c.serve.result report × (g.W.Sink.written c.serve.new.out ≡ g.W.Sink.written c.args.out.now ++ report)) (sym told) (c.serve.ensures.report b w)

pub install-requires : goal.install-requires
install-requires g c =
    subst (λ (files : List ℕ). AreDistinct files) (sym c.deref.ensures.value)
    (subst (λ (work : Work). IsSound work) c.in-Ok-Make.field-0-is c.in-Ok-Make.ensures.sound)

pub returns-in-Ok-Make-clause-report : goal.returns-in-Ok-Make-clause-report
returns-in-Ok-Make-clause-report g c a b w =
    let told = asked_work g.A.Source c.args.words.now c.args.config.now c.in-Some.command (sym c.in-Some.is ∙ c.command_of.ensures) a c.in-Ok-Make.field-0 (Make c.in-Ok-Make.files) c.in-Ok-Make.field-0-is c.in-Ok-Make.ensures.told in
    let same : job_of (command_of c.args.words.now) (g.A.Source.left c.args.config.now) ≡ Ok (makes_files c.deref.result.now) = subst (λ (files : List ℕ). job_of (command_of c.args.words.now) (g.A.Source.left c.args.config.now) ≡ Ok (makes_files files)) (sym c.deref.ensures.value) told in
    let lines = lines_of (g.B.Source.left c.args.script.now) in
    subst (λ (job : Result Job Status). (report : List ℕ) × IsReport (record { job = job; lines = lines_for job (g.B.Source.left c.args.script.now) }) c.install.result report × (g.W.Sink.written c.install.new.out ≡ g.W.Sink.written c.args.out.now ++ report)) (sym same) (c.install.ensures.report lines w)

pub returns-in-Ok-Make-clause-made : goal.returns-in-Ok-Make-clause-made
returns-in-Ok-Make-clause-made g c a t files asked =
    let told = asked_work g.A.Source c.args.words.now c.args.config.now c.in-Some.command (sym c.in-Some.is ∙ c.command_of.ensures) a c.in-Ok-Make.field-0 (Make c.in-Ok-Make.files) c.in-Ok-Make.field-0-is c.in-Ok-Make.ensures.told in
    let same : c.deref.result.now ≡ files = c.deref.ensures.value ∙ same_files c.in-Ok-Make.files.items files (job_of (command_of c.args.words.now) (g.A.Source.left c.args.config.now)) told asked in
    subst (λ (fs : List ℕ). LeavesFiles g.W.Sink g.D.Disk fs c.args.out.now c.install.new.out c.args.disk.now c.install.new.disk c.install.result) same (c.install.ensures.leaves t)

same_registry : (a b : Registry) (job : Result Job Status) → job ≡ Ok (does_lines a) → job ≡ Ok (does_lines b) → a ≡ b
same_registry a b job h k = cc

not_both : (a : Registry) (files : List ℕ) (job : Result Job Status) → job ≡ Ok (does_lines a) → job ≡ Ok (makes_files files) → ⊥
not_both a files job h k = cc

pub operate-requires : goal.operate-requires
operate-requires g c = subst (λ (work : Work). IsSound work) c.in-Ok-Run.field-0-is c.in-Ok-Run.ensures.sound

pub returns-in-Ok-Run-clause-report : goal.returns-in-Ok-Run-clause-report
returns-in-Ok-Run-clause-report g c a b w =
    let told = asked_work g.A.Source c.args.words.now c.args.config.now c.in-Some.command (sym c.in-Some.is ∙ c.command_of.ensures) a c.in-Ok-Run.field-0 (Run c.in-Ok-Run.registry) c.in-Ok-Run.field-0-is c.in-Ok-Run.ensures.told in
    let script = g.B.Source.left c.args.script.now in
    let runs = c.operate.ensures.runs in
    let p = runs.report w in
    subst (λ (job : Result Job Status). (report : List ℕ) × IsReport (record { job = job; lines = lines_for job script }) c.operate.result report × (g.W.Sink.written c.operate.new.out ≡ g.W.Sink.written c.args.out.now ++ report)) (sym told)
    (p.0, is_report c.in-Ok-Run.registry script runs.told g.B.Source.tells b c.operate.result p.0 (runs.lines b) p.1, p.2)

pub returns-in-Ok-Run-clause-made : goal.returns-in-Ok-Run-clause-made
returns-in-Ok-Run-clause-made g c a t files asked =
    let told = asked_work g.A.Source c.args.words.now c.args.config.now c.in-Some.command (sym c.in-Some.is ∙ c.command_of.ensures) a c.in-Ok-Run.field-0 (Run c.in-Ok-Run.registry) c.in-Ok-Run.field-0-is c.in-Ok-Run.ensures.told in
    absurd (not_both c.in-Ok-Run.registry files (job_of (command_of c.args.words.now) (g.A.Source.left c.args.config.now)) told asked)

pub returns-in-Ok-Run-clause-up : goal.returns-in-Ok-Run-clause-up
returns-in-Ok-Run-clause-up g c a registry asked =
    let told = asked_work g.A.Source c.args.words.now c.args.config.now c.in-Some.command (sym c.in-Some.is ∙ c.command_of.ensures) a c.in-Ok-Run.field-0 (Run c.in-Ok-Run.registry) c.in-Ok-Run.field-0-is c.in-Ok-Run.ensures.told in
    subst (λ (r : Registry). RunsUp g.B.Source g.W.Sink g.D.Disk g.N.Wire (moment_shown g.C.Clock c.args.clock.now) r c.args.script.now c.operate.new.script c.args.out.now c.operate.new.out c.args.disk.now c.operate.new.disk c.args.wire.now c.operate.new.wire c.operate.result)
    (same_registry c.in-Ok-Run.registry registry (job_of (command_of c.args.words.now) (g.A.Source.left c.args.config.now)) told asked) c.operate.ensures.runs

pub returns-in-Err-clause-up : goal.returns-in-Err-clause-up
returns-in-Err-clause-up g c a registry asked =
    let fault = c.in-Err.fault in
    let told = asked_of g.A.Source c.args.words.now c.args.config.now c.in-Some.command (sym c.in-Some.is ∙ c.command_of.ensures) a (Err fault) c.in-Err.ensures.told in
    let own = c.from.ensures in
    let ends = subst (λ (s : Status). EndsWith s c.finish-in-Err.result) own c.finish-in-Err.ensures.ends in
    config_fails g.B.Source g.W.Sink g.D.Disk g.N.Wire (moment_shown g.C.Clock c.args.clock.now) registry c.args.script.now c.args.out.now c.finish-in-Err.new.out c.args.disk.now c.args.wire.now g.met.D.Disk.only_now fault (job_of (command_of c.args.words.now) (g.A.Source.left c.args.config.now)) told asked
    c.finish-in-Err.result ends (λ h. c.finish-in-Err.ensures.told h) (λ h. subst (λ (s : Status). WritesFrontOf g.W.Sink c.args.out.now c.finish-in-Err.new.out s) own (c.finish-in-Err.ensures.part h))

-- where there is work, the words and the configuration give it
no_work : (job : Result Job Status) (it : Job) → job ≡ Ok it → IsErr job → ⊥
no_work job it told refused = let none : IsErr {T = Job} {E = Status} (Ok it) = subst (λ (r : Result Job Status). IsErr r) told refused in absurd cc

pub returns-in-Ok-Answer-clause-nothing_done : goal.returns-in-Ok-Answer-clause-nothing_done
returns-in-Ok-Answer-clause-nothing_done g c none =
    let told = asked_work g.A.Source c.args.words.now c.args.config.now c.in-Some.command (sym c.in-Some.is ∙ c.command_of.ensures) none.0 c.in-Ok-Answer.field-0 (Answer c.in-Ok-Answer.service) c.in-Ok-Answer.field-0-is c.in-Ok-Answer.ensures.told in
    absurd (no_work (job_of (command_of c.args.words.now) (g.A.Source.left c.args.config.now)) (job_with (Answer c.in-Ok-Answer.service)) told none.1)

pub returns-in-Ok-Make-clause-nothing_done : goal.returns-in-Ok-Make-clause-nothing_done
returns-in-Ok-Make-clause-nothing_done g c none =
    let told = asked_work g.A.Source c.args.words.now c.args.config.now c.in-Some.command (sym c.in-Some.is ∙ c.command_of.ensures) none.0 c.in-Ok-Make.field-0 (Make c.in-Ok-Make.files) c.in-Ok-Make.field-0-is c.in-Ok-Make.ensures.told in
    absurd (no_work (job_of (command_of c.args.words.now) (g.A.Source.left c.args.config.now)) (job_with (Make c.in-Ok-Make.files)) told none.1)

pub returns-in-Ok-Run-clause-nothing_done : goal.returns-in-Ok-Run-clause-nothing_done
returns-in-Ok-Run-clause-nothing_done g c none =
    let told = asked_work g.A.Source c.args.words.now c.args.config.now c.in-Some.command (sym c.in-Some.is ∙ c.command_of.ensures) none.0 c.in-Ok-Run.field-0 (Run c.in-Ok-Run.registry) c.in-Ok-Run.field-0-is c.in-Ok-Run.ensures.told in
    absurd (no_work (job_of (command_of c.args.words.now) (g.A.Source.left c.args.config.now)) (job_with (Run c.in-Ok-Run.registry)) told none.1)
