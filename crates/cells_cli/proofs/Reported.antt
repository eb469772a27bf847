-- What a report says, by how its answering stopped.
use Rattle.std.proofs.Common.{◌≡◌, ◌≢◌, ◌⊎◌, inl, inr, ℕ, suc, ◌+◌, ◌-◌, ◌||◌, cond, nat_lt, nat_le, List, [], ◌∷◌, ◌++◌, take, length, Some, None, Result, Ok, Err, append_assoc, refl, sym, ◌∙◌, ap, subst, arith}
use Rattle.std.proofs.lemmas.List.{append-nil}
use Rattle.cells_edge.specs.Edge.{IsPrefix}
use Rattle.claim_types.specs.declared.limits.TheConstants.{BODY}
use Rattle.cells_cli.specs.declared.lines.TheConstants.{LINES}
use Rattle.cells_cli.specs.declared.status.Status.{Status}
use Rattle.cells_cli.specs.declared.status.Status.TheVariants.{End, Usage, ConfigRegistry, ConfigRules, ConfigLacks, ConfigLong, Script, ReadFault, WriteFault, Memory, DiskFault, NotAJournal, BadEntry, FileInUse, Unheard, EpochsSpent}
use Rattle.cells_cli.specs.declared.replay.Stop.{Stop}
use Rattle.cells_cli.specs.declared.replay.Stop.TheVariants.{Script as ScriptStop, ReadFault as ReadStop, WriteFault as WriteStop, Memory as MemoryStop}
use Rattle.cells_cli.specs.declared.config.ConfigFault.{ConfigFault}
use Rattle.cells_cli.specs.declared.config.ConfigFault.TheVariants.{Read, Long, Refused, NoSuchCell, Memory as NoRoom}
use Rattle.cells_cli.specs.Lines.{first_refused}
use Rattle.cells_cli.specs.Service.{Start}
use Rattle.cells_cli.specs.Config.{Job, answers_lines, makes_files, does_lines, Configures, status_of_config}
use Rattle.cells_cli.specs.Replay.{answers, NoneRefused, IsAnswered}
use Rattle.cells_cli.specs.Status.{last_line}
use Rattle.cells_cli.specs.Served.{status_of, IsServed, EndsService, EndsAs}
use Rattle.cells_cli.specs.Report.{Asked, IsWhole, IsFront, IsReport}
use Rattle.cells_cli.specs.Answering.{EndsAt}
use Rattle.cells_cli.specs.Script.{lines_done}
use Rattle.cells_cli.specs.Ups.{nothing_told}
use Rattle.cells_cli.proofs.Refusals.{here_or_behind}

-- the line that is refused is behind lines that are not
none_before : (given : ℕ) (lines : List (List ℕ)) (k : ℕ) → first_refused BODY given lines ≡ Some k → (n : ℕ) × (k ≡ given + n + 1) × (first_refused BODY given (take n lines) ≡ None)
none_before given [] k h = cc
none_before given (l ∷ ls) k h =
    elim (here_or_behind (nat_lt BODY (length l) || nat_le LINES given) (given + 1) k (first_refused BODY (given + 1) ls) h) [
      | inl now ↦ (0, (let is = now.1 in omega (arith, is)), refl)
      | inr later ↦
          let rest = none_before (given + 1) ls k later.1 in (
            suc rest.0,
            (let is = rest.1 in omega (arith, is)),
            ap (λ b. cond b (Some (given + 1)) (first_refused BODY (given + 1) (take rest.0 ls))) later.0 ∙ rest.2,
          )
    ]

none_first : (lines : List (List ℕ)) (k : ℕ) → first_refused BODY 0 lines ≡ Some k → NoneRefused (take (k - 1) lines)
none_first lines k h =
    let before = none_before 0 lines k h in
    let place : before.0 ≡ k - 1 = let is = before.1 in omega (arith, is) in
    subst (λ n. NoneRefused (take n lines)) place before.2

-- how a run ends whose answering stopped so, or that ends at once with a status
abbrev pub EndsWith : Status → Status → Type 0
EndsWith own result = (result ≡ own) ⊎ ((result ≡ Memory) ⊎ (result ≡ WriteFault))

-- what holds at each of these ends holds at this one
pub by_end : (P : Status → Type 0) (own result : Status) → P own → P Memory → P WriteFault → EndsWith own result → P result
by_end P own result at_own at_memory at_write ends = elim ends [
  | inl e ↦ subst P (sym e) at_own
  | inr (inl e) ↦ subst P (sym e) at_memory
  | inr (inr e) ↦ subst P (sym e) at_write
]

-- the last line of a run, behind what was written before it, or a front of it where the sink failed
abbrev pub IsLast : Status → Status → List ℕ → List ℕ → Type 0
IsLast own result mid now = (result ≢ WriteFault → now ≡ mid ++ last_line result)
    × (result ≡ WriteFault → (front : List ℕ) × ((last : Status) × ((last ≡ own) ⊎ (last ≡ Memory)) × IsPrefix front (last_line last)) × (now ≡ mid ++ front))

not_write : (stop : Stop) → stop ≢ WriteStop → status_of stop ≢ WriteFault
not_write (ScriptStop k) other h = cc
not_write ReadStop other h = cc
not_write WriteStop other h = other refl
not_write MemoryStop other h = cc

-- a report that could be written whole is one
whole_report : (asked : Asked) (status : Status) (report : List ℕ) → status ≢ WriteFault → IsWhole asked.job asked.lines status report → IsReport asked status report
whole_report asked End report other h = h
whole_report asked Usage report other h = h
whole_report asked (ConfigRegistry n) report other h = h
whole_report asked (ConfigRules n) report other h = h
whole_report asked (ConfigLacks cell) report other h = h
whole_report asked ConfigLong report other h = h
whole_report asked (Script k) report other h = h
whole_report asked ReadFault report other h = h
whole_report asked WriteFault report other h = absurd (other refl)
whole_report asked Memory report other h = h
whole_report asked (DiskFault file) report other h = h
whole_report asked (NotAJournal file at) report other h = h
whole_report asked (BadEntry file index) report other h = h
whole_report asked (FileInUse file size) report other h = h
whole_report asked Unheard report other h = h
whole_report asked (EpochsSpent cell) report other h = h

-- a last line behind some bytes, or a front of it
module _ (asked : Asked) (bytes : List ℕ) (own : Status) (other : own ≢ WriteFault) (whole : IsWhole asked.job asked.lines own (bytes ++ last_line own)) (memory : IsWhole asked.job asked.lines Memory (bytes ++ last_line Memory)) where
  front_of : (last : Status) (front : List ℕ) → IsWhole asked.job asked.lines last (bytes ++ last_line last) → IsPrefix front (last_line last) → IsFront asked.job asked.lines (bytes ++ front)
  front_of last front all is = (last, bytes ++ last_line last, all, (is.0, ap (λ (b : List ℕ). bytes ++ b) is.1 ∙ sym (append_assoc bytes front is.0)))

  front_either : (last : Status) (front : List ℕ) → (last ≡ own) ⊎ (last ≡ Memory) → IsPrefix front (last_line last) → IsFront asked.job asked.lines (bytes ++ front)
  front_either last front which is = elim which [
    | inl e ↦ front_of own front whole (subst (λ (s : Status). IsPrefix front (last_line s)) e is)
    | inr e ↦ front_of Memory front memory (subst (λ (s : Status). IsPrefix front (last_line s)) e is)
  ]

  module _ (before mid now : List ℕ) (so_far : mid ≡ before ++ bytes) (result : Status) where
    joined : (more : List ℕ) → now ≡ mid ++ more → now ≡ before ++ (bytes ++ more)
    joined more h = h ∙ ap (λ (b : List ℕ). b ++ more) so_far ∙ append_assoc before bytes more

    abbrev Is : Status → Type 0
    Is status = (report : List ℕ) × IsReport asked status report × (now ≡ before ++ report)

    pub reports : EndsWith own result → IsLast own result mid now → Is result
    reports = by_end (λ (s : Status). IsLast own s mid now → Is s) own result
        (λ last. (bytes ++ last_line own, whole_report asked own (bytes ++ last_line own) other whole, joined (last_line own) (last.0 other)))
        (λ last. (bytes ++ last_line Memory, memory, joined (last_line Memory) (last.0 (λ h. cc))))
        (λ last. (let p = last.1 refl in (bytes ++ p.0, front_either p.1.0 p.0 p.1.1 p.1.2, joined p.0 p.2)))

-- a run that answered lines
module _ (start : Start) (lines : List (List ℕ)) (bytes : List ℕ) where
  abbrev asked : Asked
  asked = record { job = Ok (answers_lines start); lines = lines }

  some_first : (stop : Stop) → stop ≢ WriteStop → IsAnswered start.registry start.map lines (Err stop) bytes → (n : ℕ) × NoneRefused (take n lines) × (bytes ≡ answers start.registry start.map (take n lines))
  some_first (ScriptStop k) other h = (k - 1, none_first lines k h.0, h.1)
  some_first ReadStop other h = h
  some_first WriteStop other h = absurd (other refl)
  some_first MemoryStop other h = h

  with_memory : (stop : Stop) → stop ≢ WriteStop → IsAnswered start.registry start.map lines (Err stop) bytes → IsServed start lines Memory (bytes ++ last_line Memory)
  with_memory stop other h = let some = some_first stop other h in (some.0, some.1, ap (λ (b : List ℕ). b ++ last_line Memory) some.2)

  with_own : (stop : Stop) → stop ≢ WriteStop → IsAnswered start.registry start.map lines (Err stop) bytes → IsServed start lines (status_of stop) (bytes ++ last_line (status_of stop))
  with_own (ScriptStop k) other h = (h.0, ap (λ (b : List ℕ). b ++ last_line (Script k)) h.1)
  with_own ReadStop other h = (h.0, h.1, ap (λ (b : List ℕ). b ++ last_line ReadFault) h.2)
  with_own WriteStop other h = absurd (other refl)
  with_own MemoryStop other h = (h.0, h.1, ap (λ (b : List ℕ). b ++ last_line Memory) h.2)

  -- the sink failed in an answer
  pub fronts : IsAnswered start.registry start.map lines (Err WriteStop) bytes → IsFront (Ok (answers_lines start)) lines bytes
  fronts h =
      let all = answers start.registry start.map (take h.0 lines) in
      (Memory, all ++ last_line Memory, (h.0, h.1, refl), (h.2.0 ++ last_line Memory, ap (λ (b : List ℕ). b ++ last_line Memory) h.2.1 ∙ append_assoc bytes h.2.0 (last_line Memory)))

  pub served : (stop : Stop) (other : stop ≢ WriteStop) → IsAnswered start.registry start.map lines (Err stop) bytes → (before mid now : List ℕ) → mid ≡ before ++ bytes → (result : Status) → EndsWith (status_of stop) result → IsLast (status_of stop) result mid now
      → (report : List ℕ) × IsReport asked result report × (now ≡ before ++ report)
  served stop other h before mid now so_far result = reports asked bytes (status_of stop) (not_write stop other) (with_own stop other h) (with_memory stop other h) before mid now so_far result

-- a run that ends before its lines: at what is refused, or at a fault of reading, or for want of memory
abbrev pub EndsAtOnce : Result Job Status → Status → Type 0
EndsAtOnce job last = (job ≡ Err last) ⊎ ((last ≡ ReadFault) ⊎ (last ≡ Memory))

only_line : (asked : Asked) (job : Result Job Status) → job ≡ asked.job → (last : Status) → EndsAtOnce job last → IsWhole job asked.lines last ([] ++ last_line last)
only_line asked (Ok (answers_lines start)) is last once = elim once [
  | inl apart ↦ absurd cc
  | inr (inl read) ↦ subst (λ (s : Status). IsWhole (Ok (answers_lines start)) asked.lines s (last_line s)) (sym read) (0, refl, refl)
  | inr (inr memory) ↦ subst (λ (s : Status). IsWhole (Ok (answers_lines start)) asked.lines s (last_line s)) (sym memory) (0, refl, refl)
]
only_line asked (Ok (makes_files files)) is last once = elim once [
  | inl apart ↦ absurd cc
  | inr (inl read) ↦ subst (λ (s : Status). IsWhole (Ok (makes_files files)) asked.lines s (last_line s)) (sym read) refl
  | inr (inr memory) ↦ subst (λ (s : Status). IsWhole (Ok (makes_files files)) asked.lines s (last_line s)) (sym memory) (0, refl)
]
only_line asked (Ok (does_lines registry)) is last once = elim once [
  | inl apart ↦ absurd cc
  | inr (inl read) ↦ subst (λ (s : Status). IsWhole (Ok (does_lines registry)) asked.lines s (last_line s)) (sym read) (nothing_told, (refl, (lines_done 0 asked.lines, refl)), refl)
  | inr (inr memory) ↦ subst (λ (s : Status). IsWhole (Ok (does_lines registry)) asked.lines s (last_line s)) (sym memory) (nothing_told, (lines_done 0 asked.lines, refl), refl)
]
only_line asked (Err why) is last once = ((elim once [ inl own ↦ inl (let e : why ≡ last = cc in sym e) | inr fault ↦ inr fault ]), refl)

pub at_once : (asked : Asked) (own : Status) → own ≢ WriteFault → EndsAtOnce asked.job own → (before now : List ℕ) (result : Status) → EndsWith own result → IsLast own result before now
    → (report : List ℕ) × IsReport asked result report × (now ≡ before ++ report)
at_once asked own other once before now result =
    reports asked [] own other (only_line asked asked.job refl own once) (only_line asked asked.job refl Memory (inr (inr refl))) before before now (sym (append-nil before)) result

-- a configuration that gives no work
pub config_ends : (fault : ConfigFault) (job : Result Job Status) → Configures (Err fault) job → EndsAtOnce job (status_of_config fault)
config_ends Read job told = inr (inl refl)
config_ends Long job told = inl told
config_ends (Refused n) job told = inl told
config_ends NoSuchCell job told = inl told
config_ends NoRoom job told = inr (inr refl)

pub config_other : (fault : ConfigFault) → status_of_config fault ≢ WriteFault
config_other Read h = cc
config_other Long h = cc
config_other (Refused n) h = cc
config_other NoSuchCell h = cc
config_other NoRoom h = cc

-- which statuses a run with a service may end with, and at what its answering stopped then
pub stop_is_read : (stop : Stop) → ReadFault ≡ status_of stop → stop ≡ ReadStop
stop_is_read (ScriptStop j) h = absurd cc
stop_is_read ReadStop h = refl
stop_is_read WriteStop h = absurd cc
stop_is_read MemoryStop h = absurd cc

stops_service : (stop : Stop) → EndsService (status_of stop)
stops_service (ScriptStop j) = tt
stops_service ReadStop = tt
stops_service WriteStop = tt
stops_service MemoryStop = tt

module _ (stop : Stop) (result : Status) (ends : EndsWith (status_of stop) result) where
  is_own : (status : Status) → result ≡ status → status ≢ Memory → status ≢ WriteFault → status ≡ status_of stop
  is_own status is m w = elim ends [
    | inl own ↦ sym is ∙ own
    | inr (inl memory) ↦ absurd (m (sym is ∙ memory))
    | inr (inr write) ↦ absurd (w (sym is ∙ write))
  ]

  pub own_read : result ≡ ReadFault → stop ≡ ReadStop
  own_read h = stop_is_read stop (is_own ReadFault h (λ e. cc) (λ e. cc))

  pub ends_service : EndsService result
  ends_service = by_end EndsService (status_of stop) result (stops_service stop) tt tt ends

  own_lines : (other : Stop) → (script left : List ℕ) → EndsAt script left (Err other) → EndsAs script left (status_of other)
  own_lines (ScriptStop k) script left h = h
  own_lines ReadStop script left h = tt
  own_lines WriteStop script left h = tt
  own_lines MemoryStop script left h = tt

  pub ends_lines : (script left : List ℕ) → EndsAt script left (Err stop) → EndsAs script left result
  ends_lines script left h = by_end (EndsAs script left) (status_of stop) result (own_lines stop script left h) tt tt ends
