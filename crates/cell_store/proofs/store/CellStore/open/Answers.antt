use Rattle.std.proofs.Common.{◌≡◌, ◌≤◌, ◌+◌, ℕ, IsTrue, List, sym, ◌∙◌, ap, subst}
use Rattle.std.proofs.lemmas.Result.{err_from_is_err_and}
use Rattle.disk_journal.specs.Journal.{HasBodies}
use Rattle.disk_journal.specs.Effects.{IsSettled}
use Rattle.disk_journal.specs.Entries.{TouchesOnly}
use Rattle.claim_types.specs.declared.entry.CellEntry.TheVariants.{Epoch}
use Rattle.claim_types.specs.declared.limits.TheConstants.{GREATEST_EPOCH}
use Rattle.entry_codec.specs.Spelling.{cell_entry_bytes}
use Rattle.cell_store.specs.Opening.{next_epoch}
use Rattle.cell_store.specs.Store.{kept}
use Rattle.cell_store.proofs.Opened.{if_refused, replay_fault, spent, opened_is, is_opened, touches_on, opens_unwritten, opens_to_before, opens_to_next, reads_before, reads_in_doubt, reads_next, at_rest}
use Rattle.cell_store.proofs.store.CellStore.open.Goals as goal

pub returns-in_err-opened-clause-unwritten : goal.returns-in_err-opened-clause-unwritten
returns-in_err-opened-clause-unwritten g c = if_refused c.from_residual.result (opens_unwritten g.D.Disk c.args.cell c.args.disk.now c.open.new.disk c.open.ensures.any_moment (λ tells. c.open.ensures.keeps tells))

pub returns-in_err-opened-clause-any_moment : goal.returns-in_err-opened-clause-any_moment
returns-in_err-opened-clause-any_moment g c = opens_to_before g.D.Disk c.args.cell c.args.disk.now c.open.new.disk c.open.ensures.any_moment (λ tells. c.open.ensures.keeps tells)

pub returns-in_err-state-clause-refused : goal.returns-in_err-state-clause-refused
returns-in_err-state-clause-refused g c =
    λ tells.
    let bodies = c.as_slice.result.now in
    let has = subst (λ (bs : List (List ℕ)). HasBodies (g.D.Disk.seen c.args.disk.now) c.args.cell bs) (sym c.as_slice.ensures) (c.in_ok-opened.ensures.bodies tells) in
    let p = err_from_is_err_and c.from_residual-in_err-state.result c.from_residual-in_err-state.ensures.1 in
    rw (p.1, p.2) (replay_fault c.args.cell (g.D.Disk.seen c.args.disk.now) bodies has c.in_err-state.field-0.0 c.in_err-state.ensures)

pub returns-in_err-state-clause-unwritten : goal.returns-in_err-state-clause-unwritten
returns-in_err-state-clause-unwritten g c = if_refused c.from_residual-in_err-state.result (opens_unwritten g.D.Disk c.args.cell c.args.disk.now c.open.new.disk c.open.ensures.any_moment (λ tells. c.open.ensures.keeps tells))

pub returns-in_err-state-clause-any_moment : goal.returns-in_err-state-clause-any_moment
returns-in_err-state-clause-any_moment g c = opens_to_before g.D.Disk c.args.cell c.args.disk.now c.open.new.disk c.open.ensures.any_moment (λ tells. c.open.ensures.keeps tells)

pub returns-in_default-clause-refused : goal.returns-in_default-clause-refused
returns-in_default-clause-refused g c =
    λ tells.
    let bodies = c.as_slice.result.now in
    let has = subst (λ (bs : List (List ℕ)). HasBodies (g.D.Disk.seen c.args.disk.now) c.args.cell bs) (sym c.as_slice.ensures) (c.in_ok-opened.ensures.bodies tells) in
    spent c.args.cell (g.D.Disk.seen c.args.disk.now) bodies has (kept c.in_ok-state.state) c.in_ok-state.ensures c.in_default.ensures.none

pub returns-in_default-clause-unwritten : goal.returns-in_default-clause-unwritten
returns-in_default-clause-unwritten g c = opens_unwritten g.D.Disk c.args.cell c.args.disk.now c.open.new.disk c.open.ensures.any_moment (λ tells. c.open.ensures.keeps tells)

pub returns-in_default-clause-any_moment : goal.returns-in_default-clause-any_moment
returns-in_default-clause-any_moment g c = opens_to_before g.D.Disk c.args.cell c.args.disk.now c.open.new.disk c.open.ensures.any_moment (λ tells. c.open.ensures.keeps tells)

pub returns-in_err-epoch_body-clause-unwritten : goal.returns-in_err-epoch_body-clause-unwritten
returns-in_err-epoch_body-clause-unwritten g c = if_refused c.from_residual-in_err-epoch_body.result (opens_unwritten g.D.Disk c.args.cell c.args.disk.now c.open.new.disk c.open.ensures.any_moment (λ tells. c.open.ensures.keeps tells))

pub returns-in_err-epoch_body-clause-any_moment : goal.returns-in_err-epoch_body-clause-any_moment
returns-in_err-epoch_body-clause-any_moment g c = opens_to_before g.D.Disk c.args.cell c.args.disk.now c.open.new.disk c.open.ensures.any_moment (λ tells. c.open.ensures.keeps tells)

pub returns-in_err-append-clause-any_moment : goal.returns-in_err-append-clause-any_moment
returns-in_err-append-clause-any_moment g c =
    let s = kept c.in_ok-state.state in
    let within = subst (λ n. n ≤ GREATEST_EPOCH) c.in-Some.ensures.some.0 c.in-Some.ensures.some.1 in
    let spelled = c.as_slice-2.ensures ∙ c.in_ok-epoch_body.ensures.body ∙ ap (λ n. cell_entry_bytes (Epoch n)) c.in-Some.ensures.some.0 in
    let read = λ (tells : IsTrue g.D.Disk.tells). subst (λ (bs : List (List ℕ)). HasBodies (g.D.Disk.seen c.args.disk.now) c.args.cell bs) (sym c.as_slice.ensures) (c.in_ok-opened.ensures.bodies tells) in
    let settled = λ (tells : IsTrue g.D.Disk.tells). subst (λ (bs : List (List ℕ)). IsSettled g.D.Disk c.open.new.disk c.in_ok-opened.opened.journal bs) (sym c.as_slice.ensures) (c.in_ok-opened.ensures.settled tells) in
    opens_to_next g.D.Disk c.args.cell c.args.disk.now c.open.new.disk c.open.ensures.any_moment (λ tells. c.open.ensures.keeps tells) c.append.new.disk c.in_ok-opened.opened.journal c.in_ok-opened.ensures.file
    c.as_slice.result.now s c.in_ok-state.ensures within c.as_slice-2.result.now spelled g.met.D.Disk.seen_may_stay read c.open.ensures.elsewhere settled c.append.ensures.any_moment

pub returns-in_err-append-clause-others : goal.returns-in_err-append-clause-others
returns-in_err-append-clause-others g c =
    touches_on g.D.Disk c.args.cell c.args.disk.now c.open.new.disk c.append.new.disk
    (record { elsewhere = c.open.ensures.elsewhere; counts = c.open.ensures.counts })
    (subst (λ file. TouchesOnly g.D.Disk file c.open.new.disk c.append.new.disk) c.in_ok-opened.ensures.file (record { elsewhere = c.append.ensures.elsewhere; counts = c.append.ensures.counts }))

pub returns-clause-opened : goal.returns-clause-opened
returns-clause-opened g c =
    λ tells.
    let bodies = c.as_slice.result.now in
    let has = subst (λ (bs : List (List ℕ)). HasBodies (g.D.Disk.seen c.args.disk.now) c.args.cell bs) (sym c.as_slice.ensures) (c.in_ok-opened.ensures.bodies tells) in
    let now : kept (record { epoch = c.in-Some.epoch; tree = c.in_ok-state.state.tree; rows = c.in_ok-state.state.rows; known = c.in_ok-state.state.known }) ≡ next_epoch (kept c.in_ok-state.state) = ap (λ n. record (kept c.in_ok-state.state) { epoch = n }) c.in-Some.ensures.some.0 in
    opened_is c.args.cell (g.D.Disk.seen c.args.disk.now) bodies has (kept c.in_ok-state.state) c.in_ok-state.ensures c.append.new.self
    (record { epoch = c.in-Some.epoch; tree = c.in_ok-state.state.tree; rows = c.in_ok-state.state.rows; known = c.in_ok-state.state.known }) now

pub returns-clause-store : goal.returns-clause-store
returns-clause-store g c =
    let s = kept c.in_ok-state.state in
    let within = subst (λ n. n ≤ GREATEST_EPOCH) c.in-Some.ensures.some.0 c.in-Some.ensures.some.1 in
    let spelled = c.as_slice-2.ensures ∙ c.in_ok-epoch_body.ensures.body ∙ ap (λ n. cell_entry_bytes (Epoch n)) c.in-Some.ensures.some.0 in
    let now : kept (record { epoch = c.in-Some.epoch; tree = c.in_ok-state.state.tree; rows = c.in_ok-state.state.rows; known = c.in_ok-state.state.known }) ≡ next_epoch (kept c.in_ok-state.state) = ap (λ n. record (kept c.in_ok-state.state) { epoch = n }) c.in-Some.ensures.some.0 in
    is_opened c.args.cell c.requires c.as_slice.result.now s c.in_ok-state.ensures within c.append.new.self
    (record { epoch = c.in-Some.epoch; tree = c.in_ok-state.state.tree; rows = c.in_ok-state.state.rows; known = c.in_ok-state.state.known }) (c.append.ensures.file ∙ c.in_ok-opened.ensures.file) now

pub returns-clause-at_rest : goal.returns-clause-at_rest
returns-clause-at_rest g c =
    let s = kept c.in_ok-state.state in
    let within = subst (λ n. n ≤ GREATEST_EPOCH) c.in-Some.ensures.some.0 c.in-Some.ensures.some.1 in
    let spelled = c.as_slice-2.ensures ∙ c.in_ok-epoch_body.ensures.body ∙ ap (λ n. cell_entry_bytes (Epoch n)) c.in-Some.ensures.some.0 in
    let now : kept (record { epoch = c.in-Some.epoch; tree = c.in_ok-state.state.tree; rows = c.in_ok-state.state.rows; known = c.in_ok-state.state.known }) ≡ next_epoch (kept c.in_ok-state.state) = ap (λ n. record (kept c.in_ok-state.state) { epoch = n }) c.in-Some.ensures.some.0 in
    let read = λ (tells : IsTrue g.D.Disk.tells). subst (λ (bs : List (List ℕ)). HasBodies (g.D.Disk.seen c.args.disk.now) c.args.cell bs) (sym c.as_slice.ensures) (c.in_ok-opened.ensures.bodies tells) in
    let settled = λ (tells : IsTrue g.D.Disk.tells). subst (λ (bs : List (List ℕ)). IsSettled g.D.Disk c.open.new.disk c.in_ok-opened.opened.journal bs) (sym c.as_slice.ensures) (c.in_ok-opened.ensures.settled tells) in
    at_rest g.D.Disk c.args.cell c.args.disk.now c.open.new.disk c.open.ensures.any_moment (λ tells. c.open.ensures.keeps tells) c.append.new.disk c.in_ok-opened.opened.journal c.in_ok-opened.ensures.file
    c.as_slice.result.now s c.in_ok-state.ensures within c.as_slice-2.result.now spelled g.met.D.Disk.seen_may_stay read c.open.ensures.elsewhere settled
    c.append.new.self (record { epoch = c.in-Some.epoch; tree = c.in_ok-state.state.tree; rows = c.in_ok-state.state.rows; known = c.in_ok-state.state.known })
    c.in_ok-opened.ensures.live c.in_ok-append.ensures.live now c.in_ok-append.ensures.adds

pub returns-clause-any_moment : goal.returns-clause-any_moment
returns-clause-any_moment g c =
    let s = kept c.in_ok-state.state in
    let within = subst (λ n. n ≤ GREATEST_EPOCH) c.in-Some.ensures.some.0 c.in-Some.ensures.some.1 in
    let spelled = c.as_slice-2.ensures ∙ c.in_ok-epoch_body.ensures.body ∙ ap (λ n. cell_entry_bytes (Epoch n)) c.in-Some.ensures.some.0 in
    let read = λ (tells : IsTrue g.D.Disk.tells). subst (λ (bs : List (List ℕ)). HasBodies (g.D.Disk.seen c.args.disk.now) c.args.cell bs) (sym c.as_slice.ensures) (c.in_ok-opened.ensures.bodies tells) in
    let settled = λ (tells : IsTrue g.D.Disk.tells). subst (λ (bs : List (List ℕ)). IsSettled g.D.Disk c.open.new.disk c.in_ok-opened.opened.journal bs) (sym c.as_slice.ensures) (c.in_ok-opened.ensures.settled tells) in
    opens_to_next g.D.Disk c.args.cell c.args.disk.now c.open.new.disk c.open.ensures.any_moment (λ tells. c.open.ensures.keeps tells) c.append.new.disk c.in_ok-opened.opened.journal c.in_ok-opened.ensures.file
    c.as_slice.result.now s c.in_ok-state.ensures within c.as_slice-2.result.now spelled g.met.D.Disk.seen_may_stay read c.open.ensures.elsewhere settled c.append.ensures.any_moment

pub returns-clause-others : goal.returns-clause-others
returns-clause-others g c =
    touches_on g.D.Disk c.args.cell c.args.disk.now c.open.new.disk c.append.new.disk
    (record { elsewhere = c.open.ensures.elsewhere; counts = c.open.ensures.counts })
    (subst (λ file. TouchesOnly g.D.Disk file c.open.new.disk c.append.new.disk) c.in_ok-opened.ensures.file (record { elsewhere = c.append.ensures.elsewhere; counts = c.append.ensures.counts }))

pub returns-in_err-opened-clause-reads : goal.returns-in_err-opened-clause-reads
returns-in_err-opened-clause-reads g c = reads_before g.D.Disk c.args.cell c.args.disk.now c.open.new.disk c.open.ensures.any_moment (λ tells. c.open.ensures.keeps tells)

pub returns-in_err-state-clause-reads : goal.returns-in_err-state-clause-reads
returns-in_err-state-clause-reads g c = reads_before g.D.Disk c.args.cell c.args.disk.now c.open.new.disk c.open.ensures.any_moment (λ tells. c.open.ensures.keeps tells)

pub returns-in_default-clause-reads : goal.returns-in_default-clause-reads
returns-in_default-clause-reads g c = reads_before g.D.Disk c.args.cell c.args.disk.now c.open.new.disk c.open.ensures.any_moment (λ tells. c.open.ensures.keeps tells)

pub returns-in_err-epoch_body-clause-reads : goal.returns-in_err-epoch_body-clause-reads
returns-in_err-epoch_body-clause-reads g c = reads_before g.D.Disk c.args.cell c.args.disk.now c.open.new.disk c.open.ensures.any_moment (λ tells. c.open.ensures.keeps tells)

pub returns-in_err-append-clause-reads : goal.returns-in_err-append-clause-reads
returns-in_err-append-clause-reads g c =
    let s = kept c.in_ok-state.state in
    let within = subst (λ n. n ≤ GREATEST_EPOCH) c.in-Some.ensures.some.0 c.in-Some.ensures.some.1 in
    let spelled = c.as_slice-2.ensures ∙ c.in_ok-epoch_body.ensures.body ∙ ap (λ n. cell_entry_bytes (Epoch n)) c.in-Some.ensures.some.0 in
    let read = λ (tells : IsTrue g.D.Disk.tells). subst (λ (bs : List (List ℕ)). HasBodies (g.D.Disk.seen c.args.disk.now) c.args.cell bs) (sym c.as_slice.ensures) (c.in_ok-opened.ensures.bodies tells) in
    let settled = λ (tells : IsTrue g.D.Disk.tells). subst (λ (bs : List (List ℕ)). IsSettled g.D.Disk c.open.new.disk c.in_ok-opened.opened.journal bs) (sym c.as_slice.ensures) (c.in_ok-opened.ensures.settled tells) in
    reads_in_doubt g.D.Disk c.args.cell c.args.disk.now c.open.new.disk c.open.ensures.any_moment (λ tells. c.open.ensures.keeps tells) c.append.new.disk c.in_ok-opened.opened.journal c.in_ok-opened.ensures.file
    c.as_slice.result.now s c.in_ok-state.ensures within c.as_slice-2.result.now spelled g.met.D.Disk.seen_may_stay read c.open.ensures.elsewhere settled c.in_err-append.ensures.in_doubt

pub returns-clause-reads : goal.returns-clause-reads
returns-clause-reads g c =
    let s = kept c.in_ok-state.state in
    let within = subst (λ n. n ≤ GREATEST_EPOCH) c.in-Some.ensures.some.0 c.in-Some.ensures.some.1 in
    let spelled = c.as_slice-2.ensures ∙ c.in_ok-epoch_body.ensures.body ∙ ap (λ n. cell_entry_bytes (Epoch n)) c.in-Some.ensures.some.0 in
    let read = λ (tells : IsTrue g.D.Disk.tells). subst (λ (bs : List (List ℕ)). HasBodies (g.D.Disk.seen c.args.disk.now) c.args.cell bs) (sym c.as_slice.ensures) (c.in_ok-opened.ensures.bodies tells) in
    let settled = λ (tells : IsTrue g.D.Disk.tells). subst (λ (bs : List (List ℕ)). IsSettled g.D.Disk c.open.new.disk c.in_ok-opened.opened.journal bs) (sym c.as_slice.ensures) (c.in_ok-opened.ensures.settled tells) in
    reads_next g.D.Disk c.args.cell c.args.disk.now c.open.new.disk c.open.ensures.any_moment (λ tells. c.open.ensures.keeps tells) c.append.new.disk c.in_ok-opened.opened.journal c.in_ok-opened.ensures.file
    c.as_slice.result.now s c.in_ok-state.ensures within c.as_slice-2.result.now spelled g.met.D.Disk.seen_may_stay read c.open.ensures.elsewhere settled
    c.append.new.self c.append.ensures.file c.in_ok-append.ensures.adds
