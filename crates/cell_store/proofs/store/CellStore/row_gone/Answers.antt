use Rattle.std.proofs.Common.{refl}
use Rattle.claim_types.specs.declared.entry.CellEntry.TheVariants.{RowGone}
use Rattle.cell_store.specs.Store.{stored}
use Rattle.cell_store.specs.Calls.{without_row}
use Rattle.cell_store.proofs.Calling.{still_store, touches, writes, writes_at_most, left_in_doubt, on_err, gone_entry, gone_turns, gone_kept}
use Rattle.cell_store.proofs.store.CellStore.row_gone.Goals as goal

pub returns-in_err-append-clause-store : goal.returns-in_err-append-clause-store
returns-in_err-append-clause-store g c =
    let self = c.args.self.now in
    still_store self c.requires.store c.append.new.self c.take_row.new.self (without_row (stored self) c.args.lease) c.append.ensures.file c.take_row.ensures refl (gone_kept self c.requires.store c.args.lease c.requires.row)

pub returns-in_err-append-clause-any_moment : goal.returns-in_err-append-clause-any_moment
returns-in_err-append-clause-any_moment g c =
    let self = c.args.self.now in
    writes_at_most self c.requires.store g.D.Disk c.args.disk.now c.append.new.disk (RowGone c.args.lease) (without_row (stored self) c.args.lease)
    (gone_entry self c.requires.store c.args.lease c.requires.row) (gone_turns self c.requires.store c.args.lease c.requires.row) _ c.write_row_gone-row_body.ensures c.append.ensures.any_moment

pub returns-in_err-append-clause-in_doubt : goal.returns-in_err-append-clause-in_doubt
returns-in_err-append-clause-in_doubt g c =
    let self = c.args.self.now in
    on_err c.from_residual.result (left_in_doubt self c.requires.store g.D.Disk c.args.disk.now c.append.new.disk (RowGone c.args.lease) (without_row (stored self) c.args.lease)
    (gone_entry self c.requires.store c.args.lease c.requires.row) (gone_turns self c.requires.store c.args.lease c.requires.row) _ c.write_row_gone-row_body.ensures c.in_err-append.ensures.in_doubt)

pub returns-in_err-append-clause-others : goal.returns-in_err-append-clause-others
returns-in_err-append-clause-others g c = touches c.args.self.now c.requires.store g.D.Disk c.args.disk.now c.append.new.disk c.append.ensures.elsewhere c.append.ensures.counts

pub returns-clause-store : goal.returns-clause-store
returns-clause-store g c =
    let self = c.args.self.now in
    still_store self c.requires.store c.append.new.self c.take_row.new.self (without_row (stored self) c.args.lease) c.append.ensures.file c.take_row.ensures refl (gone_kept self c.requires.store c.args.lease c.requires.row)

pub returns-clause-written : goal.returns-clause-written
returns-clause-written g c =
    let self = c.args.self.now in
    writes self c.requires.store g.D.Disk c.args.disk.now c.append.new.disk (RowGone c.args.lease) (without_row (stored self) c.args.lease)
    (gone_entry self c.requires.store c.args.lease c.requires.row) (gone_turns self c.requires.store c.args.lease c.requires.row) _ c.write_row_gone-row_body.ensures
    c.append.new.self c.take_row.new.self c.take_row.ensures c.in_ok-append.ensures.live c.in_ok-append.ensures.adds

pub returns-clause-any_moment : goal.returns-clause-any_moment
returns-clause-any_moment g c =
    let self = c.args.self.now in
    writes_at_most self c.requires.store g.D.Disk c.args.disk.now c.append.new.disk (RowGone c.args.lease) (without_row (stored self) c.args.lease)
    (gone_entry self c.requires.store c.args.lease c.requires.row) (gone_turns self c.requires.store c.args.lease c.requires.row) _ c.write_row_gone-row_body.ensures c.append.ensures.any_moment

pub returns-clause-others : goal.returns-clause-others
returns-clause-others g c = touches c.args.self.now c.requires.store g.D.Disk c.args.disk.now c.append.new.disk c.append.ensures.elsewhere c.append.ensures.counts
