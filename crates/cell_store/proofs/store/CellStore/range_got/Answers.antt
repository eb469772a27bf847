use Rattle.std.proofs.Common.{refl, sym, ◌∙◌, ap}
use Rattle.claim_types.specs.declared.entry.CellEntry.TheVariants.{Got}
use Rattle.cell_store.specs.Store.{stored}
use Rattle.cell_store.specs.Calls.{with_range}
use Rattle.cell_store.proofs.Calling.{still_store, touches, writes, writes_at_most, writes_nothing, left_in_doubt, got_entry, got_turns, got_kept}
use Rattle.cell_store.proofs.store.CellStore.range_got.Goals as goal

pub returns-in_err-range_body-clause-any_moment : goal.returns-in_err-range_body-clause-any_moment
returns-in_err-range_body-clause-any_moment g c =
    let range = c.args.range in
    writes_nothing c.args.self.now c.requires.store g.D.Disk c.args.disk.now (Got range.number range.low range.high) g.met.D.Disk.only_now

pub returns-in_err-add_range-clause-any_moment : goal.returns-in_err-add_range-clause-any_moment
returns-in_err-add_range-clause-any_moment g c =
    let range = c.args.range in
    writes_nothing c.args.self.now c.requires.store g.D.Disk c.args.disk.now (Got range.number range.low range.high) g.met.D.Disk.only_now

pub returns-in_err-append-clause-store : goal.returns-in_err-append-clause-store
returns-in_err-append-clause-store g c =
    let self = c.args.self.now in
    still_store self c.requires.store c.append.new.self c.add_range.new.self (with_range (stored self) c.args.range) c.append.ensures.file c.in_ok-add_range.ensures.ok refl (got_kept self c.requires.store c.args.range c.requires.range)

pub returns-in_err-append-clause-any_moment : goal.returns-in_err-append-clause-any_moment
returns-in_err-append-clause-any_moment g c =
    let self = c.args.self.now in
    let range = c.args.range in
    writes_at_most self c.requires.store g.D.Disk c.args.disk.now c.append.new.disk (Got range.number range.low range.high) (with_range (stored self) range)
    (got_entry self c.requires.store range c.requires.range) (got_turns self c.requires.store range c.requires.range) c.as_slice.result.now (c.as_slice.ensures ∙ c.in_ok-range_body.ensures.body) c.append.ensures.any_moment

pub returns-in_err-append-clause-in_doubt : goal.returns-in_err-append-clause-in_doubt
returns-in_err-append-clause-in_doubt g c =
    let self = c.args.self.now in
    let range = c.args.range in
    λ failed. left_in_doubt self c.requires.store g.D.Disk c.args.disk.now c.append.new.disk (Got range.number range.low range.high) (with_range (stored self) range)
    (got_entry self c.requires.store range c.requires.range) (got_turns self c.requires.store range c.requires.range) c.as_slice.result.now (c.as_slice.ensures ∙ c.in_ok-range_body.ensures.body) c.in_err-append.ensures.in_doubt

pub returns-in_err-append-clause-others : goal.returns-in_err-append-clause-others
returns-in_err-append-clause-others g c =
    touches c.args.self.now c.requires.store g.D.Disk c.args.disk.now c.append.new.disk c.append.ensures.elsewhere c.append.ensures.counts

pub returns-clause-store : goal.returns-clause-store
returns-clause-store g c =
    let self = c.args.self.now in
    still_store self c.requires.store c.append.new.self c.add_range.new.self (with_range (stored self) c.args.range) c.append.ensures.file c.in_ok-add_range.ensures.ok refl (got_kept self c.requires.store c.args.range c.requires.range)

pub returns-clause-any_moment : goal.returns-clause-any_moment
returns-clause-any_moment g c =
    let self = c.args.self.now in
    let range = c.args.range in
    writes_at_most self c.requires.store g.D.Disk c.args.disk.now c.append.new.disk (Got range.number range.low range.high) (with_range (stored self) range)
    (got_entry self c.requires.store range c.requires.range) (got_turns self c.requires.store range c.requires.range) c.as_slice.result.now (c.as_slice.ensures ∙ c.in_ok-range_body.ensures.body) c.append.ensures.any_moment

pub returns-clause-written : goal.returns-clause-written
returns-clause-written g c =
    let self = c.args.self.now in
    let range = c.args.range in
    writes self c.requires.store g.D.Disk c.args.disk.now c.append.new.disk (Got range.number range.low range.high) (with_range (stored self) range)
    (got_entry self c.requires.store range c.requires.range) (got_turns self c.requires.store range c.requires.range) c.as_slice.result.now (c.as_slice.ensures ∙ c.in_ok-range_body.ensures.body)
    c.append.new.self c.add_range.new.self c.in_ok-add_range.ensures.ok c.in_ok-append.ensures.live c.in_ok-append.ensures.adds

pub returns-clause-others : goal.returns-clause-others
returns-clause-others g c =
    touches c.args.self.now c.requires.store g.D.Disk c.args.disk.now c.append.new.disk c.append.ensures.elsewhere c.append.ensures.counts
