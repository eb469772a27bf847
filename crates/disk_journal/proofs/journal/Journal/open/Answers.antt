use Rattle.std.proofs.Common.{◌∙◌}
use Rattle.disk_journal.proofs.Opening.{during_read, during_open, reads_same, kept}
use Rattle.disk_journal.proofs.Settled.{stays_on}
use Rattle.disk_journal.proofs.journal.Journal.open.Goals as goal

pub returns-in_err-bytes-clause-any_moment : goal.returns-in_err-bytes-clause-any_moment
returns-in_err-bytes-clause-any_moment g c t =
    let laws = g.met.D.Disk in
    during_read g.D.Disk laws.only_now laws.seen_may_stay c.args.file c.args.disk.now c.read_synced.new.disk (c.read_synced.ensures.any_moment t)

pub returns-in_err-bytes-clause-keeps : goal.returns-in_err-bytes-clause-keeps
returns-in_err-bytes-clause-keeps g c t =
    let laws = g.met.D.Disk in
    reads_same g.D.Disk laws.only_now laws.seen_may_stay c.args.file c.args.disk.now c.read_synced.new.disk (c.read_synced.ensures.stays t)

pub returns-in_err-records-clause-any_moment : goal.returns-in_err-records-clause-any_moment
returns-in_err-records-clause-any_moment g c t =
    let laws = g.met.D.Disk in
    during_read g.D.Disk laws.only_now laws.seen_may_stay c.args.file c.args.disk.now c.read_synced.new.disk (c.read_synced.ensures.any_moment t)

pub returns-in_err-records-clause-keeps : goal.returns-in_err-records-clause-keeps
returns-in_err-records-clause-keeps g c t =
    let laws = g.met.D.Disk in
    reads_same g.D.Disk laws.only_now laws.seen_may_stay c.args.file c.args.disk.now c.read_synced.new.disk (c.read_synced.ensures.stays t)

pub returns-in_err-buffer-clause-any_moment : goal.returns-in_err-buffer-clause-any_moment
returns-in_err-buffer-clause-any_moment g c t =
    let laws = g.met.D.Disk in
    during_read g.D.Disk laws.only_now laws.seen_may_stay c.args.file c.args.disk.now c.read_synced.new.disk (c.read_synced.ensures.any_moment t)

pub returns-in_err-buffer-clause-keeps : goal.returns-in_err-buffer-clause-keeps
returns-in_err-buffer-clause-keeps g c t =
    let laws = g.met.D.Disk in
    reads_same g.D.Disk laws.only_now laws.seen_may_stay c.args.file c.args.disk.now c.read_synced.new.disk (c.read_synced.ensures.stays t)

pub returns-in_err-trim-clause-any_moment : goal.returns-in_err-trim-clause-any_moment
returns-in_err-trim-clause-any_moment g c t =
    let laws = g.met.D.Disk in
    during_open g.D.Disk laws.only_now laws.seen_may_stay c.args.file c.args.disk.now
    c.read_synced.new.disk (c.read_synced.ensures.any_moment t) (c.read_synced.ensures.stays t) (c.in_ok-bytes.ensures.durable t)
    c.deref.result.now (c.deref.ensures.value ∙ c.in_ok-bytes.ensures.bytes t) c.in_ok-records.records.gate c.in_ok-records.records.bodies.items c.in_ok-records.ensures.bodies c.in_ok-records.ensures.front c.in_ok-records.ensures.within
    c.trim.new.disk (c.trim.ensures.any_moment t) (c.trim.ensures.crash t)

pub returns-in_err-trim-clause-keeps : goal.returns-in_err-trim-clause-keeps
returns-in_err-trim-clause-keeps g c t =
    let laws = g.met.D.Disk in
    kept g.D.Disk laws.only_now laws.seen_may_stay c.args.file c.args.disk.now
    c.read_synced.new.disk (c.read_synced.ensures.any_moment t) (c.read_synced.ensures.stays t) (c.in_ok-bytes.ensures.durable t)
    c.deref.result.now (c.deref.ensures.value ∙ c.in_ok-bytes.ensures.bytes t) c.in_ok-records.records.gate c.in_ok-records.records.bodies.items c.in_ok-records.ensures.bodies c.in_ok-records.ensures.front c.in_ok-records.ensures.within
    c.trim.new.disk (c.trim.ensures.any_moment t) (c.trim.ensures.crash t)

pub returns-clause-any_moment : goal.returns-clause-any_moment
returns-clause-any_moment g c t =
    let laws = g.met.D.Disk in
    during_open g.D.Disk laws.only_now laws.seen_may_stay c.args.file c.args.disk.now
    c.read_synced.new.disk (c.read_synced.ensures.any_moment t) (c.read_synced.ensures.stays t) (c.in_ok-bytes.ensures.durable t)
    c.deref.result.now (c.deref.ensures.value ∙ c.in_ok-bytes.ensures.bytes t) c.in_ok-records.records.gate c.in_ok-records.records.bodies.items c.in_ok-records.ensures.bodies c.in_ok-records.ensures.front c.in_ok-records.ensures.within
    c.trim.new.disk (c.trim.ensures.any_moment t) (c.trim.ensures.crash t)

pub returns-clause-keeps : goal.returns-clause-keeps
returns-clause-keeps g c t =
    let laws = g.met.D.Disk in
    kept g.D.Disk laws.only_now laws.seen_may_stay c.args.file c.args.disk.now
    c.read_synced.new.disk (c.read_synced.ensures.any_moment t) (c.read_synced.ensures.stays t) (c.in_ok-bytes.ensures.durable t)
    c.deref.result.now (c.deref.ensures.value ∙ c.in_ok-bytes.ensures.bytes t) c.in_ok-records.records.gate c.in_ok-records.records.bodies.items c.in_ok-records.ensures.bodies c.in_ok-records.ensures.front c.in_ok-records.ensures.within
    c.trim.new.disk (c.trim.ensures.any_moment t) (c.trim.ensures.crash t)

pub returns-in_err-bytes-clause-elsewhere : goal.returns-in_err-bytes-clause-elsewhere
returns-in_err-bytes-clause-elsewhere g c t q other = c.read_synced.ensures.stays t q

pub returns-in_err-records-clause-elsewhere : goal.returns-in_err-records-clause-elsewhere
returns-in_err-records-clause-elsewhere g c t q other = c.read_synced.ensures.stays t q

pub returns-in_err-buffer-clause-elsewhere : goal.returns-in_err-buffer-clause-elsewhere
returns-in_err-buffer-clause-elsewhere g c t q other = c.read_synced.ensures.stays t q

pub returns-in_err-trim-clause-elsewhere : goal.returns-in_err-trim-clause-elsewhere
returns-in_err-trim-clause-elsewhere g c t q other = stays_on g.D.Disk q c.args.disk.now c.read_synced.new.disk c.trim.new.disk (c.read_synced.ensures.stays t q) (c.trim.ensures.elsewhere t q other)

pub returns-clause-elsewhere : goal.returns-clause-elsewhere
returns-clause-elsewhere g c t q other = stays_on g.D.Disk q c.args.disk.now c.read_synced.new.disk c.trim.new.disk (c.read_synced.ensures.stays t q) (c.trim.ensures.elsewhere t q other)
