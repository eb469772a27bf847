use Rattle.disk_journal.proofs.Opening.{idle, idle_more}
use Rattle.disk_journal.proofs.journal.read_synced.Goals as goal

pub returns-in_err-sync-clause-any_moment : goal.returns-in_err-sync-clause-any_moment
returns-in_err-sync-clause-any_moment g c t =
    let laws = g.met.D.Disk in
    let start = idle g.D.Disk laws.only_now laws.seen_may_stay c.args.file c.args.disk.now in
    let one = idle_more g.D.Disk laws.only_now laws.seen_may_stay c.args.file c.args.disk.now c.args.disk.now c.sync.new.self start (c.sync.ensures.time t) (c.sync.ensures.crash t) in
    one.so_far

pub returns-in_err-size-clause-any_moment : goal.returns-in_err-size-clause-any_moment
returns-in_err-size-clause-any_moment g c t =
    let laws = g.met.D.Disk in
    let start = idle g.D.Disk laws.only_now laws.seen_may_stay c.args.file c.args.disk.now in
    let one = idle_more g.D.Disk laws.only_now laws.seen_may_stay c.args.file c.args.disk.now c.args.disk.now c.sync.new.self start (c.sync.ensures.time t) (c.sync.ensures.crash t) in
    let two = idle_more g.D.Disk laws.only_now laws.seen_may_stay c.args.file c.args.disk.now c.sync.new.self c.size.new.self one (c.size.ensures.time t) (c.size.ensures.crash t) in
    two.so_far

pub returns-in_err-read-clause-any_moment : goal.returns-in_err-read-clause-any_moment
returns-in_err-read-clause-any_moment g c t =
    let laws = g.met.D.Disk in
    let start = idle g.D.Disk laws.only_now laws.seen_may_stay c.args.file c.args.disk.now in
    let one = idle_more g.D.Disk laws.only_now laws.seen_may_stay c.args.file c.args.disk.now c.args.disk.now c.sync.new.self start (c.sync.ensures.time t) (c.sync.ensures.crash t) in
    let two = idle_more g.D.Disk laws.only_now laws.seen_may_stay c.args.file c.args.disk.now c.sync.new.self c.size.new.self one (c.size.ensures.time t) (c.size.ensures.crash t) in
    let three = idle_more g.D.Disk laws.only_now laws.seen_may_stay c.args.file c.args.disk.now c.size.new.self c.read.new.self two (c.read.ensures.time t) (c.read.ensures.crash t) in
    three.so_far

pub returns-clause-any_moment : goal.returns-clause-any_moment
returns-clause-any_moment g c t =
    let laws = g.met.D.Disk in
    let start = idle g.D.Disk laws.only_now laws.seen_may_stay c.args.file c.args.disk.now in
    let one = idle_more g.D.Disk laws.only_now laws.seen_may_stay c.args.file c.args.disk.now c.args.disk.now c.sync.new.self start (c.sync.ensures.time t) (c.sync.ensures.crash t) in
    let two = idle_more g.D.Disk laws.only_now laws.seen_may_stay c.args.file c.args.disk.now c.sync.new.self c.size.new.self one (c.size.ensures.time t) (c.size.ensures.crash t) in
    let three = idle_more g.D.Disk laws.only_now laws.seen_may_stay c.args.file c.args.disk.now c.size.new.self c.read.new.self two (c.read.ensures.time t) (c.read.ensures.crash t) in
    three.so_far
