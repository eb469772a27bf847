use Rattle.std.proofs.Common.{rules, nat_lt, arith, ap, ◌∙◌}
use Rattle.std.proofs.lemmas.Fn.{always_returns_same}
use Rattle.claim_types.specs.declared.record.Record.{Record}
use Rattle.record_tree.proofs.Rising.{rising_records, partitioned, record_found, record_missing, same_at}
use Rattle.record_tree.proofs.places.place_of.Goals as goal

pub returns-then-records-at : goal.returns-then-records-at
returns-then-records-at c = (c.if-at-records.true, record_found c.args.records.now c.args.id c.partition_point-at.result c.requires c.index-records-at.result c.if-at-records.true c.if-records-at.true)

pub returns-else-records-at : goal.returns-else-records-at
returns-else-records-at c =
    let id = c.args.id in
    let rs = c.args.records.now in
    let point = c.partition_point-at.ensures.partitioned (λ (r : Record). nat_lt r.id id) (always_returns_same _ _ _ (λ a r g called. search rules)) (partitioned (λ (r : Record). r.id) 0 rs id (rising_records 0 rs c.requires)) in
    record_missing rs id c.partition_point-at.result c.requires point (λ d lt same. c.if-records-at.false (ap (λ (r : Record). r.id) (same_at rs c.partition_point-at.result c.index-records-at.result d lt) ∙ same))

pub returns-else-at-records : goal.returns-else-at-records
returns-else-at-records c =
    let id = c.args.id in
    let rs = c.args.records.now in
    let point = c.partition_point-at.ensures.partitioned (λ (r : Record). nat_lt r.id id) (always_returns_same _ _ _ (λ a r g called. search rules)) (partitioned (λ (r : Record). r.id) 0 rs id (rising_records 0 rs c.requires)) in
    let le = c.if-at-records.false in
    record_missing rs id c.partition_point-at.result c.requires point (λ d lt same. omega (arith, lt, le))
