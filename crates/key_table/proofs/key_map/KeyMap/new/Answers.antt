use Rattle.key_table.specs.Joined.{five}
use Rattle.key_table.proofs.Joins.{empty_joined}
use Rattle.key_table.proofs.key_map.KeyMap.new.Goals as goal

pub returns : goal.returns
returns g c = empty_joined (five c.new.result c.new-2.result c.new-3.result c.new-4.result c.new-5.result) c.new.ensures c.new-2.ensures c.new-3.ensures c.new-4.ensures c.new-5.ensures
