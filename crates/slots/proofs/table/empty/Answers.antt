use Rattle.std.proofs.Common.{length, rules}
use Rattle.slots.proofs.Walking.{emptied_all}
use Rattle.slots.proofs.table.empty.Goals as goal

pub returns-clause-meaning : goal.returns-clause-meaning
returns-clause-meaning g c = emptied_all g.K.Key.bytes c.fill.new.self (length c.args.slots.now) (search rules)
