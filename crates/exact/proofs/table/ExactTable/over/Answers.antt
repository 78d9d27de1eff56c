use Rattle.std.proofs.Common.{arith}
use Rattle.std.proofs.lemmas.Grind.{common_steps}
use Rattle.exact.proofs.Steps.{started}
use Rattle.exact.proofs.table.ExactTable.over.Goals as goal

pub returns-clause-own : goal.returns-clause-own
returns-clause-own g c = started g.K.Key.bytes _ _ c.empty.ensures.meaning (grind (arith, common_steps))
