use Rattle.std.proofs.Common.{◌<◌, arith}
use Rattle.std.proofs.ByRecursion.{All-from_get_or}
use Rattle.container_file.proofs.changes.put.Goals as goal

pub returns-clause-octets : goal.returns-clause-octets
returns-clause-octets c = All-from_get_or (λ b. b < 256) c.args.from.now 0 (λ i h. let f = c.type_inv.from i in omega arith)
