use Rattle.std.proofs.Common.{arith}
use Rattle.catalogue.proofs.Naming.{text}
use Rattle.catalogue.proofs.name.Name.of.Goals as goal

pub returns-in_err-spelling : goal.returns-in_err-spelling
returns-in_err-spelling c = grind (arith, text)
