use Rattle.std.proofs.Common.{None, arith}
use Rattle.std.proofs.lemmas.List.Elements.{All-replicate}
use Rattle.catalogue.specs.Sheets.{Counted}
use Rattle.catalogue.proofs.entries.Catalogue.new.Goals as goal

pub invariant_of-result-clause-counted : goal.invariant_of-result-clause-counted
invariant_of-result-clause-counted g c = All-replicate Counted 64 None (omega arith)
