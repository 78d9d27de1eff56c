use Rattle.std.proofs.lemmas.List.{map-set}
use Rattle.catalogue.specs.Sheets.{kept_of}
use Rattle.catalogue.proofs.entries.Catalogue.put.Goals as goal

pub returns-then-entry-lt64-clause-counted : goal.returns-then-entry-lt64-clause-counted
returns-then-entry-lt64-clause-counted g c = λ _. map-set (kept_of g.F.Key.bytes) c.args.self.now.entries c.args.entry c.args.sheet
