use Rattle.std.proofs.Common.{◌∙◌}
use Rattle.catalogue.proofs.Kept.{entry_of_kept}
use Rattle.catalogue.proofs.entries.Catalogue.entry_of.Goals as goal

pub returns : goal.returns
returns g c = c.find.ensures ∙ entry_of_kept g.F.Key.bytes c.args.self.now.entries c.args.name.now
