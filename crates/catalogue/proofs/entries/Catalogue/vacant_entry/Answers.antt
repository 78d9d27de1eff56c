use Rattle.std.proofs.Common.{◌∙◌}
use Rattle.catalogue.proofs.Kept.{vacant_entry_kept}
use Rattle.catalogue.proofs.entries.Catalogue.vacant_entry.Goals as goal

pub returns : goal.returns
returns g c = c.vacancy.ensures ∙ vacant_entry_kept g.F.Key.bytes c.args.self.now.entries
