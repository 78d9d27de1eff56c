use Rattle.std.proofs.Common.{sym, ◌∙◌}
use Rattle.walks.proofs.Visiting.{child_lacks}
use Rattle.walks.proofs.sweep.Nodes.is_above.Goals as goal

pub returns-clause-lacks : goal.returns-clause-lacks
returns-clause-lacks g c =
    λ e. child_lacks (g.D.Device.contents c.args.self.now.device.now) (g.D.Kind.Key.bytes c.args.child) c.args.self.now.level c.place_at_level.result c.place_at_level.ensures (sym c.is_some.ensures ∙ e)
