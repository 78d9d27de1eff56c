use Rattle.std.proofs.Common.{rules}
use Rattle.walks.proofs.Down.{level_told}
use Rattle.walks.proofs.cursor.height_of.Goals as goal

pub returns : goal.returns
returns g c =
    level_told (g.D.Device.contents c.args.device.now) (g.D.Kind.Key.bytes c.args.root) c.first_place.result c.first_place.ensures c.map_or.result _ c.map_or.ensures (λ x q. search rules)
