use Rattle.std.proofs.Common.{◌∙◌, rules}
use Rattle.presence.proofs.Looking.{presence_told}
use Rattle.presence.proofs.storing.presence_of.Goals as goal

pub returns : goal.returns
returns g c =
    c.unwrap_or.ensures
    ∙ presence_told c.args.wanted.level c.args.wanted.payload.now (g.D.Device.contents c.args.device.now) (g.D.Kind.Key.bytes c.args.wanted.fingerprint) c.first_place.result c.first_place.ensures c.and_then.result _ c.and_then.ensures (λ x q. search rules)
