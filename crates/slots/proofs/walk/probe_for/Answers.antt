use Rattle.std.proofs.Common.{◌≡◌, arith}
use Rattle.std.proofs.lemmas.Grind.{common_steps}
use Rattle.slots.specs.declared.probe.Probe.{Probe}
use Rattle.slots.specs.Walks.{probed, keys_of, or_else}
use Rattle.slots.proofs.Walking.{or_first, walk_within}
use Rattle.slots.proofs.walk.probe_for.Goals as goal

pub returns-in-Full : goal.returns-in-Full
returns-in-Full g c =
    let e : c.scan-in-Full.result ≡ probed g.K.Key.bytes c.args.key (keys_of c.args.slots.now) = grind (arith, common_steps) in
    record { answer = e; within = walk_within g.K.Key.bytes c.args.key c.args.slots.now _ e }

pub returns-in_default : goal.returns-in_default
returns-in_default g c =
    let ends : (q : Probe) → c.scan.result ≡ or_else c.scan.result q = λ q. or_first c.scan.result q c.in_default.not-Full in
    let e : c.scan.result ≡ probed g.K.Key.bytes c.args.key (keys_of c.args.slots.now) = grind (arith, common_steps, ends) in
    record { answer = e; within = walk_within g.K.Key.bytes c.args.key c.args.slots.now _ e }
