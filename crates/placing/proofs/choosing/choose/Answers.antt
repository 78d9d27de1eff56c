use Rattle.std.proofs.Common.{◌≡◌, rules}
use Rattle.placing.specs.Placings.{chosen}
use Rattle.placing.proofs.Rules.{rule_of}
use Rattle.placing.proofs.choosing.choose.Goals as goal

pub returns-clause-rule : goal.returns-clause-rule
returns-clause-rule g c =
    let cs = g.D.Device.contents c.args.device.now in
    let a = c.args in
    let e : c.or_else.result ≡ chosen cs a.filling a.spare a.len = search rules in
    rule_of cs a.filling a.spare a.len c.or_else.result e
