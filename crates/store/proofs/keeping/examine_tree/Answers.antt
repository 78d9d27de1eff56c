use Rattle.std.proofs.Common.{arith}
use Rattle.store.proofs.Examined.{few_all, found_whole, found_wrong}
use Rattle.store.proofs.keeping.examine_tree.Goals as goal

pub returns-in_err-examine-clause-answer : goal.returns-in_err-examine-clause-answer
returns-in_err-examine-clause-answer g c =
    let cs = g.D.Device.contents c.args.device.now in
    let h = c.in_err-examine.ensures in
    found_wrong g.D.Kind.Key.WIDE cs (g.D.Kind.Key.bytes c.args.root) c.from_residual.result _ c.in_err-examine.field-0.0 c.from_residual.ensures.1 h.tells h.absent (omega (arith, few_all cs (g.met.D.Device.held c.args.device.now).fits, c.requires))

pub returns-clause-answer : goal.returns-clause-answer
returns-clause-answer g c = found_whole g.D.Kind.Key.WIDE (g.D.Device.contents c.args.device.now) (g.D.Kind.Key.bytes c.args.root) c.in_ok-examine.ensures.tells
