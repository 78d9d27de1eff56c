use Rattle.std.proofs.Common.{ℕ, [], subst, arith}
use Rattle.slots.specs.Walks.{keys_of}
use Rattle.walks.specs.Sweeps.{Sweep}
use Rattle.walks.proofs.Visiting.{passed_err}
use Rattle.walks.proofs.sweep.visit_levels.Goals as goal

pub returns-in_err-visit : goal.returns-in_err-visit
returns-in_err-visit g c root slots s =
    passed_err g.D.Kind.Key.WIDE (g.D.Device.contents c.args.device.now) root slots _ c.from_residual.result c.in_err-visit.field-0.0 c.from_residual.ensures.1
    (c.in_err-visit.ensures root slots (c.loop-level.invariant root slots s))

pub returns : goal.returns
returns g c root slots s =
    subst (λ (n : ℕ). Sweep g.D.Kind.Key.bytes g.D.Kind.Key.WIDE (g.D.Device.contents c.args.device.now) root slots n [] (keys_of c.loop-level.table)) (omega (arith, c.loop-level-test.false)) (c.loop-level.invariant root slots s)
