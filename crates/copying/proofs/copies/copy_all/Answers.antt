use Rattle.std.proofs.Common.{subst}
use Rattle.copying.specs.Copies.{MovedAll}
use Rattle.copying.proofs.Fresh.{moved_fresh}
use Rattle.copying.proofs.copies.copy_all.Goals as goal

pub returns-clause-same : goal.returns-clause-same
returns-clause-same g c =
    let cs = g.X.Device.contents c.args.from.now in
    let es = g.Y.Device.contents c.copy_containers.new.to in
    λ stored free. moved_fresh g.X.Kind.Key.WIDE cs c.copy_containers.result es stored (subst (λ ds. MovedAll cs ds c.copy_containers.result es) free c.copy_containers.ensures)
