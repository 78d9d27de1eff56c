use Rattle.std.proofs.Common.{◌∙◌}
use Rattle.container_file.proofs.Laying.{whole_bytes}
use Rattle.container_file.proofs.file.ContainerFile.bytes.Goals as goal

pub returns : goal.returns
returns g c =
    let e = c.deref.ensures.value in
    record { value = e; whole = λ h. let t = whole_bytes g.F.Key.WIDE c.args.self.now h in (t.0, e ∙ t.1) }
