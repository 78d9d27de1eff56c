use Rattle.std.proofs.Common.{◌+◌, ◌*◌, ap}
use Rattle.container_file.proofs.Headers.{entry_there}
use Rattle.container_file.proofs.file.ContainerFile.entry.Goals as goal

pub returns : goal.returns
returns g c =
    let h = c.in_ok-header.ensures in
    let e = c.entry_size.ensures in
    entry_there g.F.Key.WIDE c.args.self.now c.in_ok-header.header c.args.place _ h.0 h.1 c.if-place-header.false (ap (λ k. c.in_ok-header.header.base + (16 + c.args.place.index * k)) e)
