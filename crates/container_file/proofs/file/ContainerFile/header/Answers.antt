use Rattle.std.proofs.Common.{◌+◌, ◌*◌, take, drop, refl, ap, ◌∙◌, arith}
use Rattle.keys.specs.Octets.{number}
use Rattle.container_file.proofs.Headers.{headed}
use Rattle.container_file.proofs.file.ContainerFile.header.Goals as goal

pub returns : goal.returns
returns g c =
    let w = g.F.Key.WIDE in
    let base = c.args.container * c.container_size.result in
    let n = c.containers.ensures.count in
    let t = c.if-container-containers.false in
    (refl, headed w c.args.self.now c.args.container base _ _ (omega arith) (ap (λ k. c.args.container * k) c.container_size.ensures) (c.u16_at.ensures ∙ ap (λ xs. number (take 2 (drop base xs))) c.deref.ensures.value) (c.u16_at-2.ensures ∙ ap (λ xs. number (take 2 (drop (base + 2) xs))) c.deref-2.ensures.value))
