use Rattle.std.proofs.Common.{◌≡◌, length, vec_items, sym, refl, ap, ◌∙◌}
use Rattle.container_format.proofs.Files.{length-read_file}
use Rattle.container_file.specs.Held.{held_same}
use Rattle.container_file.proofs.file.ContainerFile.containers.Goals as goal

pub returns-then-self-WIDE : goal.returns-then-self-WIDE
returns-then-self-WIDE g c =
    let s = c.args.self.now in
    let w = g.F.Key.WIDE in
    let e : s.width ≡ w = c.if-self-WIDE.true ∙ c.WIDE.ensures in
    record { count = sym (ap length (held_same w s e) ∙ length-read_file s.width s.count (vec_items s.bytes)); own = λ _. (e, refl) }
