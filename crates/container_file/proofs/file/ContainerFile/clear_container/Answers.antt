use Rattle.std.proofs.Common.{◌≡◌, ◌+◌, ◌-◌, [], set, vec_items, sym, subst, arith}
use Rattle.container_format.specs.Checking.{Intact}
use Rattle.container_format.specs.Layout.{container_size}
use Rattle.container_format.specs.Reading.{read_file}
use Rattle.container_file.proofs.Erasing.{intact_erase}
use Rattle.container_file.proofs.Headers.{intact_at, changed}
use Rattle.container_file.proofs.file.ContainerFile.clear_container.Given as given
use Rattle.container_file.proofs.file.ContainerFile.clear_container.Goals as goal
use Rattle.container_file.proofs.file.ContainerFile.clear_container.Goals.{After-zero, at-returns}

cleared : (g : given.Over) (c : goal.After-zero g) → let s = c.args.self.now in let after = vec_items c.zero.new.bytes in
    Intact g.F.Key.WIDE s.count after × (read_file g.F.Key.WIDE s.count after ≡ set (read_file g.F.Key.WIDE s.count (vec_items s.bytes)) c.args.header.container [])
cleared g c =
    let w = g.F.Key.WIDE in
    let s = c.args.self.now in
    let h = c.requires in
    let size : c.args.header.base + c.container_size.result - c.args.header.base ≡ container_size w = (let e = c.container_size.ensures in omega arith) in
    intact_erase w s.count c.args.header.container c.args.header.base _ (vec_items s.bytes) _ (intact_at w s h.width) h.container h.base size c.zero.ensures

pub invariant_of-self : goal.invariant_of-self
invariant_of-self g c =
    let s = c.args.self.now in
    record { few = s.few; narrow = s.narrow; intact = ∣ subst (λ v. Intact v s.count (vec_items c.zero.new.bytes)) (sym c.requires.width) (cleared g c).0 ∣₁ }

pub returns : goal.returns
returns g c =
    let s = c.args.self.now in
    changed g.F.Key.WIDE s.width s.count c.args.header.container (vec_items s.bytes) (vec_items c.zero.new.bytes) (λ rs. []) c.requires.width (cleared g (goal.at-returns g c).After-zero).1
