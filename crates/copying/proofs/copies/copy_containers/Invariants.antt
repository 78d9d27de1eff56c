use Rattle.std.proofs.Common.{◌≡◌, take}
use Rattle.copying.specs.Copies.{stacked}
use Rattle.copying.proofs.copies.copy_containers.Given as goal

-- the records of the first containers are behind those that were there
abbrev pub invariant-loop-container : goal.invariant-loop-container
invariant-loop-container g l = g.Y.Device.contents l.to ≡ stacked (g.Y.Device.contents l.initial.to) (take l.container (g.X.Device.contents l.from))
