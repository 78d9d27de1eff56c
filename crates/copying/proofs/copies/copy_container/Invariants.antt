use Rattle.std.proofs.Common.{◌≡◌, take}
use Rattle.devices.specs.Questions.{records_of}
use Rattle.copying.specs.Copies.{with_more}
use Rattle.copying.proofs.copies.copy_container.Given as goal

-- the first records are behind those that were there
abbrev pub invariant-loop-index : goal.invariant-loop-index
invariant-loop-index g l = g.Y.Device.contents l.to ≡ with_more (g.Y.Device.contents l.initial.to) l.container (take l.index (records_of (g.X.Device.contents l.from) l.container))
