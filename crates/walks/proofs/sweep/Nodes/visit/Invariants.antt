use Rattle.std.proofs.Common.{ℕ, List, [], map, take}
use Rattle.slots.specs.Walks.{keys_of}
use Rattle.trees.specs.Holding.{all}
use Rattle.walks.specs.Sweeps.{Sweep}
use Rattle.walks.proofs.sweep.Nodes.visit.Given as goal

abbrev pub invariant-loop-container : goal.invariant-loop-container
invariant-loop-container g l =
    let b = g.D.Kind.Key.bytes in
    let w = g.D.Kind.Key.WIDE in
    let cs = g.D.Device.contents l.self.device.now in
    (root : List ℕ) (slots : ℕ) → Sweep b w cs root slots l.self.level [] (keys_of l.initial.table) →
    Sweep b w cs root slots l.self.level (map (λ x. x.fingerprint) (all (take l.container cs))) (keys_of l.table)
