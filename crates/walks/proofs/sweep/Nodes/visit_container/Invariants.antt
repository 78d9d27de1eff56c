use Rattle.std.proofs.Common.{ℕ, List, ◌++◌, map, take}
use Rattle.devices.specs.Questions.{records_of}
use Rattle.slots.specs.Walks.{keys_of}
use Rattle.walks.specs.Sweeps.{Sweep}
use Rattle.walks.proofs.sweep.Nodes.visit_container.Given as goal

abbrev pub invariant-loop-index : goal.invariant-loop-index
invariant-loop-index g l =
    let b = g.D.Kind.Key.bytes in
    let w = g.D.Kind.Key.WIDE in
    let cs = g.D.Device.contents l.self.device.now in
    (root : List ℕ) (slots : ℕ) (done : List (List ℕ)) → Sweep b w cs root slots l.self.level done (keys_of l.initial.table) →
    Sweep b w cs root slots l.self.level (map (λ x. x.fingerprint) (take l.index (records_of cs l.container)) ++ done) (keys_of l.table)
