use Rattle.std.proofs.Common.{ℕ, List, []}
use Rattle.slots.specs.Walks.{keys_of}
use Rattle.walks.specs.Sweeps.{Sweep}
use Rattle.walks.proofs.sweep.visit_levels.Given as goal

abbrev pub invariant-loop-level : goal.invariant-loop-level
invariant-loop-level g l =
    let b = g.D.Kind.Key.bytes in
    let w = g.D.Kind.Key.WIDE in
    let cs = g.D.Device.contents l.device in
    (root : List ℕ) (slots : ℕ) → Sweep b w cs root slots l.top [] (keys_of l.initial.table) → Sweep b w cs root slots l.level [] (keys_of l.table)
