use Rattle.std.proofs.Common.{◌≡◌, ℕ, List}
use Rattle.std.specs.Slice.Iter.{chunks_exact_rest, chunks_exact_size}
use Rattle.records.specs.Records.{Rec}
use Rattle.slots.specs.Walks.{keys_of}
use Rattle.walks.specs.Sweeps.{Sweep, Parent}
use Rattle.walks.proofs.Visiting.{Going}
use Rattle.walks.proofs.sweep.Nodes.admit_pieces.Given as goal

-- the children before those that are left are admitted
abbrev pub invariant-loop-piece : goal.invariant-loop-piece
invariant-loop-piece g l =
    let b = g.D.Kind.Key.bytes in
    let w = g.D.Kind.Key.WIDE in
    let cs = g.D.Device.contents l.self.device.now in
    (chunks_exact_size l.piece-iterator ≡ w)
    × ((root : List ℕ) (slots : ℕ) (done : List (List ℕ)) (p : g.row.D-Kind.Denot) (r : Rec) →
    Sweep b w cs root slots l.self.level done (keys_of l.initial.table) → Parent b cs l.place l.self.level (keys_of l.initial.table) p r → r.payload ≡ l.payload →
    Going b w cs root slots l.self.level done l.place p r l.payload (chunks_exact_rest l.piece-iterator) (keys_of l.table))
