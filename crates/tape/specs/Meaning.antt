-- What a tape's containers hold, by its fields.
use Rattle.std.specs.Prelude.{ℕ, cond, List, [], vec_items, ◌==◌}
use Rattle.records.specs.Records.{Contents}
use Rattle.tape.specs.Log.{log_of, gathered}
use Rattle.tape.specs.declared.tape.Tape.{Tape}

-- what n containers hold in k entries that were laid out at the width v, seen by a kind of the width w
abbrev pub held_at : ℕ → ℕ → ℕ → ℕ → List ℕ → Contents
held_at w v n k bs = cond (v == w) (gathered n (log_of v k bs)) []

-- what a tape holds, seen by a kind of the width w
abbrev pub held_by : {F : Type 0} → ℕ → Tape F → Contents
held_by w t = held_at w t.width t.containers t.entries (vec_items t.bytes)
