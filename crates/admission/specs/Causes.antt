-- What is wrong with a record, by itself and beside the records before it.
use Rattle.std.specs.Prelude.{ℕ, Bool, false, cond, ◌&&◌, ◌||◌, List, length, Some, None, Option, ◌==◌, nat_lt}
use Rattle.std.specs.Bool.{then_some}
use Rattle.keys.specs.Octets.{same_bytes}
use Rattle.records.specs.Records.{Rec, Contents, first_place}
use Rattle.records.specs.Shapes.{shaped}
use Rattle.records.specs.declared.refusal.Cause.{Cause}
use Rattle.records.specs.declared.refusal.Cause.TheVariants.{Shape, WrongFingerprint, RepeatedFingerprint}
use Rattle.records.specs.declared.refusal.Place.{Place}

-- what is wrong with a record by itself, where fingerprints have w bytes and `name` gives the right one of a level and a payload
abbrev pub fault_of : ℕ → (ℕ → List ℕ → List ℕ) → Rec → Option Cause
fault_of w name r =
    cond (shaped w r.level (length r.payload))
    (cond (same_bytes r.fingerprint (name r.level r.payload)) None (Some WrongFingerprint))
    (Some Shape)

-- whether a place comes before another in rising container and record order
abbrev pub earlier : Place → Place → Bool
earlier p q = nat_lt p.container q.container || (p.container == q.container && nat_lt p.index q.index)

-- the same of a place that there may be
abbrev pub is_earlier : Option Place → Place → Bool
is_earlier None q = false
is_earlier (Some p) q = earlier p q

-- what is wrong with the record at p if an earlier one has its fingerprint
abbrev pub repeat_of : Contents → Place → Rec → Option Cause
repeat_of cs p r = then_some (is_earlier (first_place cs r.fingerprint) p) RepeatedFingerprint
