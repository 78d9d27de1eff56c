-- What the limits of a device say of one container and of one record.
use Rattle.std.proofs.Common.{◌≡◌, ℕ, zero, suc, ◌<◌, ◌≤◌, cond, List, [], ◌∷◌, length, get_or, Ok, Err, ap, ⊎_elim, arith}
use Rattle.std.proofs.ByRecursion.{All-get_or}
use Rattle.std.proofs.lemmas.List.{get_or_past}
use Rattle.std.proofs.lemmas.Bool.{cases_lt, lt-ltb}
use Rattle.std.specs.List.{AllByRecursion}
use Rattle.records.specs.Limits.{Typed, Fits}
use Rattle.records.specs.Records.{Rec, Contents, no_record, payload_bytes}
use Rattle.records.specs.Refusals.{untold}
use Rattle.records.specs.declared.refusal.Cause.TheVariants.{NoSuchPlace}
use Rattle.records.specs.declared.refusal.Place.{Place}
use Rattle.devices.specs.Questions.{Held, records_of, record_at, of_record}

-- the records of a container are within the limits, also where there is no such container
pub few_records : (w : ℕ) (cs : Contents) (c : ℕ) → Held w cs → length (records_of cs c) ≤ 63
few_records w cs c h =
    ⊎_elim
    (λ here. (All-get_or Fits cs c [] here h.fits).count)
    (λ past. let e = ap length (get_or_past cs c [] past) in omega arith)
    (cases_lt c (length cs))

-- a stored fingerprint is the bytes of the key that it reads as
pub typed_at : (w : ℕ) (cs : Contents) (p : Place) → Held w cs → p.index < length (records_of cs p.container) → Typed w (record_at cs p)
typed_at w cs p h inside =
    ⊎_elim
    (λ here. All-get_or (Typed w) (records_of cs p.container) p.index no_record inside (All-get_or (AllByRecursion (Typed w)) cs p.container [] here h.typed))
    (λ past. absurd (let e = ap length (get_or_past cs p.container [] past) in omega arith))
    (cases_lt p.container (length cs))

-- no payload is longer than all of its container's
pub part_of_bytes : (rs : List Rec) (i : ℕ) → i < length rs → length (get_or rs i no_record).payload ≤ payload_bytes rs
part_of_bytes [] i h = absurd (omega arith)
part_of_bytes (r ∷ rs) zero h = omega arith
part_of_bytes (r ∷ rs) (suc i) h = let t = part_of_bytes rs i (omega arith) in omega arith

-- so every payload fits a buffer of 7,168 bytes
pub small_payload : (w : ℕ) (cs : Contents) (p : Place) → Held w cs → p.index < length (records_of cs p.container) → length (record_at cs p).payload ≤ 7168
small_payload w cs p h inside =
    ⊎_elim
    (λ here. let a = (All-get_or Fits cs p.container [] here h.fits).bytes in let b = part_of_bytes (records_of cs p.container) p.index inside in omega arith)
    (λ past. absurd (let e = ap length (get_or_past cs p.container [] past) in omega arith))
    (cases_lt p.container (length cs))

-- an answer about a record that is there
pub answer_there : {X : Type 0} (f : Rec → X) (cs : Contents) (p : Place) → p.index < length (records_of cs p.container) → of_record f cs p ≡ Ok (f (record_at cs p))
answer_there f cs p h = ap (λ b. cond b (Ok (f (record_at cs p))) (Err (untold NoSuchPlace))) (lt-ltb p.index (length (records_of cs p.container)) h)
