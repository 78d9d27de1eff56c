-- What append and erase answer, and what the containers hold after them.
use Rattle.std.specs.Prelude.{ℕ, ◌+◌, Bool, cond, ◌&&◌, List, [], ◌∷◌, ◌++◌, length, is_ok, Ok, Err, Result, nat_le, nat_lt, slice_set}
use Rattle.records.specs.Records.{Rec, Contents, payload_bytes}
use Rattle.records.specs.Refusals.{untold}
use Rattle.records.specs.declared.refusal.Cause.TheVariants.{NoSuchPlace, Shape, ContainerFull}
use Rattle.records.specs.declared.refusal.Refusal.{Refusal}
use Rattle.devices.specs.Questions.{records_of}

-- a device stores levels to 6 and payloads of 1 to 1,280 bytes
abbrev pub storable : Rec → Bool
storable r = nat_le r.level 6 && (nat_le 1 (length r.payload) && nat_le (length r.payload) 1280)

-- a container takes one more record if it has at most 63 and 7,168 payload bytes with it
abbrev pub takes : List Rec → Rec → Bool
takes rs r = nat_lt (length rs) 63 && nat_le (payload_bytes rs + length r.payload) 7168

abbrev pub append_answer : Contents → ℕ → Rec → Result (Unit {0}) Refusal
append_answer cs c r =
    cond (nat_lt c (length cs))
    (cond (storable r) (cond (takes (records_of cs c) r) (Ok tt) (Err (untold ContainerFull))) (Err (untold Shape)))
    (Err (untold NoSuchPlace))

-- the record stands behind the others of its container; all else stays
abbrev pub appended : Contents → ℕ → Rec → Contents
appended cs c r = slice_set cs c (records_of cs c ++ r ∷ [])

abbrev pub append_after : Contents → ℕ → Rec → Contents
append_after cs c r = cond (is_ok (append_answer cs c r)) (appended cs c r) cs

abbrev pub erase_answer : Contents → ℕ → Result (Unit {0}) Refusal
erase_answer cs c = cond (nat_lt c (length cs)) (Ok tt) (Err (untold NoSuchPlace))

-- the container is free; past the last container there is nothing to change
abbrev pub erased : Contents → ℕ → Contents
erased cs c = slice_set cs c []
