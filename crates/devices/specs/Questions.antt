-- What a device's questions answer, by what its containers hold.
use Rattle.std.specs.Prelude.{ℕ, Bool, cond, ◌&&◌, List, [], ◌++◌, length, drop, is_ok, Ok, Err, Result, ◌==◌, nat_le, nat_lt, slice_index_or}
use Rattle.std.specs.List.{AllByRecursion}
use Rattle.records.specs.Limits.{Typed, Fits}
use Rattle.records.specs.Records.{Rec, Contents, no_record}
use Rattle.records.specs.Refusals.{untold}
use Rattle.records.specs.declared.refusal.Cause.TheVariants.{NoSuchPlace, TooShort}
use Rattle.records.specs.declared.refusal.Place.{Place}
use Rattle.records.specs.declared.refusal.Refusal.{Refusal}

-- what is true of every device at all times, where fingerprints have w bytes: no container is over its limits
pub record Held (w : ℕ) (cs : Contents) : Type 0 where
  pub fits : AllByRecursion Fits cs
  pub typed : AllByRecursion (AllByRecursion (Typed w)) cs

-- the records of a container; none where there is no such container
abbrev pub records_of : Contents → ℕ → List Rec
records_of cs c = slice_index_or cs c []

-- no records
abbrev pub unused : List Rec → Bool
unused rs = length rs == 0

-- a container is free if it is there and has no records
abbrev pub is_free : Contents → ℕ → Bool
is_free cs c = nat_lt c (length cs) && unused (records_of cs c)

-- the record at a place
abbrev pub record_at : Contents → Place → Rec
record_at cs p = slice_index_or (records_of cs p.container) p.index no_record

-- a question about a container
abbrev pub of_container : {X : Type 0} → (List Rec → X) → Contents → ℕ → Result X Refusal
of_container f cs c = cond (nat_lt c (length cs)) (Ok (f (records_of cs c))) (Err (untold NoSuchPlace))

-- a question about a record
abbrev pub of_record : {X : Type 0} → (Rec → X) → Contents → Place → Result X Refusal
of_record f cs p = cond (nat_lt p.index (length (records_of cs p.container))) (Ok (f (record_at cs p))) (Err (untold NoSuchPlace))

-- the payload's length, where a buffer of `space` bytes can take the payload
abbrev pub fitting : ℕ → ℕ → Result ℕ Refusal
fitting n space = cond (nat_le n space) (Ok n) (Err (untold TooShort))

abbrev pub payload_answer : Contents → Place → ℕ → Result ℕ Refusal
payload_answer cs p space = cond (nat_lt p.index (length (records_of cs p.container))) (fitting (length (record_at cs p).payload) space) (Err (untold NoSuchPlace))

-- the payload fills the front of the buffer, unless it is refused; the rest stays
abbrev pub payload_filled : Contents → Place → List ℕ → List ℕ
payload_filled cs p buffer = cond (is_ok (payload_answer cs p (length buffer))) ((record_at cs p).payload ++ drop (length (record_at cs p).payload) buffer) buffer
