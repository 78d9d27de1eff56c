-- When a store admits a device, and with which refusal it does not.
use Rattle.std.specs.Prelude.{◌≡◌, ℕ, suc, ◌<◌, ◌≤◌, Bool, cond, ◌&&◌, List, [], ◌∷◌, length, Some, None, Ok, Err, Option, Result, nat_le}
use Rattle.std.specs.Option.{option_or}
use Rattle.std.specs.List.{AllByRecursion, list_any}
use Rattle.records.specs.Records.{Rec, Contents}
use Rattle.records.specs.Refusals.{untold, told_at}
use Rattle.records.specs.Shapes.{Shape}
use Rattle.records.specs.declared.refusal.Cause.{Cause}
use Rattle.records.specs.declared.refusal.Cause.TheVariants.{Size, NoneFree}
use Rattle.records.specs.declared.refusal.Place.{Place}
use Rattle.records.specs.declared.refusal.Refusal.{Refusal}
use Rattle.devices.specs.Questions.{records_of, unused, of_record}
use Rattle.trees.specs.Holding.{Single}
use Rattle.admission.specs.Causes.{fault_of, repeat_of}

-- the refusal that tells of a place, if there is a cause
abbrev pub refused_at : Place → Option Cause → Option Refusal
refused_at p None = None
refused_at p (Some cause) = Some (told_at cause p)

-- the first refusal that `judge` gives among the records rs, the first of which stands at index i of container c
abbrev pub refused_among : (Place → Rec → Option Cause) → ℕ → ℕ → List Rec → Option Refusal
refused_among judge c i [] = None
refused_among judge c i (r ∷ rs) =
    let p : Place = record { container = c; index = i } in
    option_or (refused_at p (judge p r)) (refused_among judge c (suc i) rs)

-- the same over containers, the first of which has the number c
abbrev pub refused_from : (Place → Rec → Option Cause) → ℕ → Contents → Option Refusal
refused_from judge c [] = None
refused_from judge c (rs ∷ cs) = option_or (refused_among judge c 0 rs) (refused_from judge (suc c) cs)

-- a test answers at each place what `judge` says of the record there, where `post` tells what it may answer
abbrev pub Judges : (Place → Rec → Option Cause) → Contents → (Place → Result (Option Cause) Refusal → Type 0) → Type 0
Judges judge cs post = (p : Place) (r : Result (Option Cause) Refusal) → post p r → r ≡ of_record (judge p) cs p

-- whether some container has no records
abbrev pub some_free : Contents → Bool
some_free cs = list_any unused cs

-- the refusal of too few or too many containers
abbrev pub wrong_size : Contents → Option Refusal
wrong_size cs = cond (nat_le 2 (length cs) && nat_le (length cs) 32) None (Some (untold Size))

-- the refusal where no container is free
abbrev pub none_free : Contents → Option Refusal
none_free cs = cond (some_free cs) None (Some (untold NoneFree))

-- an answer by its refusal, if there is one
abbrev pub answer_by : Option Refusal → Result (Unit {0}) Refusal
answer_by None = Ok tt
answer_by (Some e) = Err e

-- the refusal of the first record that is wrong by itself
abbrev pub first_fault : ℕ → (ℕ → List ℕ → List ℕ) → Contents → Option Refusal
first_fault w name cs = refused_from (λ p r. fault_of w name r) 0 cs

-- the refusal of the first record whose fingerprint an earlier one has
abbrev pub first_repeat : Contents → Option Refusal
first_repeat cs = refused_from (repeat_of cs) 0 cs

-- the answer to a device that holds cs: the first of these refusals, if there is one
abbrev pub admission_answer : ℕ → (ℕ → List ℕ → List ℕ) → Contents → Result (Unit {0}) Refusal
admission_answer w name cs = answer_by (option_or (wrong_size cs) (option_or (first_fault w name cs) (option_or (first_repeat cs) (none_free cs))))

-- what an admitted device holds: 2 to 32 containers of shaped and rightly named records, no two with equal fingerprints, and a free container
pub record Admitted (w : ℕ) (name : ℕ → List ℕ → List ℕ) (cs : Contents) : Type 0 where
  pub some : 2 ≤ length cs
  pub few : length cs ≤ 32
  pub shaped : AllByRecursion (AllByRecursion (λ r. Shape w r.level (length r.payload))) cs
  pub named : AllByRecursion (AllByRecursion (λ r. r.fingerprint ≡ name r.level r.payload)) cs
  pub single : Single cs
  pub free : (c : ℕ) × (c < length cs) × (records_of cs c ≡ [])
