-- Admitting: a shut store examines what its device holds, and opens.
use Rattle.std.specs.Prelude.{ℕ, ◌-◌, true, cond, List, length, is_ok, None, Err, Result}
use Rattle.records.specs.Refusals.{untold}
use Rattle.records.specs.declared.refusal.Cause.TheVariants.{AlreadyAdmitted}
use Rattle.records.specs.declared.refusal.Refusal.{Refusal}
use Rattle.admission.specs.Admission.{admission_answer}
use Rattle.store.specs.States.{State}

-- fingerprints have w bytes, and `name` gives the right one of a level and a payload
module _ (w : ℕ) (name : ℕ → List ℕ → List ℕ) (s : State) where
  abbrev pub admit_answer : Result (Unit {0}) Refusal
  admit_answer = cond s.admitted (Err (untold AlreadyAdmitted)) (admission_answer w name s.contents)

  -- no container is being filled, and the last one counts as opened last
  abbrev pub after_admit : State
  after_admit =
      cond (is_ok admit_answer)
      (record { contents = s.contents; number = s.number; admitted = true; filling = record { current = None; last = length s.contents - 1 }; sheets = s.sheets; marking = s.marking })
      s
