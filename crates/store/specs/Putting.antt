-- Putting a record: each is stored a single time.
use Rattle.std.specs.Prelude.{Bool, true, false, cond, not, ◌&&◌, List, [], ◌∷◌, Ok, Err, Option, Result, is_none}
use Rattle.records.specs.Records.{Rec}
use Rattle.records.specs.Refusals.{untold}
use Rattle.records.specs.declared.refusal.Cause.TheVariants.{Shape, Collision, StoreFull}
use Rattle.records.specs.declared.refusal.Refusal.{Refusal}
use Rattle.placing.specs.Settling.{choice_for, settled_in, turned_to}
use Rattle.placing.specs.declared.choosing.Choice.{Choice}
use Rattle.presence.specs.Presences.{presence_of}
use Rattle.presence.specs.declared.present.Presence.{Presence}
use Rattle.presence.specs.declared.present.Presence.TheVariants.{Absent, Same, Other}
use Rattle.store.specs.States.{State, holding}
use Rattle.store.specs.Refusing.{Test, refusing, unless, shut, busy}
use Rattle.store.specs.declared.tokens.Stored.{Stored}

abbrev pub is_absent : Presence → Bool
is_absent Absent = true
is_absent Same = false
is_absent Other = false

abbrev pub is_other : Presence → Bool
is_other Absent = false
is_other Same = false
is_other Other = true

module _ (s : State) (r : Rec) where
  -- where a record that is not stored yet goes, if anywhere: a put leaves one container free
  abbrev pub put_choice : Option Choice
  put_choice = choice_for s.contents s.filling 1 r

  -- the store with the record where it goes
  abbrev pub settled_by : State
  settled_by = holding s (settled_in s.contents put_choice r) (turned_to s.filling put_choice)

  -- what is answered and left of a record that is not stored yet
  abbrev pub new_answer : {F : Type 0} → F → Result (Stored F) Refusal
  new_answer fingerprint = cond (is_none put_choice) (Err (untold StoreFull)) (Ok (record { fingerprint = fingerprint; is_new = true }))

  abbrev pub after_new : State
  after_new = cond (is_none put_choice) s settled_by

-- the record r is put; `shaped` tells whether it has the shape that the call asks for
module _ (s : State) (shaped : Bool) (r : Rec) where
  abbrev pub put_tests : List Test
  put_tests =
      shut s ∷ busy s ∷ (not shaped, Shape) ∷ (is_other (presence_of s.contents r), Collision)
      ∷ (is_absent (presence_of s.contents r) && is_none (put_choice s r), StoreFull) ∷ []

  -- the fingerprint, and whether it is new
  abbrev pub put_answer : {F : Type 0} → F → Result (Stored F) Refusal
  put_answer fingerprint = refusing untold put_tests (Ok (record { fingerprint = fingerprint; is_new = is_absent (presence_of s.contents r) }))

  abbrev pub after_put : State
  after_put =
      unless put_tests s (cond (is_absent (presence_of s.contents r)) (settled_by s r) s)
