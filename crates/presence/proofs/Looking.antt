-- What an answer about a place says of the record that stands there.
use Rattle.std.proofs.Common.{◌≡◌, ℕ, cond, ◌&&◌, eqb, List, Some, None, Option, MatchOption, sym, refl, ap, ◌∙◌, ap₂}
use Rattle.std.specs.Option.{unwrap_or}
use Rattle.keys.specs.Octets.{same_bytes}
use Rattle.records.specs.Records.{Rec, Contents, first_place}
use Rattle.records.specs.declared.refusal.Place.{Place}
use Rattle.trees.specs.Holding.{if_some, record_of, standing}
use Rattle.walks.proofs.Down.{record_there}
use Rattle.presence.specs.Presences.{present_as}
use Rattle.presence.specs.declared.present.Presence.{Presence}
use Rattle.presence.specs.declared.present.Presence.TheVariants.{Absent, Same, Other}

module _ (level : ℕ) (payload : List ℕ) where
  -- what the record that there may be says
  abbrev pub said : Option Rec → Option Presence
  said o = if_some None (λ x. Some (cond (eqb x.level level && same_bytes x.payload payload) Same Other)) o

  -- the level and the payload that were told are those of the record there
  pub said_told : (o : Option Rec) (x y : Rec) (stored : ℕ) (held : List ℕ) (answer : Presence) → o ≡ Some x → stored ≡ x.level → o ≡ Some y → held ≡ y.payload → answer ≡ cond (eqb stored level && same_bytes held payload) Same Other → Some answer ≡ said o
  said_told o x y stored held answer ex l ey h e =
      ap Some (e ∙ ap₂ (λ n m. cond (eqb n level && same_bytes m payload) Same Other) l (h ∙ ap (λ z. z.payload) (some_same (sym ey ∙ ex))))
      ∙ sym (ap said ex)
    where
      some_same : {a c : Rec} → Some a ≡ Some c → a ≡ c
      some_same e = cc

  -- the first place of a fingerprint says what its record is
  pub presence_told : (cs : Contents) (p : List ℕ) (o : Option Place) → o ≡ first_place cs p → (a : Option Presence) (Gives : Place → Type 0) → MatchOption o (a ≡ None) Gives → ((x : Place) → Gives x → a ≡ said (standing cs x)) → unwrap_or a Absent ≡ present_as level payload (record_of cs p)
  presence_told cs p None e a Gives h f = ap (λ b. unwrap_or b Absent) h ∙ ap (present_as level payload) (record_there cs p None e)
  presence_told cs p (Some x) e a Gives h f =
      ap (λ b. unwrap_or b Absent) (f x h) ∙ here (standing cs x) ∙ ap (present_as level payload) (record_there cs p (Some x) e)
    where
      here : (o : Option Rec) → unwrap_or (said o) Absent ≡ present_as level payload o
      here None = refl
      here (Some r) = refl
