-- A strip that stands at a place is given as the device tells it.
use Rattle.std.proofs.Common.{◌≡◌, ℕ, Bool, true, false, cond, not, ltb, leb, List, ◌++◌, length, drop, is_ok, Some, Ok, Err, Option, Result, sym, refl, ap, ◌∙◌, ap₂, arith}
use Rattle.std.proofs.lemmas.Option.{get_or_from_slice_get, slice_get_within}
use Rattle.std.proofs.lemmas.Bool.{lt-ltb}
use Rattle.std.proofs.lemmas.Bool.Decides.{nat_tests}
use Rattle.records.specs.Records.{Contents, no_record}
use Rattle.records.specs.Refusals.{untold}
use Rattle.records.specs.declared.refusal.Cause.TheVariants.{NoSuchPlace, TooShort}
use Rattle.records.specs.declared.refusal.Place.{Place}
use Rattle.records.specs.declared.refusal.Refusal.{Refusal}
use Rattle.devices.specs.Questions.{records_of, record_at, fitting, payload_answer, payload_filled}
use Rattle.trees.specs.Holding.{standing}
use Rattle.trees.specs.Trees.{payload_of}
use Rattle.store.specs.States.{State}
use Rattle.store.specs.Readings.{Stands, give_answer, give_buffer, moved_on, handed_back}
use Rattle.store.specs.declared.tokens.ReadToken.{ReadToken}

-- a space is too short for what does not fit it
longer : (n space : ℕ) → not (leb n space) ≡ ltb space n
longer n space = grind (arith, nat_tests)

module _ (cs : Contents) (x : Place) (h : Stands cs x) where
  strip_is : (record_at cs x).payload ≡ payload_of (standing cs x)
  strip_is = ap (λ r. r.payload) (get_or_from_slice_get (records_of cs x.container) x.index h.0 no_record h.1) ∙ sym (ap payload_of h.1)

  pub stands_answer : (space : ℕ) → payload_answer cs x space ≡ fitting (length (payload_of (standing cs x))) space
  stands_answer space =
      ap (λ b. cond b (fitting (length (record_at cs x).payload) space) (Err (untold NoSuchPlace))) (lt-ltb _ _ (slice_get_within (records_of cs x.container) x.index h.0 h.1))
      ∙ ap (λ p. fitting (length p) space) strip_is

  pub stands-filled : (buffer : List ℕ) → payload_filled cs x buffer ≡ give_buffer buffer (payload_of (standing cs x))
  stands-filled buffer =
      ap₂ (λ a p. cond (is_ok {T = ℕ} a) (p ++ drop (length p) buffer) buffer) (stands_answer (length buffer)) strip_is
      ∙ go (leb n (length buffer))
      ∙ ap (λ b. cond b buffer (p ++ drop n buffer)) (longer n (length buffer))
    where
      p : List ℕ
      p = payload_of (standing cs x)

      n : ℕ
      n = length p

      go : (b : Bool) → cond (is_ok {T = ℕ} (cond b (Ok n) (Err (untold TooShort)))) (p ++ drop n buffer) buffer ≡ cond (not b) buffer (p ++ drop n buffer)
      go true = refl
      go false = refl

module _ (w : ℕ) (s : State) (token : ReadToken) (space : ℕ) (strip : List ℕ) where
  given : Bool → Result (ReadToken × Option ℕ) (Refusal × ReadToken)
  given b = cond b (Err (handed_back token TooShort)) (Ok (moved_on w s token, Some (length strip)))

  pub given_strip : (len : ℕ) (moved : ReadToken) → Ok len ≡ fitting (length strip) space → moved ≡ moved_on w s token → Ok (moved, Some len) ≡ give_answer w s token space strip
  unfolding given
  given_strip len moved e m = go (leb (length strip) space) e ∙ ap given (longer (length strip) space)
    where
      go : (b : Bool) → Ok len ≡ cond b (Ok (length strip)) (Err (untold TooShort)) → Ok (moved, Some len) ≡ given (not b)
      go true h = cc
      go false h = cc

  pub short_buffer : (r : Refusal) → Err r ≡ fitting (length strip) space → Err (r, token) ≡ give_answer w s token space strip
  unfolding given
  short_buffer r e = go (leb (length strip) space) e ∙ ap given (longer (length strip) space)
    where
      go : (b : Bool) → Err r ≡ cond b (Ok (length strip)) (Err (untold TooShort)) → Err (r, token) ≡ given (not b)
      go true h = cc
      go false h = cc
