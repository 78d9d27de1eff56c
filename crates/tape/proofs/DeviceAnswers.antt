-- Answers about a device's questions: a container, a record, a payload.
use Rattle.std.specs.Prelude.{◌≡◌, ℕ, ◌<◌, ◌≤◌, cond, List, [], ◌++◌, length, drop, is_ok, Ok, Err, Result}
use Rattle.std.proofs.Common.{sym, ap, ◌∙◌}
use Rattle.std.proofs.lemmas.Bool.{le-leb, lt-leb, cond_below}
use Rattle.std.proofs.lemmas.List.{get_or_past}
use Rattle.records.specs.Records.{Rec, Contents}
use Rattle.records.specs.Refusals.{untold}
use Rattle.records.specs.declared.refusal.Cause.TheVariants.{NoSuchPlace, TooShort}
use Rattle.records.specs.declared.refusal.Place.{Place}
use Rattle.records.specs.declared.refusal.Refusal.{Refusal}
use Rattle.devices.specs.Questions.{records_of, record_at, of_container, of_record, fitting, payload_answer, payload_filled}

-- a container that the kind does not see has no records
pub held_past : (cs : Contents) (c : ℕ) → length cs ≤ c → length (records_of cs c) ≡ 0
held_past cs c h = ap length (get_or_past cs c [] h)

-- the answer of a question about a container
pub of_container_lem : {X : Type 0} (f : List Rec → X) (cs : Contents) (c : ℕ) (v : X) → c < length cs → v ≡ f (records_of cs c) → Ok v ≡ of_container f cs c
of_container_lem f cs c v h e = ap Ok e ∙ cond_below c (length cs) (Ok (f (records_of cs c))) (Err (untold NoSuchPlace)) h

-- the answer of a question about a record
pub of_record_lem : {X : Type 0} (f : Rec → X) (cs : Contents) (p : Place) (v : X) → p.index < length (records_of cs p.container) → v ≡ f (record_at cs p) → Ok v ≡ of_record f cs p
of_record_lem f cs p v h e = ap Ok e ∙ cond_below p.index (length (records_of cs p.container)) (Ok (f (record_at cs p))) (Err (untold NoSuchPlace)) h

-- the answers about the payload of a record that is there
module _ (cs : Contents) (p : Place) (to : List ℕ) (here : p.index < length (records_of cs p.container)) (n : ℕ) (long : n ≡ length (record_at cs p).payload) where
  payload_of_lem : payload_answer cs p (length to) ≡ fitting n (length to)
  payload_of_lem =
      sym (cond_below p.index (length (records_of cs p.container)) (fitting (length (record_at cs p).payload) (length to)) (Err (untold NoSuchPlace)) here) ∙ ap (λ m. fitting m (length to)) (sym long)

  -- whatever the buffer becomes, by the answer
  buffer_by : (r : Result ℕ Refusal) → r ≡ payload_answer cs p (length to) → cond (is_ok r) ((record_at cs p).payload ++ drop (length (record_at cs p).payload) to) to ≡ payload_filled cs p to
  buffer_by r e = ap (λ x. cond (is_ok x) ((record_at cs p).payload ++ drop (length (record_at cs p).payload) to) to) e

  -- a payload for which the buffer has space
  pub payload_fits : n ≤ length to → Ok n ≡ payload_answer cs p (length to)
  payload_fits h = sym (payload_of_lem ∙ ap (λ b. cond b (Ok n) (Err (untold TooShort))) (le-leb n (length to) h))

  -- a payload that is longer than the buffer
  pub payload_long : (e : Refusal) → e ≡ untold TooShort → length to < n → Err e ≡ payload_answer cs p (length to)
  payload_long e is h = ap Err is ∙ sym (payload_of_lem ∙ ap (λ b. cond b (Ok n) (Err (untold TooShort))) (lt-leb n (length to) h))

  -- the buffer after the payload was copied
  pub buffer_filled : (part last : List ℕ) → n ≤ length to → part ≡ (record_at cs p).payload → last ≡ part ++ drop (length part) to → last ≡ payload_filled cs p to
  buffer_filled part last h is copied = copied ∙ ap (λ x. x ++ drop (length x) to) is ∙ buffer_by (Ok n) (payload_fits h)

  -- the buffer after a refusal
  pub buffer_kept : (e : Refusal) → e ≡ untold TooShort → length to < n → to ≡ payload_filled cs p to
  buffer_kept e is h = buffer_by (Err e) (payload_long e is h)
