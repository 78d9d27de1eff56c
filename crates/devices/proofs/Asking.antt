-- What a device answers about records that it has.
use Rattle.std.proofs.Common.{◌≡◌, ℕ, ◌<◌, cond, List, length, Ok, Err, Result, ap, ◌∙◌}
use Rattle.std.proofs.lemmas.Bool.{lt-ltb, le-leb}
use Rattle.records.specs.Records.{Contents}
use Rattle.records.specs.Refusals.{untold}
use Rattle.records.specs.declared.refusal.Cause.TheVariants.{NoSuchPlace, TooShort}
use Rattle.records.specs.declared.refusal.Place.{Place}
use Rattle.devices.proofs.Holding.{small_payload, answer_there, typed_at}
use Rattle.devices.specs.Questions.{Held, records_of, record_at, of_container, of_record, payload_answer, fitting}
use Rattle.keys.specs.Octets.{Bytes}

-- an answer is one
pub same_ok : {X E : Type 0} (a b : X) (r : Result X E) → Ok a ≡ r → r ≡ Ok b → a ≡ b
same_ok a b r p q = cc

-- how many records a container that is there has
pub records_told : (cs : Contents) (c : ℕ) → c < length cs → of_container length cs c ≡ Ok (length (records_of cs c))
records_told cs c h = ap (λ b. cond b (Ok (length (records_of cs c))) (Err (untold NoSuchPlace))) (lt-ltb c (length cs) h)

-- a device's own payload fits the buffer
pub payload_told : (w : ℕ) (cs : Contents) (p : Place) → Held w cs → p.index < length (records_of cs p.container) → payload_answer cs p 7168 ≡ Ok (length (record_at cs p).payload)
payload_told w cs p h inside =
    let n = length (record_at cs p).payload in
    (λ i. cond (lt-ltb p.index (length (records_of cs p.container)) inside i) (fitting n 7168) (Err (untold NoSuchPlace)))
    ∙ ap (λ b. cond b (Ok n) (Err (untold TooShort))) (le-leb n 7168 (small_payload w cs p h inside))

-- a device tells a fingerprint by the key that has its bytes
pub name_told : {K : Type 0} (bytes : K → List ℕ) (key : List ℕ → K) (w : ℕ) → ((bs : List ℕ) → length bs ≡ w → Bytes bs → bytes (key bs) ≡ bs) → (cs : Contents) (p : Place) → Held w cs → p.index < length (records_of cs p.container) → (k : K) → Ok k ≡ of_record (λ x. key x.fingerprint) cs p → bytes k ≡ (record_at cs p).fingerprint
name_told bytes key w any cs p held inside k e =
    let typed = typed_at w cs p held inside in
    ap bytes (same_ok _ _ _ e (answer_there (λ x. key x.fingerprint) cs p inside)) ∙ any (record_at cs p).fingerprint typed.wide typed.fingerprint
