-- An entry that was found at a place of the bytes, and what is read off it there.
use Rattle.std.specs.Prelude.{◌≡◌, ℕ, ◌+◌, ◌-◌, ◌<◌, ◌≤◌, cond, List, length, take, drop, Some, None, nat_le, slice_index_or, refl}
use Rattle.std.proofs.Common.{sym, ap, subst, ◌∙◌, arith}
use Rattle.std.proofs.lemmas.List.{drop-drop, take_rest, length-drop, length-take-le}
use Rattle.records.specs.Records.{Rec, no_record}
use Rattle.devices.specs.Questions.{records_of}
use Rattle.tape.specs.Log.{length_at, entry_of, log_of, records_in}
use Rattle.tape.specs.Meaning.{held_at}
use Rattle.tape.proofs.Entries.{past_three}
use Rattle.tape.proofs.Fronts.{key_of}
use Rattle.tape.proofs.Tapes.{Here}

-- at `at` in some bytes stands the record i of the records rs
pub record Found (w : ℕ) (bs : List ℕ) (rs : List Rec) (i at : ℕ) : Type 0 where
  pub here : i < length rs
  pub space : at + (w + 4 + length_at (drop at bs)) ≤ length bs
  pub is : (entry_of w (drop at bs)).stored ≡ slice_index_or rs i no_record

-- the records of a container that the kind sees, in bytes that a walk reads
pub records_seen : (w v n k c : ℕ) (bs was : List ℕ) → Here w v n k c bs → was ≡ bs → records_in c (log_of w k was) ≡ records_of (held_at w v n k bs) c
records_seen w v n k c bs was here e = (λ i. records_in c (log_of (sym here.same i) k (e i))) ∙ sym here.records

-- an entry that is found in the log is found in what the kind sees
pub found_seen : (w v n k c i at : ℕ) (bs was : List ℕ) → Here w v n k c bs → was ≡ bs → Found v was (records_in c (log_of v k was)) i at → Found w bs (records_of (held_at w v n k bs) c) i at
found_seen w v n k c i at bs was here e f =
    subst (λ x. x) (λ z. Found (here.same z) (e z) (((ap (λ y. records_in c (log_of v k y)) e) ∙ sym here.records) z) i at) f

module _ (w i at : ℕ) (bs was : List ℕ) (rs : List Rec) (found : Found w bs rs i at) (same : was ≡ bs) where
  -- its fingerprint stands behind its head
  pub found_fingerprint : take w (drop (at + 4) was) ≡ (slice_index_or rs i no_record).fingerprint
  found_fingerprint = ap (λ x. take w (drop (at + 4) x)) same ∙ ap (take w) (sym (drop-drop 4 at bs)) ∙ ap (λ r. r.fingerprint) found.is

  -- its head tells its payload's length
  pub found_length : length_at (drop at was) ≡ length (slice_index_or rs i no_record).payload
  found_length =
      let l : length (drop w (drop 4 (drop at bs))) ≡ length bs - at - 4 - w = length-drop w (drop 4 (drop at bs)) ∙ ap (λ n. n - w) (length-drop 4 (drop at bs) ∙ ap (λ n. n - 4) (length-drop at bs)) in
      ap (λ x. length_at (drop at x)) same ∙ sym (length-take-le (length_at (drop at bs)) (drop w (drop 4 (drop at bs))) (let r = found.space in omega arith)) ∙ ap (λ r. length r.payload) found.is

  -- its payload stands behind its fingerprint
  pub found_payload : (n from : ℕ) → n ≡ length_at (drop at bs) → from ≡ at + 4 + w → take n (drop from was) ≡ (slice_index_or rs i no_record).payload
  found_payload n from nn ff = (λ i. take (nn i) (drop (ff i) (same i))) ∙ ap (take (length_at (drop at bs))) (sym (past_three at 4 w (at + 4 + w) bs refl)) ∙ ap (λ r. r.payload) found.is

-- a key that is read off some bytes from a place on
pub key_read : {K : Type 0} (key : List ℕ → K) (w at : ℕ) (bs : List ℕ) (k : K) → at + w ≤ length bs → let from = take (length bs - at) (drop at bs) in
    Some k ≡ cond (nat_le w (length from)) (Some (key (take w from))) None → k ≡ key (take w (drop at bs))
key_read key w at bs k space told =
    let whole = take_rest bs at in
    let l = ap length whole ∙ length-drop at bs in
    key_of key w (take (length bs - at) (drop at bs)) k (omega arith) told ∙ ap (λ x. key (take w x)) whole
