-- Counting a container's records and their payload bytes, entry by entry.
use Rattle.std.proofs.Common.{◌≡◌, ℕ, ◌+◌, ◌≤◌, List, [], ◌∷◌, length, ap, ◌∙◌, arith}
use Rattle.records.specs.Records.{Rec, payload_bytes}
use Rattle.tape.specs.Log.{Entry, records_in}
use Rattle.tape.specs.Gathering.{records_one, records_skip}

-- `records` of all records of the container c are counted, with `payload` bytes, and those among the entries `left` are not yet
pub record Counted (c records payload : ℕ) (left : List Entry) (all : List Rec) : Type 0 where
  pub count : records + length (records_in c left) ≡ length all
  pub sum : payload + payload_bytes (records_in c left) ≡ payload_bytes all

pub counted_none : (c : ℕ) (es : List Entry) (all : List Rec) → records_in c es ≡ all → Counted c 0 0 es all
counted_none c es all is = let n = ap length is in let m = ap payload_bytes is in record { count = omega arith; sum = omega arith }

module _ (c records payload : ℕ) (left : List Entry) (all : List Rec) (h : Counted c records payload left all) where
  module _ (e : Entry) (rest : List Entry) (next : left ≡ e ∷ rest) where
    here_is : e.container ≡ c → records_in c left ≡ e.stored ∷ records_in c rest
    here_is p = ap (records_in c) next ∙ records_one c e rest p

    -- there is space for one more, of those that there are
    pub counted_space : e.container ≡ c → (records + 1 ≤ length all) × (payload + length e.stored.payload ≤ payload_bytes all)
    counted_space p =
        let n = ap length (here_is p) in
        let m = ap payload_bytes (here_is p) in
        let a = h.count in
        let b = h.sum in
        (omega arith, omega arith)

    pub counted_here : (records' payload' : ℕ) → e.container ≡ c → records' ≡ records + 1 → payload' ≡ payload + length e.stored.payload → Counted c records' payload' rest all
    counted_here records' payload' p x y =
        let n = ap length (here_is p) in
        let m = ap payload_bytes (here_is p) in
        let a = h.count in
        let b = h.sum in
        record { count = omega arith; sum = omega arith }

    pub counted_other : (records' payload' : ℕ) → (e.container ≡ c → ⊥) → records' ≡ records → payload' ≡ payload → Counted c records' payload' rest all
    counted_other records' payload' p x y =
        let r = ap (records_in c) next ∙ records_skip c e rest p in
        let n = ap length r in
        let m = ap payload_bytes r in
        let a = h.count in
        let b = h.sum in
        record { count = omega arith; sum = omega arith }

  pub counted_all : left ≡ [] → (records ≡ length all) × (payload ≡ payload_bytes all)
  counted_all end =
      let n = ap (λ x. length (records_in c x)) end in
      let m = ap (λ x. payload_bytes (records_in c x)) end in
      let a = h.count in
      let b = h.sum in
      (omega arith, omega arith)
