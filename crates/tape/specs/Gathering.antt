-- What the containers of a log hold.
use Rattle.std.specs.Prelude.{◌≡◌, ℕ, ◌<◌, cond, List, [], ◌∷◌, length, ◌≢◌, slice_index_or}
use Rattle.std.proofs.Common.{sym, ap, subst, ⊎_elim, arith}
use Rattle.std.specs.List.{AllByRecursion}
use Rattle.std.proofs.lemmas.List.FromFn.{length-map-range_with_len, get_or-map-range_with_len}
use Rattle.std.proofs.ByRecursion.{All-from_get_or}
use Rattle.std.proofs.lemmas.Bool.{eq-eqb, ne_eqb, cases_eq}
use Rattle.records.specs.Limits.{Typed}
use Rattle.records.specs.Records.{Rec}
use Rattle.tape.specs.Log.{Entry, Sound, records_in, gathered}

pub length-gathered : (n : ℕ) (es : List Entry) → length (gathered n es) ≡ n
length-gathered n es = length-map-range_with_len (λ c. records_in c es) 0 n

pub get_or-gathered : (n c : ℕ) (es : List Entry) → c < n → slice_index_or (gathered n es) c [] ≡ records_in c es
get_or-gathered n c es h = get_or-map-range_with_len (λ c. records_in c es) 0 n c c [] h (omega arith)

-- what holds of the records of every container
pub all-gathered : (P : List Rec → Type 0) (n : ℕ) (es : List Entry) → ((c : ℕ) → c < n → P (records_in c es)) → AllByRecursion P (gathered n es)
all-gathered P n es h =
    All-from_get_or P (gathered n es) [] (λ c k. let k' : c < n = (let l = length-gathered n es in omega arith) in subst P (sym (get_or-gathered n c es k')) (h c k'))

pub records_one : (c : ℕ) (e : Entry) (es : List Entry) → e.container ≡ c → records_in c (e ∷ es) ≡ e.stored ∷ records_in c es
records_one c e es p = ap (λ b. cond b (e.stored ∷ records_in c es) (records_in c es)) (eq-eqb e.container c p)

pub records_skip : (c : ℕ) (e : Entry) (es : List Entry) → (e.container ≢ c) → records_in c (e ∷ es) ≡ records_in c es
records_skip c e es p = ap (λ b. cond b (e.stored ∷ records_in c es) (records_in c es)) (ne_eqb e.container c p)

-- the records of a sound log are typed
pub typed_records : (w c : ℕ) (es : List Entry) → AllByRecursion (Sound w) es → AllByRecursion (Typed w) (records_in c es)
typed_records w c [] h = tt
typed_records w c (e ∷ es) h =
    let t = typed_records w c es h.1 in
    ⊎_elim
    (λ p. subst (AllByRecursion (Typed w)) (sym (records_one c e es p)) (h.0.typed, t))
    (λ p. subst (AllByRecursion (Typed w)) (sym (records_skip c e es p)) t)
    (cases_eq e.container c)
