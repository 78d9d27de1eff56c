-- What an entry more or a container less makes of the containers.
use Rattle.std.specs.Prelude.{◌≡◌, ℕ, zero, suc, ◌+◌, ◌<◌, Bool, true, false, cond, not, List, [], ◌∷◌, ◌++◌, map, length, get_or, replicate, ◌==◌, ◌≢◌, slice_set, refl}
use Rattle.std.proofs.Common.{sym, ap, ◌∙◌, ⊎_elim, arith}
use Rattle.std.specs.List.{range_with_len}
use Rattle.std.proofs.lemmas.List.{ext_get_or, get_or-set_same, get_or-set_other, length-set, append-nil}
use Rattle.std.proofs.lemmas.Bool.{eq-eqb, ne_eqb, cases_eq}
use Rattle.records.specs.Records.{Rec}
use Rattle.tape.specs.Log.{Entry, records_in, without, gathered}
use Rattle.tape.specs.Gathering.{length-gathered, get_or-gathered, records_one, records_skip}

-- two logs that differ in one container
pub gathered-set : (n c : ℕ) (es fs : List Entry) (rs : List Rec) → records_in c fs ≡ rs → ((j : ℕ) → (j ≢ c) → records_in j fs ≡ records_in j es) → gathered n fs ≡ slice_set (gathered n es) c rs
gathered-set n c es fs rs here others =
    let l = length-gathered n fs in
    let m = length-gathered n es in
    let k = length-set (gathered n es) c rs in
    ext_get_or [] (gathered n fs) (slice_set (gathered n es) c rs) (omega arith) (λ j h.
    let j' : j < n = omega arith in
    get_or-gathered n j fs j' ∙ ⊎_elim
    (λ e. (let c' : c < length (gathered n es) = omega arith in ap (λ x. records_in x fs) e ∙ here ∙ sym (get_or-set_same (gathered n es) c rs [] c') ∙ ap (λ x. get_or (slice_set (gathered n es) c rs) x []) (sym e)))
    (λ e. others j e ∙ sym (get_or-gathered n j es j') ∙ sym (get_or-set_other (gathered n es) c j rs [] e))
    (cases_eq j c))

records_cons : (b : Bool) (r : Rec) (rs ss : List Rec) → cond b (r ∷ (rs ++ ss)) (rs ++ ss) ≡ cond b (r ∷ rs) rs ++ ss
records_cons true r rs ss = refl
records_cons false r rs ss = refl

pub records_append : (c : ℕ) (es fs : List Entry) → records_in c (es ++ fs) ≡ records_in c es ++ records_in c fs
records_append c [] fs = refl
records_append c (e ∷ es) fs =
    ap (λ x. cond (e.container == c) (e.stored ∷ x) x) (records_append c es fs) ∙ records_cons (e.container == c) e.stored (records_in c es) (records_in c fs)

-- an entry more, at the front and at the end
pub gathered-front : (n : ℕ) (e : Entry) (es : List Entry) → gathered n (e ∷ es) ≡ slice_set (gathered n es) e.container (e.stored ∷ records_in e.container es)
gathered-front n e es = gathered-set n e.container es (e ∷ es) _ (records_one e.container e es refl) (λ j p. records_skip j e es (λ q. p (sym q)))

pub gathered_push : (n : ℕ) (e : Entry) (es : List Entry) → gathered n (es ++ e ∷ []) ≡ slice_set (gathered n es) e.container (records_in e.container es ++ e.stored ∷ [])
gathered_push n e es =
    gathered-set n e.container es (es ++ e ∷ []) _
    (records_append e.container es (e ∷ []) ∙ ap (λ x. records_in e.container es ++ x) (records_one e.container e [] refl))
    (λ j p. records_append j es (e ∷ []) ∙ ap (λ x. records_in j es ++ x) (records_skip j e [] (λ q. p (sym q))) ∙ append-nil (records_in j es))

-- a container less
without_here : (c : ℕ) (e : Entry) (es : List Entry) → e.container ≡ c → without c (e ∷ es) ≡ without c es
without_here c e es p = ap (λ b. cond (not b) (e ∷ without c es) (without c es)) (eq-eqb e.container c p)

without_other : (c : ℕ) (e : Entry) (es : List Entry) → (e.container ≢ c) → without c (e ∷ es) ≡ e ∷ without c es
without_other c e es p = ap (λ b. cond (not b) (e ∷ without c es) (without c es)) (ne_eqb e.container c p)

records_gone : (c : ℕ) (es : List Entry) → records_in c (without c es) ≡ []
records_gone c [] = refl
records_gone c (e ∷ es) =
    ⊎_elim
    (λ p. ap (records_in c) (without_here c e es p) ∙ records_gone c es)
    (λ p. ap (records_in c) (without_other c e es p) ∙ records_skip c e (without c es) p ∙ records_gone c es)
    (cases_eq e.container c)

records_stay : (c j : ℕ) (es : List Entry) → (j ≢ c) → records_in j (without c es) ≡ records_in j es
records_stay c j [] ne = refl
records_stay c j (e ∷ es) ne =
    ⊎_elim
    (λ p. ap (records_in j) (without_here c e es p) ∙ records_stay c j es ne ∙ sym (records_skip j e es (λ q. ne (sym q ∙ p))))
    (λ p. ap (records_in j) (without_other c e es p) ∙ ap (λ x. cond (e.container == j) (e.stored ∷ x) x) (records_stay c j es ne))
    (cases_eq e.container c)

pub gathered-without : (n c : ℕ) (es : List Entry) → gathered n (without c es) ≡ slice_set (gathered n es) c []
gathered-without n c es = gathered-set n c es (without c es) [] (records_gone c es) (λ j ne. records_stay c j es ne)

-- an empty log
pub gathered_none : (n : ℕ) → gathered n [] ≡ replicate n []
gathered_none n = none 0 n where
  none : (a n : ℕ) → map (λ c. records_in c []) (range_with_len a n) ≡ replicate n []
  none a zero = refl
  none a (suc n) = ap (λ x. [] ∷ x) (none (a + 1) n)
