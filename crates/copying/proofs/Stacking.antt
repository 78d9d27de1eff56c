-- How a copy grows, record by record and container by container.
use Rattle.std.proofs.Common.{◌≡◌, ℕ, zero, suc, ◌+◌, ◌<◌, cond, List, [], ◌∷◌, ◌++◌, length, get_or, take, set, is_ok, Ok, Err, sym, refl, ap, ◌∙◌, ⊎_elim, add-one, arith}
use Rattle.std.proofs.lemmas.List.{append_assoc, set-set, get_or-set_same, take_more, length-set}
use Rattle.std.proofs.lemmas.Bool.{le-ltb, cases_lt}
use Rattle.records.specs.Records.{Rec, Contents, no_record}
use Rattle.records.specs.Refusals.{untold}
use Rattle.records.specs.declared.refusal.Cause.TheVariants.{NoSuchPlace, Shape, ContainerFull}
use Rattle.devices.specs.Changes.{storable, takes, append_answer, appended, append_after}
use Rattle.devices.specs.Questions.{records_of}
use Rattle.copying.specs.Copies.{with_more, stacked}

-- one record more
pub more_one : (ds : Contents) (c i : ℕ) (rs : List Rec) → c < length ds → i < length rs → appended (with_more ds c (take i rs)) c (get_or rs i no_record) ≡ with_more ds c (take (i + 1) rs)
more_one ds c i rs here left =
    let x = records_of ds c ++ take i rs in
    set-set ds c x (records_of (set ds c x) c ++ get_or rs i no_record ∷ [])
    ∙ ap (λ y. set ds c (y ++ get_or rs i no_record ∷ [])) (get_or-set_same ds c x [] here)
    ∙ ap (set ds c) (append_assoc (records_of ds c) (take i rs) (get_or rs i no_record ∷ []) ∙ ap (λ y. records_of ds c ++ y) (sym (take_more rs i no_record left)))

-- what is appended to is there
append_here : (cs : Contents) (c : ℕ) (r : Rec) → Ok tt ≡ append_answer cs c r → c < length cs
append_here cs c r e =
    ⊎_elim
    (λ here. here)
    (λ past.
    let none : append_answer cs c r ≡ Err (untold NoSuchPlace) = ap (λ b. cond b (cond (storable r) (cond (takes (records_of cs c) r) (Ok tt) (Err (untold ContainerFull))) (Err (untold Shape))) (Err (untold NoSuchPlace))) (le-ltb c (length cs) past) in
    absurd (let z : ◌≡◌ {A = ℕ} 0 1 = cc in omega arith))
    (cases_lt c (length cs))

-- a record that was accepted is behind the others
pub copied_one : (ds xs ys : Contents) (c i : ℕ) (rs : List Rec) → xs ≡ with_more ds c (take i rs) → i < length rs → Ok tt ≡ append_answer xs c (get_or rs i no_record) → ys ≡ append_after xs c (get_or rs i no_record) → ys ≡ with_more ds c (take (i + 1) rs)
copied_one ds xs ys c i rs x left ok y =
    let r = get_or rs i no_record in
    let here : c < length ds = (let a = append_here xs c r ok in let b = ap length x ∙ length-set ds c (records_of ds c ++ take i rs) in omega arith) in
    y ∙ ap (λ a. cond (is_ok a) (appended xs c r) xs) (sym ok) ∙ ap (λ z. appended z c r) x ∙ more_one ds c i rs here left

pub stacked_none : (ds : Contents) → stacked ds [] ≡ ds
stacked_none [] = refl
stacked_none (d ∷ ds) = refl

-- one container more
pub stacked_one : (ds cs : Contents) (k : ℕ) → k < length cs → with_more (stacked ds (take k cs)) k (records_of cs k) ≡ stacked ds (take (k + 1) cs)
stacked_one ds cs k h = go ds cs k h ∙ ap (λ n. stacked ds (take n cs)) (sym (add-one k))
  where
    go : (ds cs : Contents) (k : ℕ) → k < length cs → with_more (stacked ds (take k cs)) k (records_of cs k) ≡ stacked ds (take (suc k) cs)
    go [] cs k h = refl
    go (d ∷ ds) [] k h = absurd (omega arith)
    go (d ∷ ds) (c ∷ cs) zero h = ap (λ xs. (d ++ c) ∷ xs) (sym (stacked_none ds))
    go (d ∷ ds) (c ∷ cs) (suc k) h = ap (λ xs. (d ++ c) ∷ xs) (go ds cs k (omega arith))
