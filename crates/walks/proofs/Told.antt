-- What a device tells of the record at a place, and of the children that the record lists.
use Rattle.std.proofs.Common.{◌≡◌, ℕ, zero, suc, ◌+◌, ◌*◌, ◌/◌, ◌<◌, ◌≤◌, true, false, cond, ltb, leb, List, [], ◌∷◌, ◌++◌, length, take, drop, is_ok, Some, None, Ok, Err, Option, Result, sym, refl, ap, ◌∙◌, subst, ⊎_elim, add-mul, le-div_iff_mul-le, arith, length-drop}
use native.Mathlib.Nat.{zero-div}
use Rattle.std.specs.List.{slice_get, AllByRecursion}
use Rattle.std.specs.Result.{result_ok, result_unwrap_or}
use Rattle.std.proofs.ByRecursion.{All-get_or}
use Rattle.std.proofs.lemmas.List.{take_at, get_or_past}
use Rattle.std.proofs.lemmas.Option.{slice_get-get_or, slice_get_past, slice_get_within}
use Rattle.std.proofs.lemmas.Bool.{ltb-true, ltb-false, leb-true, leb-false, le-leb, cases_lt}
use Rattle.records.specs.Limits.{Typed, Fits}
use Rattle.records.specs.Records.{Rec, Contents, payload_bytes, no_record}
use Rattle.records.specs.Refusals.{untold}
use Rattle.records.specs.declared.refusal.Cause.TheVariants.{NoSuchPlace, TooShort}
use Rattle.records.specs.declared.refusal.Place.{Place}
use Rattle.records.specs.declared.refusal.Refusal.{Refusal}
use Rattle.devices.specs.Questions.{Held, records_of, record_at, of_container, of_record, fitting, payload_answer, payload_filled}
use Rattle.trees.specs.Holding.{if_some, standing}
use Rattle.trees.specs.Trees.{cut, payload_of}
use Rattle.trees.proofs.Pieces.{length_cut, nth_cut}
use Rattle.walks.specs.Descents.{as_key}

-- an answer is not a refusal
not_refused : {X : Type 0} (v : X) (e : Refusal) → ◌≡◌ {A = Result X Refusal} (Ok v) (Err e) → ⊥
not_refused v e h = let z : ◌≡◌ {A = ℕ} 0 1 = cc in omega arith

-- what the record that there may be answers to a question
abbrev pub answer : {X : Type 0} → (Rec → X) → Option Rec → Result X Refusal
answer f None = Err (untold NoSuchPlace)
answer f (Some r) = Ok (f r)

module _ (cs : Contents) (x : Place) where
  there : x.index < length (records_of cs x.container) → standing cs x ≡ Some (record_at cs x)
  there h = slice_get-get_or (records_of cs x.container) x.index no_record h

  nowhere : length (records_of cs x.container) ≤ x.index → standing cs x ≡ None
  nowhere h = slice_get_past (records_of cs x.container) x.index h

  -- a question about a record is answered by what stands there
  pub answered : {X : Type 0} (f : Rec → X) → of_record f cs x ≡ answer f (standing cs x)
  answered {X} f =
      elim (ltb x.index (length (records_of cs x.container))) as (λ b. ltb x.index (length (records_of cs x.container)) ≡ b → ◌≡◌ {A = Result X Refusal} (cond b (Ok (f (record_at cs x))) (Err (untold NoSuchPlace))) (answer f (standing cs x))) [
        | true ↦ λ t. sym (ap (answer f) (there (ltb-true _ _ t)))
        | false ↦ λ t. sym (ap (answer f) (nowhere (ltb-false _ _ t)))
      ] refl

  -- where it was answered, and where it was refused
  pub told : {X : Type 0} (f : Rec → X) (v : X) → Ok v ≡ of_record f cs x → (r : Rec) × (standing cs x ≡ Some r) × (v ≡ f r)
  told f v e = go (standing cs x) refl (e ∙ answered f)
    where
      go : (o : Option Rec) → standing cs x ≡ o → Ok v ≡ answer f o → (r : Rec) × (standing cs x ≡ Some r) × (v ≡ f r)
      go None s h = cc
      go (Some r) s h = (r, s, cc)

  pub untold_none : {X : Type 0} (f : Rec → X) (e : Refusal) → Err e ≡ of_record f cs x → standing cs x ≡ None
  untold_none f e h = go (standing cs x) refl (h ∙ answered f)
    where
      go : (o : Option Rec) → standing cs x ≡ o → Err e ≡ answer f o → standing cs x ≡ None
      go None s h = s
      go (Some r) s h = cc

  -- the answer, or else z
  pub asked : {X : Type 0} (f : Rec → X) (z : X) (o : Result X Refusal) → o ≡ of_record f cs x → result_unwrap_or o z ≡ if_some z f (standing cs x)
  asked f z o e = ap (λ a. result_unwrap_or a z) (e ∙ answered f) ∙ go (standing cs x)
    where
      go : (o : Option Rec) → result_unwrap_or (answer f o) z ≡ if_some z f o
      go None = refl
      go (Some r) = refl

  -- a payload that was copied into a buffer
  pub copied : (n : ℕ) (buffer after : List ℕ) → Ok n ≡ payload_answer cs x (length buffer) → after ≡ payload_filled cs x buffer → (r : Rec) × (standing cs x ≡ Some r) × (take n after ≡ r.payload)
  copied n buffer after e a =
      let p = (record_at cs x).payload in
      let filled : after ≡ p ++ drop (length p) buffer = a ∙ ap (λ o. cond (is_ok o) (p ++ drop (length p) buffer) buffer) (sym e) in
      elim (ltb x.index (length (records_of cs x.container))) as (λ b. ltb x.index (length (records_of cs x.container)) ≡ b → Ok n ≡ cond b (fitting (length p) (length buffer)) (Err (untold NoSuchPlace)) → (r : Rec) × (standing cs x ≡ Some r) × (take n after ≡ r.payload)) [
        | true ↦ λ t h.
            let long : length p ≡ n = fits n (length p) (length buffer) h in
            (record_at cs x, there (ltb-true _ _ t), ap (take n) filled ∙ take_at p (drop (length p) buffer) n long)
        | false ↦ λ t h. absurd (not_refused n _ h)
      ] refl e
    where
      fits : (n m space : ℕ) → Ok n ≡ fitting m space → m ≡ n
      fits n m space h =
          elim (leb m space) as (λ b. Ok n ≡ cond b (Ok m) (Err (untold TooShort)) → m ≡ n) [
            | true ↦ λ h. cc
            | false ↦ λ h. absurd (not_refused n _ h)
          ] h

  module _ (w : ℕ) (held : Held w cs) where
    at_place : (P : List Rec → Type 0) → AllByRecursion P cs → (r : Rec) → standing cs x ≡ Some r → P (records_of cs x.container)
    at_place P h r e =
        ⊎_elim
        (λ (lt : x.container < length cs). All-get_or P cs x.container [] lt h)
        (λ (past : length cs ≤ x.container). absurd (outside past))
        (cases_lt x.container (length cs))
      where
        outside : length cs ≤ x.container → ⊥
        outside past =
            let none : records_of cs x.container ≡ [] = get_or_past cs x.container [] past in
            let f : slice_get {X = Rec} [] x.index ≡ Some r = ap (λ rs. slice_get rs x.index) (sym none) ∙ e in
            let z : ◌≡◌ {A = ℕ} 0 1 = cc in omega arith

    payload_among : (rs : List Rec) (i : ℕ) (r : Rec) → slice_get rs i ≡ Some r → length r.payload ≤ payload_bytes rs
    payload_among [] i r e = absurd (let z : ◌≡◌ {A = ℕ} 0 1 = cc in omega arith)
    payload_among (y ∷ rs) zero r e =
        let s : y ≡ r = cc in
        let l : length y.payload ≡ length r.payload = ap (λ q. length q.payload) s in
        omega arith
    payload_among (y ∷ rs) (suc i) r e = omega (arith, payload_among rs i r e)

    -- a container's limit holds for each of its payloads
    pub payload_few : (r : Rec) → standing cs x ≡ Some r → length r.payload ≤ 7168
    payload_few r e =
        let f = at_place Fits held.fits r e in
        omega (arith, payload_among (records_of cs x.container) x.index r e, f.bytes)

    pub typed_at : (r : Rec) → standing cs x ≡ Some r → Typed w r
    typed_at r e =
        let a = at_place (AllByRecursion (Typed w)) held.typed r e in
        let lt = slice_get_within (records_of cs x.container) x.index r e in
        let is : record_at cs x ≡ r = some_same (sym (there lt) ∙ e) in
        subst (Typed w) is (All-get_or (Typed w) (records_of cs x.container) x.index no_record lt a)
      where
        some_same : {a b : Rec} → Some a ≡ Some b → a ≡ b
        some_same e = cc

    -- a buffer for a container's payload bytes takes any payload
    pub not_copied : (e : Refusal) (space : ℕ) → 7168 ≤ space → Err e ≡ payload_answer cs x space → standing cs x ≡ None
    not_copied e space big h =
        let p = (record_at cs x).payload in
        elim (ltb x.index (length (records_of cs x.container))) as (λ b. ltb x.index (length (records_of cs x.container)) ≡ b → Err e ≡ cond b (fitting (length p) space) (Err (untold NoSuchPlace)) → standing cs x ≡ None) [
          | true ↦ λ t h.
              let few = payload_few (record_at cs x) (there (ltb-true _ _ t)) in
              let fit : fitting (length p) space ≡ Ok (length p) = ap (λ b. cond b (Ok (length p)) (Err (untold TooShort))) (le-leb (length p) space (omega arith)) in
              absurd (not_refused (length p) e (sym (h ∙ fit)))
          | false ↦ λ t h. nowhere (ltb-false _ _ t)
        ] refl h

-- what a copy left in a buffer for any payload is the payload of the record
pub copied_is : (cs : Contents) (x : Place) (w : ℕ) → Held w cs → (buffer after : List ℕ) (o : Result ℕ Refusal) → 7168 ≤ length buffer → o ≡ payload_answer cs x (length buffer) → after ≡ payload_filled cs x buffer → take (result_unwrap_or o 0) after ≡ payload_of (standing cs x)
copied_is cs x w held buffer after (Ok n) big e a = let d = copied cs x n buffer after e a in d.2 ∙ ap payload_of (sym d.1)
copied_is cs x w held buffer after (Err e) big h a = ap payload_of (sym (not_copied cs x w held e (length buffer) big h))

-- the same of an answer that is an Option then: what it holds, or that there is no record
pub told_some : (cs : Contents) (x : Place) {X : Type 0} (f : Rec → X) (v : X) (o : Result X Refusal) → Some v ≡ result_ok o → o ≡ of_record f cs x → (r : Rec) × (standing cs x ≡ Some r) × (v ≡ f r)
told_some cs x f v (Ok u) h e = told cs x f v (let s : v ≡ u = cc in ap Ok s ∙ e)
told_some cs x f v (Err u) h e = cc

pub copied_some : (cs : Contents) (x : Place) (n : ℕ) (buffer after : List ℕ) (o : Result ℕ Refusal) → Some n ≡ result_ok o → o ≡ payload_answer cs x (length buffer) → after ≡ payload_filled cs x buffer → (r : Rec) × (standing cs x ≡ Some r) × (take n after ≡ r.payload)
copied_some cs x n buffer after (Ok u) h e a = copied cs x n buffer after (let s : n ≡ u = cc in ap Ok s ∙ e) a
copied_some cs x n buffer after (Err u) h e a = cc

pub copied_none : (cs : Contents) (x : Place) (w : ℕ) → Held w cs → (space : ℕ) → 7168 ≤ space → (o : Result ℕ Refusal) → None ≡ result_ok o → o ≡ payload_answer cs x space → standing cs x ≡ None
copied_none cs x w held space big (Ok u) h e = cc
copied_none cs x w held space big (Err u) h e = not_copied cs x w held u space big e

-- how many records a container is told to have
pub count_is : (cs : Contents) (c : ℕ) (o : Result ℕ Refusal) → o ≡ of_container length cs c → result_unwrap_or o 0 ≡ length (records_of cs c)
count_is cs c o e =
    elim (ltb c (length cs)) as (λ b. ltb c (length cs) ≡ b → o ≡ cond b (Ok (length (records_of cs c))) (Err (untold NoSuchPlace)) → result_unwrap_or o 0 ≡ length (records_of cs c)) [
      | true ↦ λ t h. ap (λ a. result_unwrap_or a 0) h
      | false ↦ λ t h. ap (λ a. result_unwrap_or a 0) h ∙ ap length (sym (get_or_past cs c [] (ltb-false _ _ t)))
    ] refl e

-- a payload of no bytes has no pieces
pub none_cut : (w : ℕ) (i : ℕ) → (length (cut w []) ≡ 0) × (slice_get (cut w []) i ≡ None)
none_cut w i =
    let l = length_cut w [] ∙ zero-div w in
    (l, slice_get_past (cut w []) i (omega arith))

-- the piece at an index of a payload
module _ {K : Type 0} (key : List ℕ → K) (w : ℕ) (some : 1 ≤ w) (payload : List ℕ) (i : ℕ) where
  pub piece_none : length payload < i * w + w → None ≡ as_key key (slice_get (cut w payload) i)
  piece_none h =
      ⊎_elim
      (λ (lt : i < length payload / w). absurd (let m : (i + 1) * w ≤ length payload = (le-div_iff_mul-le {k = w} {x = i + 1} {y = length payload} (omega arith)).0 (omega arith) in omega (arith, add-mul i 1 w)))
      (λ (past : length payload / w ≤ i). sym (ap (as_key key) (slice_get_past (cut w payload) i (omega (arith, length_cut w payload)))))
      (cases_lt i (length payload / w))

  -- it is read off the bytes from its first on
  pub piece_read : (part : List ℕ) → part ≡ drop (i * w) payload → i * w ≤ length payload → (r : Option K) → r ≡ cond (leb w (length part)) (Some (key (take w part))) None → r ≡ as_key key (slice_get (cut w payload) i)
  piece_read part is within r e =
      let long : length part + i * w ≡ length payload = omega (arith, ap length is, length-drop (i * w) payload) in
      elim (leb w (length part)) as (λ b. leb w (length part) ≡ b → r ≡ cond b (Some (key (take w part))) None → r ≡ as_key key (slice_get (cut w payload) i)) [
        | true ↦ λ t h.
            let there : i < length payload / w = (le-div_iff_mul-le {k = w} {x = suc i} {y = length payload} (omega arith)).1 (omega (arith, leb-true w (length part) t, add-mul i 1 w)) in
            h ∙ ap (λ xs. Some (key (take w xs))) is ∙ sym (ap (as_key key) (nth_cut w payload i there))
        | false ↦ λ t h. h ∙ piece_none (omega (arith, leb-false w (length part) t))
      ] refl e

-- how many children a record has, by the length of its payload
pub count_told : (w : ℕ) (cs : Contents) (x : Place) → Held w cs → (o : Result ℕ Refusal) → o ≡ of_record (λ r. length r.payload) cs x → (result_unwrap_or o 0 / w ≡ length (cut w (payload_of (standing cs x)))) × (result_unwrap_or o 0 ≤ 7168)
count_told w cs x held o e =
    let is : result_unwrap_or o 0 ≡ length (payload_of (standing cs x)) = asked cs x (λ r. length r.payload) 0 o e ∙ long (standing cs x) in
    (ap (λ n. n / w) is ∙ sym (length_cut w (payload_of (standing cs x))), omega (arith, is, few (standing cs x) refl))
  where
    long : (r : Option Rec) → if_some 0 (λ r. length r.payload) r ≡ length (payload_of r)
    long None = refl
    long (Some r) = refl

    few : (r : Option Rec) → standing cs x ≡ r → length (payload_of r) ≤ 7168
    few None h = omega arith
    few (Some r) h = payload_few cs x w held r h
