-- What is found at a place of a file, by its answers.
use Rattle.std.proofs.Common.{◌≡◌, ℕ, zero, suc, ◌+◌, ◌<◌, ◌≤◌, true, false, Bool, cond, ltb, leb, ◌⊎◌, List, [], length, get_or, take, drop, Some, None, Ok, Err, Option, sym, refl, ap, ◌∙◌, subst, inl, inr, ⊎_elim, add-one, arith}
use Rattle.std.proofs.lemmas.List.{length-drop}
use Rattle.std.proofs.lemmas.Bool.{le-ltb, le-leb, cases_lt, true≢false}
use Rattle.std.specs.Result.{result_ok}
use Rattle.std.specs.Bool.{IsTrue}
use Rattle.std.specs.Option.{MatchOption, option_map}
use Rattle.std.specs.Iterator.Runs.{Run, SomeRun, ItemsCountUp, AllItemsGive, IsFirstToGive, CallKeepsClosure}
use Rattle.std.specs.declared.ops.Range.{Range}
use Rattle.std.proofs.iter.Yields.{nat_range_steps}
use Rattle.std.proofs.iter.runs.Sources.{range_runs}
use denote.Param.Members.{Mut, Called}
use Rattle.keys.specs.Octets.{Bytes, same_bytes}
use Rattle.records.specs.Records.{Rec, Contents, no_record, place_among, place_from, first_place}
use Rattle.records.specs.Refusals.{untold}
use Rattle.records.specs.declared.refusal.Cause.TheVariants.{NoSuchPlace}
use Rattle.records.specs.declared.refusal.Place.{Place}
use Rattle.records.proofs.Places.{place_here, place_more, place-all, from_here, from_more, from_all}
use Rattle.container_format.proofs.Chunks.{both, met}
use Rattle.devices.proofs.Holding.{answer_there, typed_at}
use Rattle.devices.specs.Questions.{Held, records_of, record_at, of_record}

-- what a key reads off the front, where there are bytes enough
pub read_front : {K : Type 0} (key : List ℕ → K) (w at : ℕ) (bs rest : List ℕ) (r : Option K) → at + w ≤ length bs → rest ≡ drop at bs → r ≡ cond (leb w (length rest)) (Some (key (take w rest))) None → r ≡ Some (key (take w (drop at bs)))
read_front key w at bs rest r space is e =
    let l : w ≤ length (drop at bs) = simp length-drop (omega arith) in
    e ∙ ap (λ xs. cond (leb w (length xs)) (Some (key (take w xs))) None) is ∙ ap (λ b. cond b (Some (key (take w (drop at bs)))) None) (le-leb w (length (drop at bs)) l)

-- whether there is a record, by whether an answer about it came
pub there_or_not : {X : Type 0} (f : Rec → X) (cs : Contents) (p : Place) → ((p.index < length (records_of cs p.container)) × (result_ok (of_record f cs p) ≡ Some (f (record_at cs p)))) ⊎ ((length (records_of cs p.container) ≤ p.index) × (result_ok (of_record f cs p) ≡ None))
there_or_not f cs p =
    let test = ltb p.index (length (records_of cs p.container)) in
    ⊎_elim
    (λ h. inl (h, ap result_ok (answer_there f cs p h)))
    (λ h. inr (h, ap (λ b. result_ok (cond b (Ok (f (record_at cs p))) (Err (untold NoSuchPlace)))) (le-ltb p.index (length (records_of cs p.container)) h)))
    (cases_lt p.index (length (records_of cs p.container)))

-- a test b of the fingerprint at a place, if there is one, tests the bytes of the record there
module _ {K : Type 0} (bytes : K → List ℕ) (key : List ℕ → K) (same : K → K → Bool) (w : ℕ) (any : (bs : List ℕ) → length bs ≡ w → Bytes bs → bytes (key bs) ≡ bs) (law : (x y : K) → same x y ≡ same_bytes (bytes x) (bytes y)) (cs : Contents) (p : Place) (k : K) (held : Held w cs) (b : Bool) where
  pub told_at : MatchOption (result_ok (of_record (λ x. key x.fingerprint) cs p)) (b ≡ false) (λ found. b ≡ same found k) → ((p.index < length (records_of cs p.container)) × (b ≡ same_bytes (record_at cs p).fingerprint (bytes k))) ⊎ ((length (records_of cs p.container) ≤ p.index) × (b ≡ false))
  told_at h =
      let P : Option K → Type 0 = λ o. MatchOption o (b ≡ false) (λ found. b ≡ same found k) in
      ⊎_elim
      (λ t.
      let typed = typed_at w cs p held t.0 in
      inl (t.0, subst P t.1 h ∙ law (key (record_at cs p).fingerprint) k ∙ ap (λ xs. same_bytes xs (bytes k)) (any (record_at cs p).fingerprint typed.wide typed.fingerprint)))
      (λ t. inr (t.0, subst P t.1 h))
      (there_or_not (λ x. key x.fingerprint) cs p)

  pub told_yes : b ≡ true → MatchOption (result_ok (of_record (λ x. key x.fingerprint) cs p)) (b ≡ false) (λ found. b ≡ same found k) → same_bytes (record_at cs p).fingerprint (bytes k) ≡ true
  told_yes e h = ⊎_elim (λ t. sym t.1 ∙ e) (λ t. absurd (true≢false (sym e ∙ t.1))) (told_at h)

  pub told_no : b ≡ false → MatchOption (result_ok (of_record (λ x. key x.fingerprint) cs p)) (b ≡ false) (λ found. b ≡ same found k) → p.index < length (records_of cs p.container) → same_bytes (record_at cs p).fingerprint (bytes k) ≡ false
  told_no e h inside = ⊎_elim (λ t. sym t.1 ∙ e) (λ t. absurd (let a = t.0 in omega arith)) (told_at h)

-- the first n containers are passed over, where they lack the fingerprint
from_front : (f : List ℕ) (cs : Contents) (n : ℕ) → n ≤ length cs → ((k : ℕ) → k < n → place_among f k 0 (get_or cs k []) None ≡ None) → first_place cs f ≡ place_from f n (drop n cs)
from_front f cs zero h lacks = refl
from_front f cs (suc n) h lacks =
    from_front f cs n (omega arith) (λ k l. lacks k (omega arith)) ∙ from_more f n cs (omega arith) (lacks n (omega arith)) ∙ ap (λ k. place_from f k (drop k cs)) (add-one n)

-- the same of the first n records of a container
among_front : (f : List ℕ) (c : ℕ) (rs : List Rec) (n : ℕ) → n ≤ length rs → ((k : ℕ) → k < n → same_bytes (get_or rs k no_record).fingerprint f ≡ false) → place_among f c 0 rs None ≡ place_among f c n (drop n rs) None
among_front f c rs zero h lacks = refl
among_front f c rs (suc n) h lacks =
    among_front f c rs n (omega arith) (λ k l. lacks k (omega arith)) ∙ place_more f c n rs None (omega arith) (lacks n (omega arith)) ∙ ap (λ k. place_among f c k (drop k rs) None) (add-one n)

-- what `find` answers over the records of a container
pub found_among : (f : List ℕ) (c : ℕ) (rs : List Rec) (n : ℕ) (r : Option ℕ) → n ≡ length rs → MatchOption r ((k : ℕ) → 0 ≤ k → k < n → k < length rs → same_bytes (get_or rs k no_record).fingerprint f ≡ false) (λ i. (0 ≤ i) × (i < n) × (same_bytes (get_or rs i no_record).fingerprint f ≡ true) × ((k : ℕ) → 0 ≤ k → k < i → k < length rs → same_bytes (get_or rs k no_record).fingerprint f ≡ false)) → option_map (λ i. record { container = c; index = i }) r ≡ place_among f c 0 rs None
found_among f c rs n None e h = sym (among_front f c rs n (omega arith) (λ k l. h k (omega arith) l (omega arith)) ∙ place-all f c n rs None (omega arith))
found_among f c rs n (Some i) e h = let l = h.1 in sym (among_front f c rs i (omega arith) (λ k b. h.3 k (omega arith) b (omega arith)) ∙ place_here f c i rs None (omega arith) h.2)

-- what `find_map` answers over the containers
pub found_from : {F : Type 0} (g : Mut F (ℕ × Unit {0}) (Option Place)) (f : F) (name : List ℕ) (cs : Contents) (n : ℕ) (r : Option Place) → n ≡ length cs → CallKeepsClosure g f
    → ((c : ℕ) (q : Option Place) → Called g f (c, tt) q f → q ≡ place_among name c 0 (get_or cs c []) None)
    → SomeRun nat_range_steps (record { start = 0; end = n }) (λ p. MatchOption r (IsTrue p.whole × AllItemsGive p g f None) (λ y. (i : ℕ) × (i < p.len) × (p.len ≡ i + 1) × IsFirstToGive p g f (Some y) None i))
    → r ≡ first_place cs name
found_from g f name cs n r e keeps tells run = told r run.2
  where
    p : Run nat_range_steps
    p = run.0

    up : ItemsCountUp p 0 n
    up = subst (λ (s : Range ℕ). ItemsCountUp p s.start s.end) run.1 (range_runs p p.seen)

    at_place : (k : ℕ) (x : ℕ) (q : Option Place) → (x ≡ 0 + k) × (x < n) → Called g f (x, tt) q f → q ≡ place_among name k 0 (get_or cs k []) None
    at_place k x q is c = tells x q c ∙ ap (λ m. place_among name m 0 (get_or cs m []) None) (let t = is.0 in omega arith)

    told : (r' : Option Place) → MatchOption r' (IsTrue p.whole × AllItemsGive p g f None) (λ y. (i : ℕ) × (i < p.len) × (p.len ≡ i + 1) × IsFirstToGive p g f (Some y) None i) → r' ≡ first_place cs name
    told None h =
        let all = h.1 keeps in
        let lacks : (k : ℕ) → k < n → place_among name k 0 (get_or cs k []) None ≡ None = λ k l. both (p.at k) _ (up.3 k (let t = up.1 h.0 in omega arith)) (all k) (up.2 k) (λ x c is. sym (at_place k x None is c)) in
        sym (from_front name cs n (omega arith) lacks ∙ from_all name n cs (omega arith))
    told (Some y) h =
        let first = h.3 keeps in
        let l : h.0 < n = (let t = up.0 in let i = h.1 in omega arith) in
        let lacks : (k : ℕ) → k < h.0 → place_among name k 0 (get_or cs k []) None ≡ None = λ k b. met (p.at k) (first.1 k b) (up.2 k) (λ x c is. sym (at_place k x None is c)) in
        let here : place_among name h.0 0 (get_or cs h.0 []) None ≡ Some y = met (p.at h.0) first.0 (up.2 h.0) (λ x c is. sym (at_place h.0 x (Some y) is c)) in
        sym (from_front name cs h.0 (omega arith) lacks ∙ from_here name h.0 cs y (omega arith) here)
