-- The survivors of one container always find space where one container is free.
use Rattle.std.proofs.Common.{◌≡◌, ℕ, ◌+◌, ◌<◌, ◌≤◌, Bool, true, false, ltb, leb, ◌⊎◌, List, [], ◌∷◌, ◌++◌, length, get_or, set, Some, None, Option, sym, refl, ap, ◌∙◌, subst, inl, inr, ⊎_elim, arith}
use Rattle.std.proofs.lemmas.List.{get_or-set_same, get_or-set_other, length_push, length-set}
use Rattle.std.proofs.lemmas.Bool.{and_from, cases_Bool, cases_eq, lt-ltb, le-leb}
use Rattle.devices.specs.Changes.{appended, takes}
use Rattle.records.specs.Records.{Rec, Contents, payload_bytes}
use Rattle.trees.specs.Chains.{Chain}
use Rattle.trees.specs.Clearing.{spared, Placed, Cleared}
use Rattle.trees.specs.Placing.Settled.{stays, opens}
use Rattle.trees.specs.Placing.{Free, Filling, Settled, SettledAll}

-- a container is free, or the open one takes all that is left
abbrev Ready : Filling → List Rec → Type 0
Ready s rs = ((f : ℕ) × Free s.contents f) ⊎ ((o : ℕ) × (s.current ≡ Some o) × (o < length s.contents) × (length (get_or s.contents o []) + length rs ≤ 63) × (payload_bytes (get_or s.contents o []) + payload_bytes rs ≤ 7168))

fits_in : (b : List Rec) (r : Rec) → length b < 63 → payload_bytes b + length r.payload ≤ 7168 → takes b r ≡ true
fits_in b r l m = and_from (ltb (length b) 63) (leb (payload_bytes b + length r.payload) 7168) (lt-ltb (length b) 63 l) (le-leb (payload_bytes b + length r.payload) 7168 m)

payload_push : (b : List Rec) (r : Rec) → payload_bytes (b ++ (r ∷ [])) ≡ payload_bytes b + length r.payload
payload_push [] r = omega arith
payload_push (x ∷ b) r = omega (arith, payload_push b r)

put_in : (cs : Contents) (o : ℕ) (r : Rec) → o < length cs → (length (get_or (appended cs o r) o []) ≡ length (get_or cs o []) + 1) × (payload_bytes (get_or (appended cs o r) o []) ≡ payload_bytes (get_or cs o []) + length r.payload)
put_in cs o r l =
    let b = get_or cs o [] in
    let e : get_or (appended cs o r) o [] ≡ b ++ (r ∷ []) = get_or-set_same cs o (b ++ (r ∷ [])) [] l in
    (ap length e ∙ length_push b r, ap payload_bytes e ∙ payload_push b r)

-- once a container takes all that is left, it takes the first of it and then all the rest
taken : (cs : Contents) (o : ℕ) (r : Rec) (rs : List Rec) → o < length cs → length (get_or cs o []) + length (r ∷ rs) ≤ 63 → payload_bytes (get_or cs o []) + payload_bytes (r ∷ rs) ≤ 7168 → Ready (record { contents = appended cs o r; current = Some o }) rs
taken cs o r rs l m n =
    let p = put_in cs o r l in
    inr (o, refl, omega (arith, length-set cs o (get_or cs o [] ++ (r ∷ []))), omega (arith, p.0), omega (arith, p.1))

-- into a free container
opened : (s : Filling) (f : ℕ) (r : Rec) (rs : List Rec) → Free s.contents f → length (r ∷ rs) ≤ 63 → payload_bytes (r ∷ rs) ≤ 7168 → Ready (record { contents = appended s.contents f r; current = Some f }) rs
opened s f r rs free m n =
    taken s.contents f r rs free.0 (omega (arith, ap length free.1)) (omega (arith, ap payload_bytes free.1))

abbrev Low : Filling → Type 0
Low s = (o : ℕ) → s.current ≡ Some o → o < length s.contents

abbrev Out : Filling → Rec → List Rec → Type 0
Out s r rs = (t : Filling) × Settled s r t × Ready t rs × Low t

low_at : (cs : Contents) (o : ℕ) (r : Rec) → o < length cs → Low (record { contents = appended cs o r; current = Some o })
low_at cs o r l o' e = let d : o ≡ o' = cc in omega (arith, length-set cs o (get_or cs o [] ++ (r ∷ [])))

module _ (s : Filling) (r : Rec) (rs : List Rec) (m : length (r ∷ rs) ≤ 63) (n : payload_bytes (r ∷ rs) ≤ 7168) (low : Low s) where
  stay : (o : ℕ) → s.current ≡ Some o → takes (get_or s.contents o []) r ≡ true → Ready (record { contents = appended s.contents o r; current = Some o }) rs → Out s r rs
  stay o e f ready = (record { contents = appended s.contents o r; current = Some o }, stays o e f, ready, low_at s.contents o r (low o e))

  open_one : (f : ℕ) → Free s.contents f → ((o : ℕ) → s.current ≡ Some o → takes (get_or s.contents o []) r ≡ false) → Out s r rs
  open_one f free tight = (record { contents = appended s.contents f r; current = Some f }, opens f tight free, opened s f r rs free m n, low_at s.contents f r free.0)

  with_free : (f : ℕ) → Free s.contents f → (current : Option ℕ) → s.current ≡ current → Out s r rs
  with_free f free None e = open_one f free (λ o h. absurd (let z : ◌≡◌ {A = ℕ} 0 1 = cc in omega arith))
  with_free f free (Some o) e =
      ⊎_elim
      (λ (y : takes (get_or s.contents o []) r ≡ true). stay o e y
      (⊎_elim
      (λ (d : f ≡ o). subst (λ (z : ℕ). Ready (record { contents = appended s.contents z r; current = Some z }) rs) d (opened s f r rs free m n))
      (λ (d : f ≡ o → ⊥). inl (f, (omega (arith, free.0, length-set s.contents o (get_or s.contents o [] ++ (r ∷ []))), get_or-set_other s.contents o f (get_or s.contents o [] ++ (r ∷ [])) [] d ∙ free.1)))
      (cases_eq f o)))
      (λ (y : takes (get_or s.contents o []) r ≡ false). open_one f free (λ o' h. let d : o ≡ o' = cc in subst (λ (z : ℕ). takes (get_or s.contents z []) r ≡ false) d y))
      (cases_Bool (takes (get_or s.contents o []) r))

  one : Ready s (r ∷ rs) → Out s r rs
  one ready =
      ⊎_elim
      (λ (h : (f : ℕ) × Free s.contents f). with_free h.0 h.1 s.current refl)
      (λ (h : (o : ℕ) × (s.current ≡ Some o) × (o < length s.contents) × (length (get_or s.contents o []) + length (r ∷ rs) ≤ 63) × (payload_bytes (get_or s.contents o []) + payload_bytes (r ∷ rs) ≤ 7168)).
      stay h.0 h.1 (fits_in (get_or s.contents h.0 []) r (omega (arith, h.3)) (omega (arith, h.4)))
      (taken s.contents h.0 r rs h.2 h.3 h.4))
      ready

every_one : (rs : List Rec) (s : Filling) → length rs ≤ 63 → payload_bytes rs ≤ 7168 → Low s → Ready s rs → (t : Filling) × SettledAll s rs t
every_one [] s m n low ready = (s, refl)
every_one (r ∷ rs) s m n low ready =
    let o = one s r rs m n low ready in
    let more = every_one rs o.0 (omega arith) (omega (arith)) o.3 o.2 in
    (more.0, (o.0, o.1, more.1))

pub space : (s : Filling) (rs : List Rec) (f : ℕ) → length rs ≤ 63 → payload_bytes rs ≤ 7168 → ((o : ℕ) → s.current ≡ Some o → o < length s.contents) → Free s.contents f → (t : Filling) × SettledAll s rs t
space s rs f m n low free = every_one rs s m n low (inl (f, free))

-- what is settled goes to other containers than one that is neither free nor open
abbrev Apart : ℕ → Filling → Type 0
Apart c s = Low s × (get_or s.contents c [] ≡ [] → ⊥) × (s.current ≡ Some c → ⊥)

placed_apart : (c : ℕ) (s : Filling) (d : ℕ) (r : Rec) → d < length s.contents → (d ≡ c → ⊥) → Apart c s → Placed c s.contents r (appended s.contents d r) × Apart c (record { contents = appended s.contents d r; current = Some d })
placed_apart c s d r l n a = (
  (d, l, n, refl),
  (low_at s.contents d r l, (λ e. a.1 (sym (get_or-set_other s.contents d c (get_or s.contents d [] ++ (r ∷ [])) [] (λ x. n (sym x))) ∙ e)), λ e. n (let x : d ≡ c = cc in x)),
)

settled_placed : (c : ℕ) (s : Filling) (r : Rec) (t : Filling) → Settled s r t → Apart c s → Placed c s.contents r t.contents × Apart c t
settled_placed c s r _ (stays o e f) a = placed_apart c s o r (a.0 o e) (λ d. a.2 (e ∙ ap Some d)) a
settled_placed c s r _ (opens f tight free) a = placed_apart c s f r free.0 (λ d. a.1 (subst (λ (z : ℕ). get_or s.contents z [] ≡ []) d free.1)) a

all_placed : (c : ℕ) (rs : List Rec) (s t : Filling) → SettledAll s rs t → Apart c s → Chain (Placed c) s.contents rs t.contents
all_placed c [] s t h a = ap (λ x. x.contents) h
all_placed c (r ∷ rs) s t h a =
    let p = settled_placed c s r h.0 h.1 a in
    (h.0.contents, p.0, all_placed c rs h.0 t h.2 p.1)

-- a container that is neither free nor open can always be cleared where another is free
pub can_clear : (s : Filling) (c f : ℕ) (vs : List Bool) → length (spared vs (get_or s.contents c [])) ≤ 63 → payload_bytes (spared vs (get_or s.contents c [])) ≤ 7168 → Apart c s → Free s.contents f → (t : Filling) × SettledAll s (spared vs (get_or s.contents c [])) t × Cleared s.contents c vs (set t.contents c [])
can_clear s c f vs m n a free =
    let x = space s (spared vs (get_or s.contents c [])) f m n a.0 free in
    (x.0, x.1, (x.0.contents, all_placed c (spared vs (get_or s.contents c [])) s x.0 x.1 a, refl))
