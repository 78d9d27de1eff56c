-- What `find_map` gives, and the first place of a fingerprint container by container.
use Rattle.std.proofs.Common.{◌≡◌, ℕ, suc, ◌+◌, ◌<◌, Bool, true, false, cond, List, [], ◌∷◌, map, length, get_or, drop, Some, None, Option, MatchOption, sym, refl, ap, subst, ◌∙◌, add-one, arith}
use Rattle.std.specs.Bool.{IsTrue}
use Rattle.std.specs.Fn.{Called}
use Rattle.std.specs.Iterator.{AlwaysYields, Yields, FindsMapped}
use Rattle.std.specs.Iterator.Runs.{Run, SomeRun, YieldsRun, AllItemsGive, IsFirstToGive}
use Rattle.std.specs.List.{FoldsTo, range_with_len, slice_get}
use Rattle.std.specs.Option.{IfSome}
use Rattle.std.proofs.lemmas.Iterator.{YieldsList}
use Rattle.std.proofs.lemmas.Iterator.Consumers.{YieldsList-end}
use Rattle.std.proofs.lemmas.List.{get_or-drop, drop-drop}
use Rattle.keys.specs.Octets.{same_bytes}
use Rattle.records.specs.Records.{Rec, Contents, place_among, place_from, first_place}
use Rattle.records.specs.declared.refusal.Place.{Place}
use Rattle.devices.specs.Questions.{records_of}
use denote.Param.Members.{Mut}

-- the first of two that is there
abbrev pub or_else : {C : Type 0} → Option C → Option C → Option C
or_else (Some c) later = Some c
or_else None later = later

-- the first answer that is there
abbrev pub first_answer : {B C : Type 0} → (B → Option C) → List B → Option C
first_answer pick [] = None
first_answer pick (y ∷ ys) = or_else (pick y) (first_answer pick ys)

module _ {S A B C F : Type 0} (steps : S → Option A → S → Type 0) (v : A → B) (g : Mut F (A × Unit {0}) (Option C)) (pick : B → Option C) (f : F)
    (k : (x : A) (o : Option C) (q : F) → Called g f (x, tt) o q → (q ≡ f) × (o ≡ pick (v x))) where
  go : (xs : List A) (all : List B) (s t u : S) (o : Option A) (p j : F) (y : C) → p ≡ f → AlwaysYields steps v s all → Yields steps s xs t → steps t o u → FoldsTo (λ p x q. Called g p (x, tt) None q) p xs j → MatchOption o (Some y ≡ None) (λ x. (h : F) × Called g j (x, tt) (Some y) h) → Some y ≡ first_answer pick all
  go [] all s t u None p j y a e yl st c m = absurd (let n : ◌≡◌ {A = ℕ} 0 1 = cc in omega arith)
  go [] [] s t u (Some x) p j y a e yl st c m = absurd (subst (λ z. AlwaysYields steps v z []) yl e x u st)
  go [] (z ∷ zs) s t u (Some x) p j y a e yl st c m =
      let n = (subst (λ w. AlwaysYields steps v w (z ∷ zs)) yl e).1 x u st in
      let d = k x (Some y) m.0 (subst (λ q. Called g q (x, tt) (Some y) m.0) (sym c ∙ a) m.1) in
      ap (λ b. or_else b (first_answer pick zs)) (d.1 ∙ ap pick n.0)
  go (x ∷ xs) [] s t u o p j y a e yl st c m = absurd (e x yl.0 yl.1)
  go (x ∷ xs) (z ∷ zs) s t u o p j y a e yl st c m =
      let n = e.1 x yl.0 yl.1 in
      let d = k x None c.0 (subst (λ q. Called g q (x, tt) None c.0) a c.1) in
      go xs zs yl.0 t u o c.0 j y d.0 n.1 yl.2 st c.2 m ∙ ap (λ b. or_else b (first_answer pick zs)) (d.1 ∙ ap pick n.0)

  none_given : (xs : List A) → ((i : ℕ) → IfSome (slice_get xs i) (λ x. Called g f (x, tt) None f)) → None ≡ first_answer pick (map v xs)
  none_given [] h = refl
  none_given (x ∷ xs) h = none_given xs (λ i. h (suc i)) ∙ ap (λ b. or_else b (first_answer pick (map v xs))) (k x None f (h 0)).1

  -- a run to the end, at each item of which the answer was `None`
  whole : (p : Run steps) (s : S) (all : List B) → p.from ≡ s → p.whole ≡ true → YieldsList steps v s all → AllItemsGive p g f None → None ≡ first_answer pick all
  unfolding YieldsRun
  whole p s all from end e h =
      let d = p.gave.0 in
      let y : Yields steps s p.items d.0 = subst (λ z. Yields steps z p.items d.0) from d.1 in
      let n = d.2 end in
      none_given p.items (λ i. subst (λ o. IfSome o (λ x. Called g f (x, tt) None f)) (p.gave.1 i) (h (λ a o q c. (k a.0 o q c).0) i)) ∙ ap (first_answer pick) (YieldsList-end e p.items d.0 y None n.0 refl n.1).0

  pub find_map_from_yields_List : (s u : S) (all : List B) (r : Option C) → FindsMapped steps g s f r u → SomeRun steps s (λ p. MatchOption r (IsTrue p.whole × AllItemsGive p g f None) (λ y. (i : ℕ) × (i < p.len) × (p.len ≡ i + 1) × IsFirstToGive p g f (Some y) None i)) → YieldsList steps v s all → r ≡ first_answer pick all
  find_map_from_yields_List s u all None ran runs e = whole runs.0 s all runs.1 runs.2.0 e runs.2.1
  find_map_from_yields_List s u all (Some y) ran runs e = go ran.0 all s _ u ran.1 f ran.2 y refl e.runs ran.3.1 ran.3.2 ran.4 ran.5

-- what stands among some records is found before all that comes later
among_or : (f : List ℕ) (c i : ℕ) (rs : List Rec) (later : Option Place) → or_else (place_among f c i rs None) later ≡ place_among f c i rs later
among_or f c i [] later = refl
among_or f c i (r ∷ rs) later = by (same_bytes r.fingerprint f) _ _ _ (among_or f c (suc i) rs later)
  where
    by : (b : Bool) (p : Place) (x y : Option Place) → or_else x later ≡ y → or_else (cond b (Some p) x) later ≡ cond b (Some p) y
    by true p x y e = refl
    by false p x y e = e

-- the containers from a on, one by one
from_on : (f : List ℕ) (cs : Contents) (a : ℕ) (ds : Contents) → drop a cs ≡ ds → first_answer (λ c. place_among f c 0 (records_of cs c) None) (range_with_len a (length ds)) ≡ place_from f a ds
from_on f cs a [] e = refl
from_on f cs a (rs ∷ ds) e =
    let here : records_of cs a ≡ rs = ap (λ n. get_or cs n []) (omega arith) ∙ sym (get_or-drop a cs 0 []) ∙ ap (λ x. get_or x 0 []) e in
    let rest : drop (a + 1) cs ≡ ds = sym (drop-drop 1 a cs) ∙ ap (drop 1) e in
    let later = from_on f cs (a + 1) ds rest ∙ ap (λ n. place_from f n ds) (add-one a) in
    (λ i. or_else (place_among f a 0 (here i) None) (later i)) ∙ among_or f a 0 rs (place_from f (suc a) ds)

pub first_over : (f : List ℕ) (cs : Contents) → first_answer (λ c. place_among f c 0 (records_of cs c) None) (range_with_len 0 (length cs)) ≡ first_place cs f
first_over f cs = from_on f cs 0 cs refl
