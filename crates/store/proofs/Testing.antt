-- What an answer says of the tests before it: all were passed, or one of them stopped the call.
use Rattle.std.proofs.Common.{◌≡◌, true, false, cond, List, [], ◌∷◌, IsErrAnd, Ok, Err, Result, refl, ap, ◌∙◌, ⊎_elim}
use Rattle.records.specs.declared.refusal.Cause.{Cause}
use Rattle.trees.specs.Holding.{In}
use Rattle.store.specs.Refusing.{Test, refusing, unless}

-- what a `?` hands on
pub handed_on : {X E : Type 0} (r : Result X E) (e : E) → IsErrAnd r (λ y. y ≡ e) → r ≡ Err e
handed_on (Ok x) e h = elim h [ ]
handed_on (Err y) e h = ap Err h

module _ {X E : Type 0} (why : Cause → E) where
  -- all tests were passed: what comes behind them is the answer ..
  pub passed : {Y : Type 0} (ts : List Test) (x y : X) (z : Result Y E) → Ok y ≡ refusing why ts (Ok x) → z ≡ refusing why ts z
  passed [] x y z h = refl
  passed (t ∷ ts) x y z h =
      elim t.0 as (λ b. Ok y ≡ cond b (Err (why t.1)) (refusing why ts (Ok x)) → z ≡ cond b (Err (why t.1)) (refusing why ts z)) [
        | true ↦ λ e. cc
        | false ↦ λ e. passed ts x y z e
      ] h

  pub passed_value : (ts : List Test) (x y : X) → Ok y ≡ refusing why ts (Ok x) → y ≡ x
  passed_value [] x y h = cc
  passed_value (t ∷ ts) x y h =
      elim t.0 as (λ b. Ok y ≡ cond b (Err (why t.1)) (refusing why ts (Ok x)) → y ≡ x) [
        | true ↦ λ e. cc
        | false ↦ λ e. passed_value ts x y e
      ] h

  -- .. and the change is made
  pub passed_change : {A : Type 0} (ts : List Test) (x y : X) (stays change : A) → Ok y ≡ refusing why ts (Ok x) → change ≡ unless ts stays change
  passed_change [] x y stays change h = refl
  passed_change (t ∷ ts) x y stays change h =
      elim t.0 as (λ b. Ok y ≡ cond b (Err (why t.1)) (refusing why ts (Ok x)) → change ≡ cond b stays (unless ts stays change)) [
        | true ↦ λ e. cc
        | false ↦ λ e. passed_change ts x y stays change e
      ] h

  -- a test stopped the call: it is the answer, whatever comes behind ..
  pub stopped : {Y : Type 0} (ts : List Test) (x : X) (e : E) (z : Result Y E) → Err e ≡ refusing why ts (Ok x) → Err e ≡ refusing why ts z
  stopped [] x e z h = cc
  stopped {Y} (t ∷ ts) x e z h =
      elim t.0 as (λ b. Err e ≡ cond b (Err (why t.1)) (refusing why ts (Ok x)) → ◌≡◌ {A = Result Y E} (Err e) (cond b (Err (why t.1)) (refusing why ts z))) [
        | true ↦ λ d. let same : e ≡ why t.1 = cc in ap Err same
        | false ↦ λ d. stopped ts x e z d
      ] h

  -- .. and nothing changes
  pub stopped_change : {A : Type 0} (ts : List Test) (x : X) (e : E) (stays change : A) → Err e ≡ refusing why ts (Ok x) → stays ≡ unless ts stays change
  stopped_change [] x e stays change h = cc
  stopped_change (t ∷ ts) x e stays change h =
      elim t.0 as (λ b. Err e ≡ cond b (Err (why t.1)) (refusing why ts (Ok x)) → stays ≡ cond b stays (unless ts stays change)) [
        | true ↦ λ d. refl
        | false ↦ λ d. stopped_change ts x e stays change d
      ] h

  -- each of the tests did not apply
  pub passed_in : (ts : List Test) (x y : X) → Ok y ≡ refusing why ts (Ok x) → (t : Test) → In t ts → t.0 ≡ false
  passed_in [] x y h u i = elim i [ ]
  passed_in (t ∷ ts) x y h u i =
      elim t.0 as (λ b. t.0 ≡ b → Ok y ≡ cond b (Err (why t.1)) (refusing why ts (Ok x)) → u.0 ≡ false) [
        | true ↦ λ n e. cc
        | false ↦ λ n e. ⊎_elim (λ (d : u ≡ t). ap (λ v. v.0) d ∙ n) (λ j. passed_in ts x y e u j) i
      ] refl h
