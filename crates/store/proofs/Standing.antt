-- Where a reading stands: a strip that it leads to is stored, and is the one that the text has there.
use Rattle.std.proofs.Common.{◌≡◌, ℕ, suc, ◌≤◌, Bool, true, false, cond, not, ◌||◌, eqb, ltb, leb, List, [], ◌∷◌, ◌++◌, get_or, Some, None, Ok, Err, Option, Result, MatchOption, is_err, sym, refl, ap, ◌∙◌, inl, inr, arith}
use Rattle.std.specs.List.{slice_get}
use Rattle.std.specs.Bool.{then_some}
use Rattle.std.proofs.lemmas.Option.{slice_get_past}
use Rattle.std.proofs.lemmas.Bool.{eqb-true}
use Rattle.keys.specs.Octets.{same_bytes}
use Rattle.records.specs.Records.{Rec, Contents, place_among, place_from, first_place}
use Rattle.records.specs.Refusals.{untold}
use Rattle.records.specs.declared.refusal.Cause.TheVariants.{WrongToken}
use Rattle.records.specs.declared.refusal.Place.{Place}
use Rattle.trees.specs.Holding.{if_some, all, first, record_of, standing}
use Rattle.trees.specs.Reading.{height, strip_at, rank_at, the_end}
use Rattle.trees.specs.Trees.{text}
use Rattle.trees.proofs.Cursors.{cursor_reads}
use Rattle.trees.proofs.Places.{place_tells}
use Rattle.walks.specs.Descents.{astray, strip_place, to_strip, lead_of}
use Rattle.walks.specs.declared.astray.Astray.{Astray}
use Rattle.walks.proofs.Strips.{strip_reads}
use Rattle.catalogue.specs.Sheets.{Kept, kept_of}
use Rattle.catalogue.specs.declared.sheet.Sheet.{Sheet}
use Rattle.store.specs.States.{State}
use Rattle.store.specs.Readings.{Stands, lead_in, lead_at, place_in, place_answer, token_tests, strip_bytes, DueInText}
use Rattle.store.specs.declared.tokens.ReadToken.{ReadToken}
use Rattle.store.proofs.Testing.{passed_value, passed_in}

-- what is nowhere among the records has no first place
among_none : (p : List ℕ) (c i : ℕ) (rs rest : List Rec) (later : Option Place) → (first p rest ≡ None → later ≡ None) → first p (rs ++ rest) ≡ None → place_among p c i rs later ≡ None
among_none p c i [] rest later h e = h e
among_none p c i (r ∷ rs) rest later h e =
    elim (same_bytes r.fingerprint p) as (λ b. cond b (Some r) (first p (rs ++ rest)) ≡ None → cond b (Some (record { container = c; index = i })) (place_among p c (suc i) rs later) ≡ None) [
      | true ↦ λ d. cc
      | false ↦ λ d. among_none p c (suc i) rs rest later h d
    ] e

from_none : (p : List ℕ) (c : ℕ) (cs : Contents) → first p (all cs) ≡ None → place_from p c cs ≡ None
from_none p c [] e = refl
from_none p c (rs ∷ cs) e = among_none p c 0 rs (all cs) (place_from p (suc c) cs) (from_none p (suc c) cs) e

-- at a first place a record stands
pub place-stands : (cs : Contents) (p : List ℕ) (x : Place) → first_place cs p ≡ Some x → Stands cs x
place-stands cs p x e = go (record_of cs p) refl (sym (ap (if_some None (standing cs)) e) ∙ place_tells p cs)
  where
    go : (o : Option Rec) → record_of cs p ≡ o → standing cs x ≡ record_of cs p → Stands cs x
    go None n h = let m = from_none p 0 cs n in cc
    go (Some r) n h = (r, h ∙ n)

-- a lead is the end, a strip's place or nowhere, by three tests
by_tests : Bool → Bool → Bool → Option Place → Result (Option Place) Astray
by_tests low end before strip = cond low (cond end (Ok None) (cond before (to_strip strip) (Err astray))) (Err astray)

tests_strip : (low end before : Bool) (strip : Option Place) (x : Place) → Ok (Some x) ≡ by_tests low end before strip → strip ≡ Some x
unfolding by_tests
tests_strip false end before strip x h = cc
tests_strip true true before strip x h = cc
tests_strip true false false strip x h = cc
tests_strip true false true None x h = cc
tests_strip true false true (Some y) x h = cc

tests_end : (low end before : Bool) (strip : Option Place) → Ok None ≡ by_tests low end before strip → end ≡ true
unfolding by_tests
tests_end false end before strip h = cc
tests_end true true before strip h = refl
tests_end true false false strip h = cc
tests_end true false true None h = cc
tests_end true false true (Some y) h = cc

module _ (w : ℕ) (cs : Contents) (root : List ℕ) (at : ℕ) where
  -- the cases of a position
  pub lead_strip : (x : Place) → Ok (Some x) ≡ lead_of w cs root at → strip_place w cs root at ≡ Some x
  unfolding by_tests
  lead_strip x e = tests_strip (leb (height w cs root) 6) (eqb at (the_end w cs root)) (ltb at (the_end w cs root)) (strip_place w cs root at) x e

  pub lead_end : Ok None ≡ lead_of w cs root at → at ≡ the_end w cs root
  unfolding by_tests
  lead_end e = eqb-true at (the_end w cs root) (tests_end (leb (height w cs root) 6) (eqb at (the_end w cs root)) (ltb at (the_end w cs root)) (strip_place w cs root at) e)

  -- a strip that a position leads to is stored
  pub strip_stands : (x : Place) → Ok (Some x) ≡ lead_of w cs root at → Stands cs x
  strip_stands x e = go (strip_at w cs root at) (placed (leb (height w cs root) 6) (lead_strip x e))
    where
      placed : (b : Bool) → cond b (if_some None (first_place cs) (strip_at w cs root at)) None ≡ Some x → if_some None (first_place cs) (strip_at w cs root at) ≡ Some x
      placed true h = h
      placed false h = cc

      go : (o : Option (List ℕ)) → if_some None (first_place cs) o ≡ Some x → Stands cs x
      go None h = cc
      go (Some q) h = place-stands cs q x h

-- the sheet of a token that leads somewhere
pub lead_sheet : (w : ℕ) (s : State) (at : ℕ) (o : Option Kept) (p : Option Place) → Ok p ≡ lead_in w s at o → (k : Kept) × (o ≡ Some k) × (Ok p ≡ lead_of w s.contents k.root at)
lead_sheet w s at None p e = cc
lead_sheet w s at (Some k) p e =
    elim (eqb k.readings 0) as (λ b. Ok p ≡ cond b (Err astray) (lead_of w s.contents k.root at) → (k' : Kept) × (Some k ≡ Some k') × (Ok p ≡ lead_of w s.contents k'.root at)) [
      | true ↦ λ h. cc
      | false ↦ λ h. (k, refl, h)
    ] e

-- a token whose tests give a place has a lead there
pub place_led : (w : ℕ) (s : State) (token : ReadToken) (p : Option Place) → Ok p ≡ place_answer w s token → Ok p ≡ lead_at w s token
place_led w s token p h =
    go (lead_at w s token) (passed_value untold (token_tests w s token) _ p h)
    (passed_in untold (token_tests w s token) _ p h (not (eqb token.number s.number) || is_err (lead_at w s token), WrongToken) (inr (inl refl)))
  where
    go : (l : Result (Option Place) Astray) → p ≡ place_in l → (not (eqb token.number s.number) || is_err l) ≡ false → Ok p ≡ l
    go (Ok o) e n = ap Ok e
    go (Err a) e n = absurd (over (not (eqb token.number s.number)) n)
      where
        over : (b : Bool) → (b || true) ≡ false → ⊥
        over true m = cc
        over false m = cc

-- at the place that is due a record stands
pub due_stands : (w : ℕ) (s : State) (token : ReadToken) (x : Place) → Ok (Some x) ≡ place_answer w s token → Stands s.contents x
due_stands w s token x h =
    let k = lead_sheet w s token.position (get_or s.sheets token.sheet None) (Some x) (place_led w s token (Some x) h) in
    strip_stands w s.contents k.0.root token.position x k.2

-- a sheet that is left of the one at a token's entry, by a test that readings of it are out
pub led : {F : Type 0} (bytes : F → List ℕ) (w : ℕ) (s : State) (token : ReadToken) (o a : Option (Sheet F)) (x : Sheet F) (Gives : Sheet F → Bool → Type 0) → kept_of bytes o ≡ get_or s.sheets token.sheet None → MatchOption o (a ≡ None) (λ y. (b : Bool) × Gives y b × (a ≡ then_some b y)) → ((y : Sheet F) (b : Bool) → Gives y b → b ≡ not (eqb y.readings 0)) → a ≡ Some x → lead_of w s.contents (bytes x.root) token.position ≡ lead_at w s token
led bytes w s token None a x Gives e h f i = cc
led {F} bytes w s token (Some y) a x Gives e (b, gives, left) f i = go b (f y b gives) (sym left ∙ i) ∙ ap (lead_in w s token.position) e
  where
    go : (b : Bool) → b ≡ not (eqb y.readings 0) → then_some b y ≡ Some x → lead_of w s.contents (bytes x.root) token.position ≡ lead_in w s token.position (kept_of bytes (Some y))
    go false n h = cc
    go true n h =
        let same : x ≡ y = cc in
        ap (λ (z : Sheet F). lead_of w s.contents (bytes z.root) token.position) same
        ∙ ap (λ c. cond c (lead_of w s.contents (bytes y.root) token.position) (Err astray)) n
        ∙ turned (eqb y.readings 0) (lead_of w s.contents (bytes y.root) token.position) (Err astray)
      where
        turned : {A : Type 0} (c : Bool) (p q : A) → cond (not c) p q ≡ cond c q p
        turned true p q = refl
        turned false p q = refl

-- what is due is the text's strip at the position's rank
pub due_in_text : (w : ℕ) (s : State) (token : ReadToken) → 1 ≤ w → DueInText w s token
due_in_text w s token some k e shape whole there = go (lead_at w s token) refl there
  where
    root_of : (k' : Kept) → get_or s.sheets token.sheet None ≡ Some k' → k' ≡ k
    root_of k' h = cc

    go : (l : Result (Option Place) Astray) → lead_at w s token ≡ l → is_err l ≡ false → strip_bytes s (place_in l) ≡ slice_get (text w s.contents k.root) (rank_at w s.contents k.root token.position)
    go (Err a) is n = cc
    go (Ok p) is n =
        let f = lead_sheet w s token.position (get_or s.sheets token.sheet None) p (sym is) in
        let h : Ok p ≡ lead_of w s.contents k.root token.position = f.2 ∙ ap (λ (z : Kept). lead_of w s.contents z.root token.position) (root_of f.0 f.1) in
        elim p as (λ v. Ok v ≡ lead_of w s.contents k.root token.position → strip_bytes s v ≡ slice_get (text w s.contents k.root) (rank_at w s.contents k.root token.position)) [
          | None ↦ λ d.
              let at-end = lead_end w s.contents k.root token.position d in
              let over = ((cursor_reads w s.contents k.root some shape whole).over token.position (inl at-end)).0 at-end in
              sym (slice_get_past (text w s.contents k.root) (rank_at w s.contents k.root token.position) (omega arith))
          | Some x ↦ λ d. sym (strip_reads w s.contents k.root some shape whole token.position x (lead_strip w s.contents k.root token.position x d))
        ] h
