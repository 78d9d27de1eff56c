-- How a search for a fingerprint goes on, record by record and container by container.
use Rattle.std.proofs.Common.{◌≡◌, ℕ, suc, ◌+◌, ◌<◌, ◌≤◌, Bool, true, false, cond, List, [], ◌∷◌, length, get_or, drop, Some, None, Option, sym, refl, ap, ◌∙◌, add-one}
use Rattle.std.proofs.lemmas.List.{at_drop_more, at_drop_all}
use Rattle.keys.specs.Octets.{same_bytes}
use Rattle.records.specs.Records.{Rec, no_record, Contents, place_among, place_from}
use Rattle.records.specs.declared.refusal.Place.{Place}

module _ (f : List ℕ) (c i : ℕ) (rs : List Rec) (later : Option Place) where
  -- the search from index i on, one step further
  step : i < length rs → place_among f c i (drop i rs) later ≡ cond (same_bytes (get_or rs i no_record).fingerprint f) (Some (record { container = c; index = i })) (place_among f c (i + 1) (drop (i + 1) rs) later)
  step h =
      at_drop_more (λ xs. place_among f c i xs later) rs i no_record h
      ∙ ap (λ k. cond (same_bytes (get_or rs i no_record).fingerprint f) (Some (record { container = c; index = i })) (place_among f c k (drop (i + 1) rs) later)) (sym (add-one i))

  pub place_here : i < length rs → same_bytes (get_or rs i no_record).fingerprint f ≡ true → place_among f c i (drop i rs) later ≡ Some (record { container = c; index = i })
  place_here h e = step h ∙ ap (λ b. cond b (Some (record { container = c; index = i })) (place_among f c (i + 1) (drop (i + 1) rs) later)) e

  pub place_more : i < length rs → same_bytes (get_or rs i no_record).fingerprint f ≡ false → place_among f c i (drop i rs) later ≡ place_among f c (i + 1) (drop (i + 1) rs) later
  place_more h e = step h ∙ ap (λ b. cond b (Some (record { container = c; index = i })) (place_among f c (i + 1) (drop (i + 1) rs) later)) e

  pub place-all : length rs ≤ i → place_among f c i (drop i rs) later ≡ later
  place-all h = at_drop_all (λ xs. place_among f c i xs later) rs i h

-- what is found in a container, or else later
abbrev pub or_later : Option Place → Option Place → Option Place
or_later None later = later
or_later (Some p) later = Some p

or_cond : (b : Bool) (x y later : Option Place) → or_later (cond b x y) later ≡ cond b (or_later x later) (or_later y later)
or_cond true x y later = refl
or_cond false x y later = refl

pub place_later : (f : List ℕ) (c i : ℕ) (rs : List Rec) (later : Option Place) → place_among f c i rs later ≡ or_later (place_among f c i rs None) later
place_later f c i [] later = refl
place_later f c i (r ∷ rs) later =
    ap (λ y. cond (same_bytes r.fingerprint f) (Some (record { container = c; index = i })) y) (place_later f c (suc i) rs later)
    ∙ sym (or_cond (same_bytes r.fingerprint f) (Some (record { container = c; index = i })) (place_among f c (suc i) rs None) later)

module _ (f : List ℕ) (c : ℕ) (cs : Contents) where
  -- the search from container c on, one step further
  from_step : c < length cs → place_from f c (drop c cs) ≡ or_later (place_among f c 0 (get_or cs c []) None) (place_from f (c + 1) (drop (c + 1) cs))
  from_step h =
      at_drop_more (place_from f c) cs c [] h
      ∙ place_later f c 0 (get_or cs c []) (place_from f (suc c) (drop (c + 1) cs))
      ∙ ap (λ k. or_later (place_among f c 0 (get_or cs c []) None) (place_from f k (drop (c + 1) cs))) (sym (add-one c))

  pub from_here : (p : Place) → c < length cs → place_among f c 0 (get_or cs c []) None ≡ Some p → place_from f c (drop c cs) ≡ Some p
  from_here p h e = from_step h ∙ ap (λ y. or_later y (place_from f (c + 1) (drop (c + 1) cs))) e

  pub from_more : c < length cs → place_among f c 0 (get_or cs c []) None ≡ None → place_from f c (drop c cs) ≡ place_from f (c + 1) (drop (c + 1) cs)
  from_more h e = from_step h ∙ ap (λ y. or_later y (place_from f (c + 1) (drop (c + 1) cs))) e

  pub from_all : length cs ≤ c → place_from f c (drop c cs) ≡ None
  from_all h = at_drop_all (place_from f c) cs c h
