-- The record of a fingerprint is the one at its first place.
use Rattle.std.proofs.Common.{◌≡◌, ℕ, suc, ◌+◌, true, false, cond, List, [], ◌∷◌, ◌++◌, length, get_or, Some, None, Option, sym, refl, ap, ◌∙◌, add-one, arith, append_assoc}
use Rattle.std.specs.List.{slice_get}
use Rattle.std.proofs.lemmas.List.{length_push}
use Rattle.keys.specs.Octets.{same_bytes}
use Rattle.records.specs.Records.{Rec, Contents, place_among, place_from, first_place}
use Rattle.records.specs.declared.refusal.Place.{Place}
use Rattle.trees.specs.Holding.{if_some, all, first, record_of, standing}
use Rattle.trees.proofs.Ranks.{nth_middle}

module _ (p : List ℕ) where
  -- old and rs stand in container c of full, and from c + 1 on it goes on as `rest`
  place-among : (full : Contents) (c : ℕ) (old rs rest : List Rec) (later : Option Place) → get_or full c [] ≡ old ++ rs → if_some None (standing full) later ≡ first p rest → if_some None (standing full) (place_among p c (length old) rs later) ≡ first p (rs ++ rest)
  place-among full c old [] rest later h e = e
  place-among full c old (r ∷ rs) rest later h e =
      elim (same_bytes r.fingerprint p) as (λ t. if_some None (standing full) (cond t (Some (record { container = c; index = length old })) (place_among p c (suc (length old)) rs later)) ≡ cond t (Some r) (first p (rs ++ rest))) [
        | true ↦ ap (λ z. slice_get z (length old)) h ∙ nth_middle old r rs
        | false ↦ ap (λ n. if_some None (standing full) (place_among p c n rs later)) (sym (length_push old r ∙ add-one (length old))) ∙ place-among full c (old ++ (r ∷ [])) rs rest later (h ∙ sym (append_assoc old (r ∷ []) rs)) e
      ]

  place_from_lem : (full : Contents) (c : ℕ) (cs : Contents) → ((j : ℕ) → get_or full (c + j) [] ≡ get_or cs j []) → if_some None (standing full) (place_from p c cs) ≡ first p (all cs)
  place_from_lem full c [] h = refl
  place_from_lem full c (rs ∷ cs) h =
      place-among full c [] rs (all cs) (place_from p (suc c) cs) (ap (λ n. get_or full n []) (omega arith) ∙ h 0)
      (place_from_lem full (suc c) cs (λ j. ap (λ n. get_or full n []) (omega arith) ∙ h (suc j)))

  pub place_tells : (cs : Contents) → if_some None (standing cs) (first_place cs p) ≡ record_of cs p
  place_tells cs = place_from_lem cs 0 cs (λ j. ap (λ n. get_or cs n []) (omega arith))
