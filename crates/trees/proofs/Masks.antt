-- A verdict's ones are the survivors.
use Rattle.std.proofs.Common.{◌≡◌, ℕ, ◌+◌, ◌^◌, ◌<◌, Bool, true, false, cond, List, [], ◌∷◌, ◌++◌, length, refl, ◌∙◌, ap₂, pow-suc, arith}
use lib.Count.{ones, ones_in, ones_step}
use Rattle.std.proofs.lemmas.Nat.{div-mul-add, mod-mul-add}
use Rattle.trees.specs.Clearing.{spared, mask_of}

bit_small : (v : Bool) → cond {A = ℕ} v 1 0 < 2
bit_small true = omega arith
bit_small false = omega arith

ones_mask : (v : Bool) (vs : List Bool) → ones (mask_of (v ∷ vs)) ≡ cond v 1 0 + ones (mask_of vs)
ones_mask v vs =
    ones_step (mask_of (v ∷ vs))
    ∙ ap₂ (λ a b. a + ones b) (mod-mul-add (mask_of vs) 2 (cond v 1 0) (bit_small v)) (div-mul-add (mask_of vs) 2 (cond v 1 0) (bit_small v))

-- the number of a verdict's ones is the number of survivors
pub ones_spared : {X : Type 0} (vs : List Bool) (rs : List X) → length vs ≡ length rs → ones (mask_of vs) ≡ length (spared vs rs)
unfolding ones ones_in
ones_spared [] rs e = refl
ones_spared (v ∷ vs) [] e = absurd (omega arith)
ones_spared (true ∷ vs) (r ∷ rs) e = ones_mask true vs ∙ omega (arith, ones_spared vs rs (omega arith))
ones_spared (false ∷ vs) (r ∷ rs) e = ones_mask false vs ∙ omega (arith, ones_spared vs rs (omega arith))

-- one more record's verdict, behind the others
pub mask_push : (vs : List Bool) (v : Bool) → mask_of (vs ++ (v ∷ [])) ≡ mask_of vs + cond v (2 ^ length vs) 0
mask_push [] true = refl
mask_push [] false = refl
mask_push (first ∷ vs) true = omega (arith, mask_push vs true, pow-suc 2 (length vs))
mask_push (first ∷ vs) false = omega (arith, mask_push vs false)
