-- The keys of slots, as a list of their own.
use Rattle.std.proofs.Common.{◌≡◌, ℕ, zero, suc, List, length, get_or, set, replicate, Some, None, sym, refl, ap, ◌∙◌}
use Rattle.std.proofs.lemmas.List.{length-map, map-set, set-get_or}
use Rattle.slots.specs.Walks.{key_of, keys_of}
use Rattle.slots.specs.Tables.{filled, put, placed}
use Rattle.slots.specs.declared.slot.Slot.{Slot}
use Rattle.slots.specs.declared.slot.Slot.TheVariants.{Empty, Plain, Marked}
use Rattle.slots.specs.declared.probe.Probe.{Probe}
use Rattle.slots.specs.declared.probe.Probe.TheVariants.{Found, Free, Full}

module _ {K : Type 0} where
  pub keys_length : (slots : List (Slot K)) → length (keys_of slots) ≡ length slots
  keys_length slots = length-map slots key_of

  pub keys_put : (r : Probe) (k : K) (slots : List (Slot K)) → keys_of (put r k slots) ≡ placed r k (keys_of slots)
  keys_put (Found i) k slots = refl
  keys_put (Free i) k slots = map-set key_of slots i (Plain k)
  keys_put Full k slots = refl

  -- a walk that ended at no empty slot puts nothing
  pub put_none : (r : Probe) (k : K) (slots : List (Slot K)) → ((i : ℕ) → r ≡ Free i → ⊥) → slots ≡ put r k slots
  put_none (Found i) k slots n = refl
  put_none (Free i) k slots n = absurd (n i refl)
  put_none Full k slots n = refl

  pub keys_mark : (slots : List (Slot K)) (i : ℕ) (k : K) → get_or (keys_of slots) i None ≡ Some k → keys_of (set slots i (Marked k)) ≡ keys_of slots
  keys_mark slots i k e = map-set key_of slots i (Marked k) ∙ ap (λ v. set (keys_of slots) i v) (sym e) ∙ set-get_or (keys_of slots) i None

pub empty_filled : (K : Type 0) (n : ℕ) → filled (keys_of (replicate {A = Slot K} n Empty)) ≡ 0
empty_filled K zero = refl
empty_filled K (suc n) = empty_filled K n
