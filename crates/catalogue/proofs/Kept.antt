-- A search along the entries is one along what they keep.
use Rattle.std.proofs.Common.{◌≡◌, ℕ, ◌+◌, Bool, cond, not, ltb, List, [], ◌∷◌, map, Some, None, Option, is_none, sym, refl}
use Rattle.std.specs.List.{position, position_or_len}
use Rattle.std.proofs.lemmas.List.{length-map}
use Rattle.catalogue.specs.Names.{spelled}
use Rattle.catalogue.specs.Sheets.{kept_of, kept_all, is_named, entry_of, vacant_entry}
use Rattle.catalogue.specs.declared.sheet.Sheet.{Sheet}

-- a test of what f gives of each element stops where one of the elements does
module _ {X Y : Type 0} (f : X → Y) (p : X → Bool) (q : Y → Bool) (same : (x : X) → p x ≡ q (f x)) where
  place_map : (xs : List X) → position_or_len p xs ≡ position_or_len q (map f xs)
  place_map [] = refl
  place_map (x ∷ xs) = (λ i. cond (not (same x i)) (1 + place_map xs i) 0)

  position_map : (xs : List X) → position p xs ≡ position q (map f xs)
  position_map xs = (λ i. cond (ltb (place_map xs i) (sym (length-map xs f) i)) (Some (place_map xs i)) None)

module _ {F : Type 0} (bytes : F → List ℕ) (es : List (Option (Sheet F))) where
  named_kept : (name : List ℕ) (e : Option (Sheet F)) → is_named (λ s. spelled s.name) name e ≡ is_named (λ k. k.name) name (kept_of bytes e)
  named_kept name None = refl
  named_kept name (Some s) = refl

  vacant_kept : (e : Option (Sheet F)) → is_none e ≡ is_none (kept_of bytes e)
  vacant_kept None = refl
  vacant_kept (Some s) = refl

  -- the sheet of a name is found by what is kept
  pub entry_of_kept : (name : List ℕ) → entry_of (λ s. spelled s.name) name es ≡ entry_of (λ k. k.name) name (kept_all bytes es)
  entry_of_kept name = position_map (kept_of bytes) _ _ (named_kept name) es

  -- and so is an empty entry
  pub vacant_entry_kept : vacant_entry es ≡ vacant_entry (kept_all bytes es)
  vacant_entry_kept = position_map (kept_of bytes) _ _ vacant_kept es
