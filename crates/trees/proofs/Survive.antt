-- A tree whose reached records stand is whole as before, with the same text.
use Rattle.std.proofs.Common.{◌≡◌, ℕ, zero, suc, List, [], ◌∷◌, ◌++◌, Some, sym, refl, ap, ◌∙◌, subst, ap₂, inl, inr, arith}
use Rattle.std.specs.List.{flat_map}
use Rattle.records.specs.Records.{Rec, Contents}
use Rattle.trees.specs.Holding.{In, record_of}
use Rattle.trees.specs.Trees.{cut, Reaches, Whole, level_of, payload_of, children, text_at, text}
use Rattle.trees.specs.Trees.Reaches.{itself, onward}

pub joined_same : {X A : Type 0} (f g : X → List A) (xs : List X) → ((x : X) → In x xs → f x ≡ g x) → flat_map f xs ≡ flat_map g xs
joined_same f g [] h = refl
joined_same f g (x ∷ xs) h = ap₂ (λ a b. a ++ b) (h x (inl refl)) (joined_same f g xs (λ y i. h y (inr i)))

module _ (w : ℕ) (cs cs' : Contents) (root : List ℕ) (agree : (p : List ℕ) → Reaches w cs root p → record_of cs' p ≡ record_of cs p) where
  pub reached-before : (p : List ℕ) → Reaches w cs' root p → Reaches w cs root p
  reached-before _ itself = itself
  reached-before _ (onward {p} h r e l i) =
      let g = reached-before p h in
      onward g r (sym (agree p g) ∙ e) l i

  text-at_survives : Whole w cs root → (n : ℕ) (p : List ℕ) (r : Rec) → Reaches w cs root p → record_of cs p ≡ Some r → r.level ≡ n → text_at w cs' n p ≡ text_at w cs n p
  text-at_survives whole zero p r h e l = ap (λ o. payload_of o ∷ []) (agree p h)
  text-at_survives whole (suc n) p r h e l =
      ap (λ o. flat_map (text_at w cs' n) (cut w (payload_of o))) (agree p h)
      ∙ joined_same (text_at w cs' n) (text_at w cs n) (children w cs p) (λ q i.
      let j : In q (cut w r.payload) = subst (λ o. In q (cut w (payload_of o))) e i in
      let c = whole.below p q r h e (omega arith) j in
      text-at_survives whole n q c.0 (onward h r e (omega arith) j) c.1 (omega (arith, c.2)))

  pub text_survives : Whole w cs root → Whole w cs' root × (text w cs' root ≡ text w cs root)
  text_survives whole =
      let t = whole.top in (
        record {
          top = (t.0, agree root itself ∙ t.1, t.2);
          below = λ p q r h e l i.
              let g = reached-before p h in
              let f = sym (agree p g) ∙ e in
              let c = whole.below p q r g f l i in
              (c.0, agree q (onward g r f l i) ∙ c.1, c.2);
        },
        ap (λ o. text_at w cs' (level_of o) root) (agree root itself)
            ∙ text-at_survives whole (level_of (record_of cs root)) root t.0 itself t.1 (sym (ap level_of t.1)),
      )
