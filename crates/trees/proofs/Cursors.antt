-- A cursor reads the text of a whole tree, and goes on reading it wherever the reached records stand.
use Rattle.std.proofs.Common.{◌≡◌, ℕ, zero, suc, ◌+◌, ◌*◌, ◌/◌, ◌%◌, ◌≤◌, cond, eqb, List, [], ◌∷◌, ◌++◌, map, length, take, Some, None, Option, sym, refl, ap, ◌∙◌, subst, ap₂, inl, inr, ⊎_elim, arith}
use Rattle.std.specs.List.{slice_get, flat_map}
use Rattle.std.proofs.lemmas.List.{map-append, length-map}
use Rattle.records.specs.Records.{Rec, Contents}
use Rattle.trees.specs.Holding.{In, if_some, all, record_of}
use Rattle.trees.specs.Trees.{cut, Reaches, Whole, level_of, payload_of, children, text_at, text, Shaped}
use Rattle.trees.specs.Trees.Reaches.{itself, onward}
use Rattle.trees.specs.Cursor.{span, strips, seek, next, before, rank, Fit}
use Rattle.trees.proofs.Finding.{first_in}
use Rattle.trees.proofs.Pieces.{node_count}
use Rattle.trees.proofs.Survive.{joined_same}
use Rattle.trees.specs.Reading.{strip_at, next_at, rank_at, Reads}
use Rattle.trees.proofs.Steps.{nth_in, seek_start, seek_end}
use Rattle.trees.proofs.Ranks.{rank_start, rank_end, rank-next, rank_reads, next_in_tree, rank_below}

map_joined : {X A B : Type 0} (g : A → B) (f : X → List A) (xs : List X) → map g (flat_map f xs) ≡ flat_map (λ x. map g (f x)) xs
map_joined g f [] = refl
map_joined g f (x ∷ xs) = map-append g (f x) (flat_map f xs) ∙ ap (λ z. map g (f x) ++ z) (map_joined g f xs)

pub nth_map : {A B : Type 0} (g : A → B) (xs : List A) (i : ℕ) (x : A) → slice_get xs i ≡ Some x → slice_get (map g xs) i ≡ Some (g x)
nth_map g [] i x e = absurd (let z : ◌≡◌ {A = ℕ} 0 1 = cc in omega arith)
nth_map g (y ∷ xs) zero x e = let s : y ≡ x = cc in ap (λ z. Some (g z)) s
nth_map g (y ∷ xs) (suc i) x e = nth_map g xs i x e

module _ (w : ℕ) (cs : Contents) where
  -- a text is the payloads of the strips
  pub text-strips : (n : ℕ) (p : List ℕ) → text_at w cs n p ≡ map (λ q. payload_of (record_of cs q)) (strips (children w cs) n p)
  text-strips zero p = refl
  text-strips (suc n) p =
      joined_same (text_at w cs n) (λ q. map (λ z. payload_of (record_of cs z)) (strips (children w cs) n q)) (children w cs p) (λ q i. text-strips n q)
      ∙ sym (map_joined (λ z. payload_of (record_of cs z)) (strips (children w cs) n) (children w cs p))

  -- in a whole tree each node has 1 to 64 children
  pub whole_fit : 1 ≤ w → Shaped w cs → (root : List ℕ) → Whole w cs root → (n : ℕ) (p : List ℕ) (r : Rec) → Reaches w cs root p → record_of cs p ≡ Some r → r.level ≡ n → Fit (children w cs) n p
  whole_fit some shape root whole zero p r g e l = tt
  whole_fit some shape root whole (suc n) p r g e l =
      let s = node_count w r.level r.payload some (omega arith) (shape r (first_in p r (all cs) e).0) in
      let is : children w cs p ≡ cut w r.payload = ap (λ o. cut w (payload_of o)) e in (
        subst (λ (qs : List (List ℕ)). 1 ≤ length qs) (sym is) s.0,
        subst (λ (qs : List (List ℕ)). length qs ≤ 64) (sym is) s.1,
        λ q i.
            let j : In q (cut w r.payload) = subst (λ (qs : List (List ℕ)). In q qs) is i in
            let c = whole.below p q r g e (omega arith) j in
            whole_fit some shape root whole n q c.0 (onward g r e (omega arith) j) c.1 (omega (arith, c.2)),
      )

if_same : {X Y : Type 0} (d : Y) (f g : X → Y) (o : Option X) → ((x : X) → o ≡ Some x → f x ≡ g x) → if_some d f o ≡ if_some d g o
if_same d f g None h = refl
if_same d f g (Some x) h = h x refl

-- two ways to tell children that agree on the tree
abbrev Alike : (List ℕ → List (List ℕ)) → (List ℕ → List (List ℕ)) → ℕ → List ℕ → Type 0
Alike kids kids' zero p = Unit {0}
Alike kids kids' (suc n) p = (kids' p ≡ kids p) × ((q : List ℕ) → In q (kids p) → Alike kids kids' n q)

module _ (kids kids' : List ℕ → List (List ℕ)) where
  seek_alike : (n : ℕ) (p : List ℕ) (at : ℕ) → Alike kids kids' n p → seek kids' n p at ≡ seek kids n p at
  seek_alike zero p at h = refl
  seek_alike (suc n) p at h =
      ap (λ qs. if_some None (λ q. seek kids' n q (at % span n)) (slice_get qs (at / span n))) h.0
      ∙ if_same None (λ q. seek kids' n q (at % span n)) (λ q. seek kids n q (at % span n)) (slice_get (kids p) (at / span n))
      (λ q e. seek_alike n q (at % span n) (h.1 q (nth_in (kids p) (at / span n) q e)))

  next_alike : (n : ℕ) (p : List ℕ) (at : ℕ) → Alike kids kids' n p → next kids' n p at ≡ next kids n p at
  next_alike zero p at h = refl
  next_alike (suc n) p at h =
      let to : ℕ → ℕ → ℕ = λ m b. cond (eqb ((at / span n) * span n + b) (m * span n)) (span (suc n)) ((at / span n) * span n + b) in
      ap (λ qs. if_some (span (suc n)) (λ q. to (length qs) (next kids' n q (at % span n))) (slice_get qs (at / span n))) h.0
      ∙ if_same (span (suc n)) (λ q. to (length (kids p)) (next kids' n q (at % span n))) (λ q. to (length (kids p)) (next kids n q (at % span n))) (slice_get (kids p) (at / span n))
      (λ q e. ap (to (length (kids p))) (next_alike n q (at % span n) (h.1 q (nth_in (kids p) (at / span n) q e))))

  strips_alike : (n : ℕ) (p : List ℕ) → Alike kids kids' n p → strips kids' n p ≡ strips kids n p
  strips_alike zero p h = refl
  strips_alike (suc n) p h =
      ap (λ qs. flat_map (strips kids' n) qs) h.0
      ∙ joined_same (strips kids' n) (strips kids n) (kids p) (λ q i. strips_alike n q (h.1 q i))

  before_alike : (n : ℕ) (p : List ℕ) (at : ℕ) → Alike kids kids' n p → before kids' n p at ≡ before kids n p at
  before_alike zero p at h = refl
  before_alike (suc n) p at h =
      ap (λ qs. flat_map (strips kids' n) (take (at / span n) qs) ++ if_some [] (λ q. before kids' n q (at % span n)) (slice_get qs (at / span n))) h.0
      ∙ ap₂ (λ u v. u ++ v)
      (joined_same (strips kids' n) (strips kids n) (take (at / span n) (kids p)) (λ q i. strips_alike n q (h.1 q (in_take q (at / span n) (kids p) i))))
      (if_same [] (λ q. before kids' n q (at % span n)) (λ q. before kids n q (at % span n)) (slice_get (kids p) (at / span n))
      (λ q e. before_alike n q (at % span n) (h.1 q (nth_in (kids p) (at / span n) q e))))
    where
      in_take : {X : Type 0} (x : X) (i : ℕ) (xs : List X) → In x (take i xs) → In x xs
      in_take x zero xs h = elim h [ ]
      in_take x (suc i) [] h = elim h [ ]
      in_take x (suc i) (y ∷ xs) h = ⊎_elim (λ e. inl e) (λ j. inr (in_take x i xs j)) h

module _ (w : ℕ) (cs cs' : Contents) (root : List ℕ) (agree : (p : List ℕ) → Reaches w cs root p → record_of cs' p ≡ record_of cs p) (whole : Whole w cs root) where
  alike : (n : ℕ) (p : List ℕ) (r : Rec) → Reaches w cs root p → record_of cs p ≡ Some r → r.level ≡ n → Alike (children w cs) (children w cs') n p
  alike zero p r g e l = tt
  alike (suc n) p r g e l = (
    ap (λ o. cut w (payload_of o)) (agree p g),
    λ q i.
        let j : In q (cut w r.payload) = subst (λ (o : Option Rec). In q (cut w (payload_of o))) e i in
        let c = whole.below p q r g e (omega arith) j in
        alike n q c.0 (onward g r e (omega arith) j) c.1 (omega (arith, c.2)),
  )

  pub cursor_survives : (at : ℕ) → (strip_at w cs' root at ≡ strip_at w cs root at) × (next_at w cs' root at ≡ next_at w cs root at) × (rank_at w cs' root at ≡ rank_at w cs root at)
  cursor_survives at =
      let t = whole.top in
      let n : ℕ = level_of (record_of cs root) in
      let a = alike n root t.0 itself t.1 (sym (ap level_of t.1)) in
      let l : level_of (record_of cs' root) ≡ n = ap level_of (agree root itself) in (
        ap (λ z. seek (children w cs') z root at) l ∙ seek_alike (children w cs) (children w cs') n root at a,
        ap (λ z. next (children w cs') z root at) l ∙ next_alike (children w cs) (children w cs') n root at a,
        ap (λ z. rank (children w cs') z root at) l ∙ ap length (before_alike (children w cs) (children w cs') n root at a),
      )

module _ (w : ℕ) (cs : Contents) (root : List ℕ) (some : 1 ≤ w) (shape : Shaped w cs) (whole : Whole w cs root) where
  pub cursor_reads : Reads w cs root
  cursor_reads =
      let t = whole.top in
      let kids : List ℕ → List (List ℕ) = children w cs in
      let n : ℕ = level_of (record_of cs root) in
      let f = whole_fit w cs some shape root whole n root t.0 itself t.1 (sym (ap level_of t.1)) in
      let spelled = text-strips w cs n root in
      let long : length (text w cs root) ≡ length (strips kids n root) = ap length spelled ∙ length-map (strips kids n root) (λ q. payload_of (record_of cs q)) in
      record {
        start = rank_start kids n root f;
        opening = seek_start kids n root f;
        gives = λ at p e. ap (λ z. slice_get z (rank_at w cs root at)) spelled ∙ nth_map (λ q. payload_of (record_of cs q)) (strips kids n root) (rank_at w cs root at) p (rank_reads kids n root f at p e);
        moves = λ at p e. (next_in_tree kids n root f at p e, rank-next kids n root f at p e);
        closing = seek_end kids n root f;
        over = λ at i. (
          λ e. ap (rank_at w cs root) e ∙ rank_end kids n root f ∙ sym long,
          λ e. ⊎_elim (λ z. z) (λ z. absurd (omega (arith, rank_below kids n root f at z.1.0 z.1.1))) i,
        );
      }
