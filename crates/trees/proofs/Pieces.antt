-- The pieces that a payload is cut into.
use Rattle.std.proofs.Common.{◌≡◌, ℕ, zero, suc, ◌+◌, ◌*◌, ◌/◌, ◌<◌, ◌≤◌, List, length, take, drop, Some, sym, refl, ap, ◌∙◌, ⊎_elim, mul_comm, add-mul, div-mul-le_self, arith, length-drop}
use native.Mathlib.Nat.{mul-div_cancel_left}
use Rattle.std.specs.List.{slice_get}
use Rattle.std.proofs.ByRecursion.{All-take, All-drop}
use Rattle.std.proofs.lemmas.List.{drop-drop, length-take-le}
use Rattle.keys.specs.Octets.{Bytes}
use Rattle.records.specs.Shapes.{Shape}
use Rattle.records.specs.Shapes.Shape.{strip, node}
use Rattle.trees.specs.Holding.{In}
use Rattle.trees.specs.Trees.{pieces, cut}

pub length-pieces : (n w : ℕ) (bytes : List ℕ) → length (pieces n w bytes) ≡ n
length-pieces zero w bytes = refl
length-pieces (suc n) w bytes = ap suc (length-pieces n w (drop w bytes))

pub length_cut : (w : ℕ) (payload : List ℕ) → length (cut w payload) ≡ length payload / w
length_cut w payload = length-pieces (length payload / w) w payload

-- a payload of k pieces
pub cut-count : (w k : ℕ) (payload : List ℕ) → 1 ≤ w → length payload ≡ k * w → length (cut w payload) ≡ k
cut-count w k payload some e =
    length_cut w payload ∙ ap (λ n. n / w) (e ∙ mul_comm k w) ∙ mul-div_cancel_left k {n = w} (omega arith)

-- the number of a node's children
pub node_count : (w level : ℕ) (payload : List ℕ) → 1 ≤ w → 1 ≤ level → Shape w level (length payload) → (1 ≤ length (cut w payload)) × (length (cut w payload) ≤ 64)
node_count w level payload some low (strip lo hi) = absurd (omega arith)
node_count w level payload some low (node lo hi k one few e) =
    let c = cut-count w k payload some e in
    (omega arith, omega arith)

nth_pieces : (n w : ℕ) (bytes : List ℕ) (i : ℕ) → i < n → slice_get (pieces n w bytes) i ≡ Some (take w (drop (i * w) bytes))
nth_pieces zero w bytes i h = absurd (omega arith)
nth_pieces (suc n) w bytes zero h = ap (λ k. Some (take w (drop k bytes))) {x = 0} {y = 0 * w} (omega arith)
nth_pieces (suc n) w bytes (suc i) h =
    nth_pieces n w (drop w bytes) i (omega arith)
    ∙ ap (λ xs. Some (take w xs)) (drop-drop (i * w) w bytes)
    ∙ ap (λ k. Some (take w (drop k bytes))) {x = w + i * w} {y = suc i * w} (omega (arith, add-mul i 1 w))

-- the piece at an index
pub nth_cut : (w : ℕ) (payload : List ℕ) (i : ℕ) → i < length payload / w → slice_get (cut w payload) i ≡ Some (take w (drop (i * w) payload))
nth_cut w payload i h = nth_pieces (length payload / w) w payload i h

piece_typed : (n w : ℕ) (bytes q : List ℕ) → n * w ≤ length bytes → Bytes bytes → In q (pieces n w bytes) → (length q ≡ w) × Bytes q
piece_typed zero w bytes q space octets i = elim i [ ]
piece_typed (suc n) w bytes q space octets i =
    let step : n * w + w ≤ length bytes = omega (arith, add-mul n 1 w) in
    ⊎_elim
    (λ (e : q ≡ take w bytes). (ap length e ∙ length-take-le w bytes (omega arith), subst_bytes (sym e) (All-take (λ b. b < 256) w bytes octets)))
    (λ (j : In q (pieces n w (drop w bytes))). piece_typed n w (drop w bytes) q (simp length-drop (omega arith)) (All-drop (λ b. b < 256) w bytes octets) j) i
  where
    subst_bytes : {x y : List ℕ} → x ≡ y → Bytes x → Bytes y
    subst_bytes {x} {y} e h = let P : List ℕ → Type 0 = λ z. Bytes z in rw (sym e) h

-- each piece is of w bytes
pub cut_typed : (w : ℕ) (payload q : List ℕ) → Bytes payload → In q (cut w payload) → (length q ≡ w) × Bytes q
cut_typed w payload q octets i = piece_typed (length payload / w) w payload q (div-mul-le_self (length payload) w) octets i
