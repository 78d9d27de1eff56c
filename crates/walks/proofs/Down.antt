-- One level down a tree: from a node to its child, and from the positions of a level to those of the level below.
use Rattle.std.proofs.Common.{◌≡◌, ℕ, zero, suc, ◌+◌, ◌*◌, ◌/◌, ◌%◌, ◌^◌, ◌≤◌, true, false, cond, eqb, List, length, Some, None, Option, MatchOption, sym, refl, ap, ◌∙◌, ap₂, mul_comm, pow-suc, arith}
use Rattle.std.specs.List.{slice_get}
use Rattle.std.specs.Result.{result_unwrap_or}
use Rattle.std.proofs.lemmas.Nat.{mul-le}
use Rattle.std.proofs.lemmas.Option.{slice_get_within}
use Rattle.std.proofs.lemmas.Bool.{cond-true, cond-false, eq-eqb, ne_eqb}
use Rattle.keys.specs.Octets.{Bytes}
use Rattle.records.specs.Records.{Rec, Contents, first_place}
use Rattle.records.specs.declared.refusal.Place.{Place}
use Rattle.devices.specs.Questions.{of_record}
use Rattle.trees.specs.Cursor.{span, seek, next}
use Rattle.trees.specs.Holding.{if_some, record_of, standing}
use Rattle.trees.specs.Trees.{cut, children, level_of, payload_of}
use Rattle.trees.proofs.Pieces.{cut_typed}
use Rattle.trees.proofs.Places.{place_tells}
use Rattle.trees.proofs.Steps.{span_pos, nth_in}
use Rattle.walks.specs.Descents.{as_key}
use Rattle.walks.proofs.Grounds.{Ground}
use Rattle.walks.proofs.Told.{asked, none_cut, typed_at}

-- the record at the first place of a fingerprint
pub record_there : (cs : Contents) (p : List ℕ) (o : Option Place) → o ≡ first_place cs p → if_some None (standing cs) o ≡ record_of cs p
record_there cs p o e = ap (if_some None (standing cs)) e ∙ place_tells p cs

-- the level of the record at the first place of a fingerprint, as a device tells it
pub level_told : (cs : Contents) (p : List ℕ) (o : Option Place) → o ≡ first_place cs p → (n : ℕ) (Gives : Place → Type 0) → MatchOption o (n ≡ 0) Gives → ((x : Place) → Gives x → n ≡ result_unwrap_or (of_record (λ r. r.level) cs x) 0) → n ≡ level_of (record_of cs p)
level_told cs p None e n Gives h f = h ∙ ap level_of (record_there cs p None e)
level_told cs p (Some x) e n Gives h f = f x h ∙ asked cs x (λ r. r.level) 0 _ refl ∙ level (standing cs x) ∙ ap level_of (record_there cs p (Some x) e)
  where
    level : (r : Option Rec) → if_some 0 (λ r. r.level) r ≡ level_of r
    level None = refl
    level (Some r) = refl

-- the space of a level is a power of 64
pub span_pow : (n : ℕ) → 64 ^ n ≡ span n
span_pow zero = refl
span_pow (suc n) = pow-suc 64 n ∙ mul_comm (64 ^ n) 64 ∙ ap (λ x. 64 * x) (span_pow n)

span_le : (n m : ℕ) → n ≤ m → span n ≤ span m
span_le zero m l = omega (arith, span_pos m)
span_le (suc n) zero l = absurd (omega arith)
span_le (suc n) (suc m) l = omega (arith, span_le n m (omega arith))

-- a position has 36 bits, and the end is one more
pub span_small : (n : ℕ) → n ≤ 6 → span n ≤ 0x10_0000_0000
span_small n l = span_le n 6 l

-- from level n to m just below, whose space is b
module _ {P : Type 0} (kids : P → List P) (n m b : ℕ) (e : n ≡ suc m) (s : b ≡ span m) (p : P) (at : ℕ) where
  pub seek_down : (o : Option P) → o ≡ slice_get (kids p) (at / b) → seek kids n p at ≡ if_some None (λ q. seek kids m q (at % b)) o
  seek_down o is =
      ap (λ k. seek kids k p at) e
      ∙ sym (ap₂ (λ x y. if_some None (λ q. seek kids m q (at % x)) y) s (is ∙ ap (λ x. slice_get (kids p) (at / x)) s))

  pub next_down : (end : ℕ) → end ≡ length (kids p) * b → (o : Option P) → o ≡ slice_get (kids p) (at / b) → next kids n p at ≡ if_some (span n) (λ q. cond (eqb (at / b * b + next kids m q (at % b)) end) (span n) (at / b * b + next kids m q (at % b))) o
  next_down end l o is =
      let to : ℕ → ℕ → ℕ → P → ℕ = λ r x c q. cond (eqb (at / x * x + next kids m q (at % x)) c) r (at / x * x + next kids m q (at % x)) in
      ap (λ k. next kids k p at) e
      ∙ sym (ap₂ (λ r x. if_some r (to r x end) o) (ap span e) s
      ∙ ap₂ (λ c y. if_some (span (suc m)) (to (span (suc m)) (span m) c) y) (l ∙ ap (λ x. length (kids p) * x) s) (is ∙ ap (λ x. slice_get (kids p) (at / x)) s))

-- where a step from a child to the position x comes to: behind the last child to the end of the space, else to x
pub record Stepped (next x last space : ℕ) : Type 0 where
  pub end : x ≡ last → space ≡ next
  pub on : (x ≡ last → ⊥) → x ≡ next
  pub small : x ≤ 128 * space

module _ {K : Type 0} (on : Ground K) where
  abbrev bytes : K → List ℕ
  bytes = on.bytes

  abbrev key : List ℕ → K
  key = on.key

  abbrev w : ℕ
  w = on.w

  abbrev cs : Contents
  cs = on.cs

  -- a child that was read has the bytes of its piece
  pub piece_bytes : (payload : List ℕ) → Bytes payload → (i : ℕ) (child : K) → Some child ≡ as_key key (slice_get (cut w payload) i) → Some (bytes child) ≡ slice_get (cut w payload) i
  piece_bytes payload octets i child e = go (slice_get (cut w payload) i) refl e
    where
      go : (o : Option (List ℕ)) → slice_get (cut w payload) i ≡ o → Some child ≡ as_key key o → Some (bytes child) ≡ o
      go None n h = absurd (let z : ◌≡◌ {A = ℕ} 0 1 = cc in omega arith)
      go (Some q) n h =
          let c = cut_typed w payload q octets (nth_in (cut w payload) i q n) in
          let is : child ≡ key q = cc in
          ap Some (ap bytes is ∙ on.any q c.0 c.1)

  -- what a device tells of a record is of bytes
  listed-bytes : (x : Place) (o : Option Rec) → standing cs x ≡ o → Bytes (payload_of o)
  listed-bytes x None e = tt
  listed-bytes x (Some r) e = (typed_at cs x w on.held r e).payload

  module _ (p : List ℕ) (i : ℕ) where
    pub no_place : None ≡ first_place cs p → None ≡ slice_get (children w cs p) i
    no_place e = sym (ap (λ o. slice_get (cut w (payload_of o)) i) (sym (record_there cs p None e)) ∙ (none_cut w i).1)

    module _ (x : Place) (e : Some x ≡ first_place cs p) where
      pub listed_at : cut w (payload_of (standing cs x)) ≡ children w cs p
      listed_at = ap (λ o. cut w (payload_of o)) (record_there cs p (Some x) e)

      pub no_child : None ≡ as_key key (slice_get (cut w (payload_of (standing cs x))) i) → None ≡ slice_get (children w cs p) i
      no_child h = nothing (slice_get (cut w (payload_of (standing cs x))) i) h ∙ ap (λ qs. slice_get qs i) listed_at
        where
          nothing : (o : Option (List ℕ)) → None ≡ as_key key o → None ≡ o
          nothing None h = refl
          nothing (Some q) h = absurd (let z : ◌≡◌ {A = ℕ} 0 1 = cc in omega arith)

      pub the_child : (child : K) → Some child ≡ as_key key (slice_get (cut w (payload_of (standing cs x))) i) → Some (bytes child) ≡ slice_get (children w cs p) i
      the_child child h = piece_bytes (payload_of (standing cs x)) (listed-bytes x (standing cs x) refl) i child h ∙ ap (λ qs. slice_get qs i) listed_at

  -- the place of what stands at a position
  abbrev strip : ℕ → List ℕ → ℕ → Option Place
  strip n p at = if_some None (first_place cs) (seek (children w cs) n p at)

  -- a fingerprint that is not stored has no strips
  pub strip_no_place : (n : ℕ) (p : List ℕ) (at : ℕ) → None ≡ first_place cs p → None ≡ strip n p at
  strip_no_place zero p at none =
      elim (eqb at 0) as (λ b. None ≡ if_some None (first_place cs) (cond b (Some p) None)) [ true ↦ none | false ↦ refl ]
  strip_no_place (suc m) p at none =
      sym (ap (if_some None (first_place cs)) (seek_down (children w cs) (suc m) m (span m) refl refl p at None (no_place p (at / span m) none)))

  -- a node at level n, and the level m just below, whose space is b
  module _ (p : List ℕ) (n m b at : ℕ) (e : n ≡ suc m) (s : b ≡ span m) where
    next_to : (end : ℕ) → end ≡ length (children w cs p) * b → (o : Option (List ℕ)) → o ≡ slice_get (children w cs p) (at / b) → next (children w cs) n p at ≡ if_some (span n) (λ q. cond (eqb (at / b * b + next (children w cs) m q (at % b)) end) (span n) (at / b * b + next (children w cs) m q (at % b))) o
    next_to end l o is = next_down (children w cs) n m b e s p at end l o is

    pub next_no_place : None ≡ first_place cs p → span n ≡ next (children w cs) n p at
    next_no_place none = sym (next_to _ refl None (no_place p (at / b) none))

    module _ (x : Place) (there : Some x ≡ first_place cs p) where
      strip_to : (o : Option (List ℕ)) → o ≡ slice_get (children w cs p) (at / b) → strip n p at ≡ if_some None (first_place cs) (if_some None (λ q. seek (children w cs) m q (at % b)) o)
      strip_to o is = ap (if_some None (first_place cs)) (seek_down (children w cs) n m b e s p at o is)

      module _ (none : None ≡ as_key key (slice_get (cut w (payload_of (standing cs x))) (at / b))) where
        pub strip_no_child : None ≡ strip n p at
        strip_no_child = sym (strip_to None (no_child p (at / b) x there none))

        pub next_no_child : span n ≡ next (children w cs) n p at
        next_no_child = sym (next_to _ refl None (no_child p (at / b) x there none))

      module _ (child : K) (is : Some child ≡ as_key key (slice_get (cut w (payload_of (standing cs x))) (at / b))) where
        this : Some (bytes child) ≡ slice_get (children w cs p) (at / b)
        this = the_child p (at / b) x there child is

        pub strip_child : strip m (bytes child) (at % b) ≡ strip n p at
        strip_child = sym (strip_to (Some (bytes child)) this)

        module _ (count y : ℕ) (l : count ≡ length (cut w (payload_of (standing cs x)))) (h : y ≡ next (children w cs) m (bytes child) (at % b)) where
          counted : count ≡ length (children w cs p)
          counted = l ∙ ap length (listed_at p (at / b) x there)

          next_is : next (children w cs) n p at ≡ cond (eqb (at / b * b + y) (count * b)) (span n) (at / b * b + y)
          next_is = next_to (count * b) (ap (λ c. c * b) counted) (Some (bytes child)) this ∙ ap (λ z. cond (eqb (at / b * b + z) (count * b)) (span n) (at / b * b + z)) (sym h)

          -- no position passes 128 times the space, also where a broken record has 7168 children
          within : count ≤ 7168 → y ≤ 128 * span m → at / b * b + y ≤ 128 * span n
          within few small =
              let u = slice_get_within (children w cs p) (at / b) (bytes child) (sym this) in
              let i : at / b ≤ 7167 = omega (arith, counted) in
              let up : span n ≡ 64 * span m = ap span e in
              omega (arith, mul-le (at / b) b 7167 b i (omega arith))

          pub stepped : count ≤ 7168 → y ≤ 128 * span m → Stepped (next (children w cs) n p at) (at / b * b + y) (count * b) (span n)
          stepped few small = record {
            end = λ t. sym (next_is ∙ cond-true (eqb (at / b * b + y) (count * b)) (span n) (at / b * b + y) (eq-eqb (at / b * b + y) (count * b) t));
            on = λ t. sym (next_is ∙ cond-false (eqb (at / b * b + y) (count * b)) (span n) (at / b * b + y) (ne_eqb (at / b * b + y) (count * b) t));
            small = within few small;
          }

-- neither does the end of a record of so many children
pub count_small : (count n m b : ℕ) → count ≤ 7168 → n ≤ 6 → n ≡ suc m → b ≡ span m → count * b ≤ 0x800_0000_0000
count_small count n m b few low e s =
    let up : span n ≡ 64 * span m = ap span e in
    omega (arith, mul-le count b 7168 b few (omega arith), span_small n low)
