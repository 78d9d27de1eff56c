-- What `all` over the chunks of a list tells of each chunk.
use Rattle.std.proofs.Common.{◌≡◌, ℕ, ◌+◌, ◌*◌, ◌/◌, ◌<◌, ◌≤◌, Bool, true, false, T, List, [], ◌∷◌, length, take, drop, Some, None, Option, ap, ◌∙◌, subst, arith}
use Rattle.std.specs.Bool.{MatchBool, IsTrue}
use Rattle.std.specs.Option.{IfSome, IsSomeAnd, option_map}
use Rattle.std.specs.Iterator.Runs.{Run, SomeRun, EveryRun, AllItems, AnyItem, AllItemsGive, AnyItemGives, CallKeepsClosure, IsChunksExactRun}
use Rattle.std.specs.Slice.Iter.{chunks_exact_steps, chunks_exact_rest, chunks_exact_size}
use Rattle.std.specs.declared.slice.ChunksExact.{ChunksExact}
use denote.Ref.{Bor}
use denote.Param.Members.{Mut, Called}

-- what is said of an item twice holds of one item
pub both : {A X : Type 0} {P Q : A → Type 0} (o : Option A) (z : A) → option_map (λ y. y) o ≡ Some z → IfSome o P → IfSome o Q → ((x : A) → P x → Q x → X) → X
both None z e a b k = absurd (let q : ◌≡◌ {A = ℕ} 0 1 = cc in omega arith)
both (Some x) z e a b k = k x a b

pub met : {A X : Type 0} {P Q : A → Type 0} (o : Option A) → IsSomeAnd o P → IfSome o Q → ((x : A) → P x → Q x → X) → X
met None a b k = absurd a
met (Some x) a b k = k x a b

first : {A : Type 0} (xs : List A) → 0 < length xs → A
first [] h = absurd (omega arith)
first (x ∷ xs) h = x

module _ (p : Run (chunks_exact_steps {A = ℕ})) (n : ℕ) (bs : List ℕ) (is : IsChunksExactRun p n bs) (Q : Bor (List ℕ) → Type 0) (P : List ℕ → Type 0) (gives : (x : Bor (List ℕ)) → Q x → P x.now) where
  each_chunk : p.whole ≡ true → AllItems p Q → (k : ℕ) → k < length bs / n → P (take n (drop (k * n) bs))
  each_chunk whole h k below =
      let l : k < p.len = (let e = is.1 whole in omega arith) in
      both (p.at k) _ (p.reads k (first p.items (let t = p.long in omega arith)) l) (h k) (is.2 k) (λ x a b. subst P b.2.0 (gives x a))

  some_chunk : AnyItem p Q → (k : ℕ) × (k * n + n ≤ length bs) × P (take n (drop (k * n) bs))
  some_chunk h = met (p.at h.0) h.2 (is.2 h.0) (λ x a b. (h.0, b.1, subst P b.2.0 (gives x a)))

-- `all` answers whether P holds of each chunk of n bytes, where the closure tells whether it holds of one
module _ {F : Type 0} (n : ℕ) (bs : List ℕ) (s : ChunksExact ℕ) (g : Mut F (Bor (List ℕ) × Unit {0}) Bool) (f : F) (P : List ℕ → Type 0) where
  pub chunks_told : (r : Bool) → 0 < n → chunks_exact_rest s ≡ bs → chunks_exact_size s ≡ n
      → EveryRun (chunks_exact_steps {A = ℕ}) (λ p. 0 < chunks_exact_size p.from → IsChunksExactRun p (chunks_exact_size p.from) (chunks_exact_rest p.from))
      → SomeRun chunks_exact_steps s (λ p. MatchBool r (IsTrue p.whole × AllItemsGive p g f true) (AnyItemGives p g f false))
      → CallKeepsClosure g f
      → ((x : Bor (List ℕ)) → Called g f (x, tt) true f → P x.now)
      → ((x : Bor (List ℕ)) → Called g f (x, tt) false f → P x.now → ⊥)
      → (T r → (k : ℕ) → k < length bs / n → P (take n (drop (k * n) bs))) × (((k : ℕ) → k * n + n ≤ length bs → P (take n (drop (k * n) bs))) → T r)
  chunks_told r some rest size every run keeps yes' no' =
      let p = run.0 in
      let at : chunks_exact_size p.from ≡ n = ap chunks_exact_size run.1 ∙ size in
      let all : chunks_exact_rest p.from ≡ bs = ap chunks_exact_rest run.1 ∙ rest in
      let is0 = every p p.seen (omega arith) in
      let is : IsChunksExactRun p n bs = subst (λ X. X) (λ i. IsChunksExactRun p (at i) (all i)) is0 in
      told r is run.2
    where
      told : (r' : Bool) → IsChunksExactRun run.0 n bs → MatchBool r' (IsTrue (run.0).whole × AllItemsGive run.0 g f true) (AnyItemGives run.0 g f false) → (T r' → (k : ℕ) → k < length bs / n → P (take n (drop (k * n) bs))) × (((k : ℕ) → k * n + n ≤ length bs → P (take n (drop (k * n) bs))) → T r')
      told true is h = (λ _. each_chunk run.0 n bs is (λ x. Called g f (x, tt) true f) P yes' h.0 (h.1 keeps), λ _. tt)
      told false is h = (λ x. absurd x, λ all. let c = some_chunk run.0 n bs is (λ x. Called g f (x, tt) false f) (λ x. P x → ⊥) no' (h keeps) in c.2 (all c.0 c.1))
