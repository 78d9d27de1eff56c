-- The meaning of a live set, and what each call does to it.
use Rattle.std.specs.Prelude.{◌≡◌, ℕ, ◌+◌, Bool, true, false, not, ◌||◌, ◌==◌}

-- a live set of the type S, over keys of the type K
pub record Meaning (S K : Type 0) : Type 0 where
  -- how many keys it has learned, and how many it can
  pub count : S → ℕ
  pub capacity : S → ℕ
  pub sealed : S → Bool
  pub covers : S → K → Bool
  pub says : S → K → Bool
  -- before it is sealed, yes to every key
  pub unsealed : (s : S) (k : K) → sealed s ≡ false → says s k ≡ true

-- every key to which the first says yes has a yes of the second too
abbrev pub Remain : {K : Type 0} → (K → Bool) → (K → Bool) → Type 0
Remain {K} f g = (x : K) → f x ≡ true → g x ≡ true

-- nothing changes
pub record Same {S K : Type 0} (m : Meaning S K) (s t : S) : Type 0 where
  pub count : m.count t ≡ m.count s
  pub capacity : m.capacity t ≡ m.capacity s
  pub sealed : m.sealed t ≡ m.sealed s
  pub covers : (x : K) → m.covers t x ≡ m.covers s x
  pub says : (x : K) → m.says t x ≡ m.says s x

pub record Started {S K : Type 0} (m : Meaning S K) (s t : S) : Type 0 where
  pub count : m.count t ≡ 0
  pub capacity : m.capacity t ≡ m.capacity s
  pub sealed : m.sealed t ≡ false

-- sealed, or as many keys learned as it can
abbrev pub closed : {S K : Type 0} → Meaning S K → S → Bool
closed m s = m.sealed s || m.count s == m.capacity s

-- r tells whether the key was taken
pub record Learned {S K : Type 0} (m : Meaning S K) (s : S) (k : K) (r : Bool) (t : S) : Type 0 where
  pub answer : r ≡ not (closed m s)
  pub refused : r ≡ false → Same m s t
  pub capacity : m.capacity t ≡ m.capacity s
  pub count : r ≡ true → m.count t ≡ m.count s + 1
  pub sealed : r ≡ true → m.sealed t ≡ false
  pub remain : r ≡ true → Remain (m.covers s) (m.covers t)
  pub covered : r ≡ true → m.covers t k ≡ true

pub record Sealed {S K : Type 0} (m : Meaning S K) (s t : S) : Type 0 where
  pub count : m.count t ≡ m.count s
  pub capacity : m.capacity t ≡ m.capacity s
  pub sealed : m.sealed t ≡ true
  pub remain : Remain (m.covers s) (m.covers t)

pub record Noted {S K : Type 0} (m : Meaning S K) (s : S) (k : K) (t : S) : Type 0 where
  pub early : m.sealed s ≡ false → Same m s t
  pub count : m.count t ≡ m.count s
  pub capacity : m.capacity t ≡ m.capacity s
  pub sealed : m.sealed t ≡ m.sealed s
  pub remain : Remain (m.covers s) (m.covers t)
  pub yeses : Remain (m.says s) (m.says t)
  pub noted : m.covers s k ≡ true → m.says t k ≡ true
