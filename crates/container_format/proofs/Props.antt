-- That a file is intact has one proof at most, so a ghost field can carry it.
use Rattle.std.proofs.Common.{ℕ, ◌<◌, List}
use mathlib.Core.List.{is_set}
use mathlib.Core.Logic.{∥∥₁_elim}
use native.Mathlib.Nat.{ℕ_set}
use native.Mathlib.Bridge.{le_prop}
use Rattle.std.specs.List.{AllByRecursion-prop}
use Rattle.keys.specs.Octets.{Bytes}
use Rattle.records.specs.Limits.{Typed, Storable, Fits, Stored}
use Rattle.records.specs.Records.{Rec}
use Rattle.container_format.specs.Checking.{Intact}

prop_bytes : (xs : List ℕ) → IsProp (Bytes xs)
prop_bytes xs = AllByRecursion-prop (λ b. b < 256) (λ x. le_prop) xs

prop_typed : (w : ℕ) (r : Rec) → IsProp (Typed w r)
prop_typed w r a b i = record {
  wide = ℕ_set _ _ a.wide b.wide i;
  fingerprint = prop_bytes r.fingerprint a.fingerprint b.fingerprint i;
  payload = prop_bytes r.payload a.payload b.payload i;
}

prop_storable : (w : ℕ) (r : Rec) → IsProp (Storable w r)
prop_storable w r a b i = record {
  typed = prop_typed w r a.typed b.typed i;
  level = le_prop a.level b.level i;
  some = le_prop a.some b.some i;
  few = le_prop a.few b.few i;
}

prop_fits : (rs : List Rec) → IsProp (Fits rs)
prop_fits rs a b i = record { count = le_prop a.count b.count i; bytes = le_prop a.bytes b.bytes i }

prop_stored : (w : ℕ) (rs : List Rec) → IsProp (Stored w rs)
prop_stored w rs a b i = record {
  fits = prop_fits rs a.fits b.fits i;
  each = AllByRecursion-prop (Storable w) (prop_storable w) rs a.each b.each i;
}

pub prop_intact : (w n : ℕ) (bs : List ℕ) → IsProp (Intact w n bs)
prop_intact w n bs a b i = record {
  few = le_prop a.few b.few i;
  narrow = le_prop a.narrow b.narrow i;
  long = le_prop a.long b.long i;
  exact = λ h. (le_prop (a.exact h).0 (b.exact h).0 i, ℕ_set _ _ (a.exact h).1 (b.exact h).1 i);
  bytes = is_set ℕ_set _ _ a.bytes b.bytes i;
  each = AllByRecursion-prop (Stored w) (prop_stored w) _ a.each b.each i;
}

-- what a ghost field holds, as a fact that can be used
pub intact_from : (w n : ℕ) (bs : List ℕ) → ∥ Intact w n bs ∥₁ → Intact w n bs
intact_from w n bs h = ∥∥₁_elim h (prop_intact w n bs) (λ g. g)
