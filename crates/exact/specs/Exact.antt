-- The exact table as a live set, and what its calls do beyond what any live set's do.
use Rattle.std.specs.Prelude.{◌≡◌, ℕ, Bool, true, false, not, ◌&&◌, ◌||◌, List, vec_items, Option}
use Rattle.std.proofs.lemmas.Bool.{or_left, not_from_false}
use Rattle.keys.specs.Octets.{same_bytes}
use Rattle.slots.specs.Walks.{keys_of, reached}
use Rattle.slots.specs.Tables.{Sound}
use Rattle.slots.specs.Marks.{marked}
use Rattle.live.specs.Meaning.{Meaning}
use Rattle.exact.specs.declared.table.ExactTable.{ExactTable}

-- the keys in its slots
abbrev pub held_by : {K : Type 0} → ExactTable K → List (Option K)
held_by t = keys_of (vec_items t.slots)

-- it covers the keys that a walk meets, and after sealing says yes to those that are marked there
abbrev pub exact_meaning : {K : Type 0} → (K → List ℕ) → Meaning (ExactTable K) K
exact_meaning bytes = record {
  count = λ t. t.intake.count;
  capacity = λ t. t.intake.capacity;
  sealed = λ t. t.intake.sealed;
  covers = λ t k. reached bytes (held_by t) k;
  says = λ t k. not t.intake.sealed || marked bytes (vec_items t.slots) k;
  unsealed = λ t k e. or_left (not t.intake.sealed) _ (not_from_false t.intake.sealed e);
}

-- started, it is sound, and covers nothing
pub record ExactStart {K : Type 0} (bytes : K → List ℕ) (t : ExactTable K) : Type 0 where
  pub sound : Sound bytes (held_by t)
  pub none : (x : K) → (exact_meaning bytes).covers t x ≡ false

-- a sound table stays sound, and covers exactly the one key more
pub record ExactLearn {K : Type 0} (bytes : K → List ℕ) (s : ExactTable K) (k : K) (r : Bool) (t : ExactTable K) : Type 0 where
  pub sound : Sound bytes (held_by s) → Sound bytes (held_by t)
  pub exact : Sound bytes (held_by s) → r ≡ true → (x : K) → (exact_meaning bytes).covers t x ≡ (same_bytes (bytes k) (bytes x) || (exact_meaning bytes).covers s x)

-- just sealed, it covers the same keys, and says no to all
pub record ExactSeal {K : Type 0} (bytes : K → List ℕ) (s t : ExactTable K) : Type 0 where
  pub keys : held_by t ≡ held_by s
  pub none : (x : K) → (exact_meaning bytes).says t x ≡ false

-- a mark changes no key, and after sealing adds a yes to exactly the one key, if it is covered
pub record ExactMark {K : Type 0} (bytes : K → List ℕ) (s : ExactTable K) (k : K) (t : ExactTable K) : Type 0 where
  pub keys : held_by t ≡ held_by s
  pub exact : s.intake.sealed ≡ true → (x : K) → (exact_meaning bytes).says t x ≡ ((exact_meaning bytes).says s x || (same_bytes (bytes k) (bytes x) && (exact_meaning bytes).covers s k))
