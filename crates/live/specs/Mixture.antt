-- A live set that is one of two has the meaning of the one it is.
use Rattle.std.specs.Prelude.{◌≡◌, true, false}
use Rattle.live.specs.Meaning.{Meaning}
use Rattle.live.specs.declared.one_of.OneOf.{OneOf}
use Rattle.live.specs.declared.one_of.OneOf.TheVariants.{First, Second}

-- a reading of either kind, of the one that it is
abbrev pub by_kind : {X Y V : Type 0} → (X → V) → (Y → V) → OneOf X Y → V
by_kind f g (First x) = f x
by_kind f g (Second y) = g y

abbrev unsealed_by : {X Y K : Type 0} (m : Meaning X K) (n : Meaning Y K) (s : OneOf X Y) (k : K) → by_kind m.sealed n.sealed s ≡ false → by_kind m.says n.says s k ≡ true
unsealed_by m n (First x) k e = m.unsealed x k e
unsealed_by m n (Second y) k e = n.unsealed y k e

abbrev pub one_of_meaning : {X Y K : Type 0} → Meaning X K → Meaning Y K → Meaning (OneOf X Y) K
one_of_meaning m n = record {
  count = by_kind m.count n.count;
  capacity = by_kind m.capacity n.capacity;
  sealed = by_kind m.sealed n.sealed;
  covers = by_kind m.covers n.covers;
  says = by_kind m.says n.says;
  unsealed = unsealed_by m n;
}
