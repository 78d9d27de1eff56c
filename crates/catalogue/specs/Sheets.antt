-- What the entries of a catalogue keep, where a name stands among them, and how many readings are out.
use Rattle.std.specs.Prelude.{ℕ, ◌<◌, Bool, false, List, map, Some, None, is_none, position, sum_by, Option}
use Rattle.keys.specs.Octets.{same_bytes}
use Rattle.catalogue.specs.Names.{spelled}
use Rattle.catalogue.specs.declared.sheet.Sheet.{Sheet}

-- how many readings the sheet at an entry says to be out
abbrev pub count_of : {F : Type 0} → Option (Sheet F) → ℕ
count_of None = 0
count_of (Some s) = s.readings

-- a byte counts them
abbrev pub Counted : {F : Type 0} → Option (Sheet F) → Type 0
Counted e = count_of e < 256

-- a kept sheet: the bytes of its name, the fingerprint of its root, and how many readings of it are out
pub record Kept : Type 0 where
  pub name : List ℕ
  pub root : List ℕ
  pub readings : ℕ

-- what an entry means, where `bytes` gives a fingerprint's bytes
abbrev pub kept_of : {F : Type 0} → (F → List ℕ) → Option (Sheet F) → Option Kept
kept_of bytes None = None
kept_of bytes (Some s) = Some (record { name = spelled s.name; root = bytes s.root; readings = s.readings })

abbrev pub kept_all : {F : Type 0} → (F → List ℕ) → List (Option (Sheet F)) → List (Option Kept)
kept_all bytes es = map (kept_of bytes) es

-- whether an entry has a name, where `name_of` gives the bytes of what stands at one
abbrev pub is_named : {X : Type 0} → (X → List ℕ) → List ℕ → Option X → Bool
is_named name_of name None = false
is_named name_of name (Some x) = same_bytes (name_of x) name

-- the first entry that has a name, if any
abbrev pub entry_of : {X : Type 0} → (X → List ℕ) → List ℕ → List (Option X) → Option ℕ
entry_of name_of name es = position (is_named name_of name) es

-- the first empty entry, if any
abbrev pub vacant_entry : {X : Type 0} → List (Option X) → Option ℕ
vacant_entry es = position is_none es

-- how many readings of an entry's sheet are out
abbrev pub readings_of : Option Kept → ℕ
readings_of None = 0
readings_of (Some k) = k.readings

-- how many readings are out in all
abbrev pub readings_out : List (Option Kept) → ℕ
readings_out es = sum_by readings_of es
