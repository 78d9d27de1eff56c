-- Keeping a sheet and dropping it.
use Rattle.std.specs.Prelude.{ℕ, ◌*◌, not, List, [], ◌∷◌, length, replicate, is_some, Some, None, Ok, Err, Option, Result, ◌==◌, nat_lt, slice_index_or, slice_set}
use Rattle.records.specs.Records.{Contents}
use Rattle.records.specs.Refusals.{untold}
use Rattle.records.specs.declared.refusal.Cause.TheVariants.{BadName, NameKept, NameNotKept, TooManySheets, TooShort, NoRoot, BrokenTree, SheetInUse}
use Rattle.records.specs.declared.refusal.Refusal.{Refusal}
use Rattle.slots.specs.declared.slot.Slot.{Slot}
use Rattle.slots.specs.declared.slot.Slot.TheVariants.{Empty}
use Rattle.trees.specs.Holding.{if_some, record_of}
use Rattle.trees.specs.Trees.{level_of, is_whole}
use Rattle.catalogue.specs.Names.{nameable, spelled}
use Rattle.catalogue.specs.Sheets.{Kept, entry_of, vacant_entry, readings_of}
use Rattle.catalogue.specs.declared.name.Name.{Name}
use Rattle.store.specs.States.{State, keeping}
use Rattle.store.specs.Refusing.{Test, refusing, unless, shut, busy}

-- the entry of the sheet that is kept by this name, if any
abbrev pub kept_at : State → List ℕ → Option ℕ
kept_at s name = entry_of (λ k. k.name) name s.sheets

-- the entry that an answer names; calls that find none are refused before they use it
abbrev pub entry_in : Option ℕ → ℕ
entry_in o = if_some 0 (λ i. i) o

-- a sheet of this name and root, of which no reading is out
abbrev pub new_sheet : List ℕ → List ℕ → Kept
new_sheet name root = record { name = name; root = root; readings = 0 }

-- the tests of a tree: its root is a stored node, and it is whole
abbrev pub whole_tests : ℕ → Contents → List ℕ → List Test
whole_tests w cs root = ((level_of (record_of cs root) == 0), NoRoot) ∷ (not (is_whole w cs root), BrokenTree) ∷ []

abbrev pub tree_answer : ℕ → Contents → List ℕ → Result (Unit {0}) Refusal
tree_answer w cs root = refusing untold (whole_tests w cs root) (Ok tt)

-- an entry and a name, by the name's bytes
abbrev pub spelt : Result (ℕ × Name) Refusal → Result (ℕ × List ℕ) Refusal
spelt (Ok x) = Ok (x.0, spelled x.1)
spelt (Err e) = Err e

-- keeping the tree under a root by a name, with a table of so many slots
module _ (w : ℕ) (s : State) (name root : List ℕ) (slots : ℕ) where
  -- the tests up to the table's length; a call that passes them empties its table
  abbrev pub entry_tests : List Test
  entry_tests =
      shut s ∷ busy s ∷ (not (nameable name), BadName) ∷ (is_some (kept_at s name), NameKept)
      ∷ (not (is_some (vacant_entry s.sheets)), TooManySheets) ∷ (nat_lt slots (63 * length s.contents), TooShort) ∷ []

  -- the root is a stored node, and the tree under it is whole
  abbrev pub tree_tests : List Test
  tree_tests = whole_tests w s.contents root

  -- the entry that a new sheet gets, the first empty one, and its name
  abbrev pub entry_answer : Result (ℕ × List ℕ) Refusal
  entry_answer = refusing untold entry_tests (Ok (entry_in (vacant_entry s.sheets), name))

  abbrev pub keep_answer : Result (Unit {0}) Refusal
  keep_answer = refusing untold entry_tests (refusing untold tree_tests (Ok tt))

  -- the sheet stands at the first empty entry
  abbrev pub after_keep : State
  after_keep = unless entry_tests s (unless tree_tests s (keeping s (slice_set s.sheets (entry_in (vacant_entry s.sheets)) (Some (new_sheet name root)))))

-- the table is emptied, unless a test up to its length refuses
abbrev pub keep_table : {K : Type 0} → State → List ℕ → List (Slot K) → List (Slot K)
keep_table s name table = unless (entry_tests 0 s name [] (length table)) table (replicate (length table) Empty)

module _ (s : State) (name : List ℕ) where
  -- the tests of a name that a sheet is asked for by
  abbrev pub name_tests : List Test
  name_tests = (not (nameable name), BadName) ∷ (not (is_some (kept_at s name)), NameNotKept) ∷ []

  -- the entry of that sheet
  abbrev pub named_entry : Result ℕ Refusal
  named_entry = refusing untold name_tests (Ok (entry_in (kept_at s name)))

  abbrev pub drop_tests : List Test
  drop_tests =
      shut s ∷ busy s ∷ (not (nameable name), BadName) ∷ (not (is_some (kept_at s name)), NameNotKept)
      ∷ (not (readings_of (slice_index_or s.sheets (entry_in (kept_at s name)) None) == 0), SheetInUse) ∷ []

  -- the entry that a drop empties
  abbrev pub drop_entry : Result ℕ Refusal
  drop_entry = refusing untold drop_tests (Ok (entry_in (kept_at s name)))

  abbrev pub drop_answer : Result (Unit {0}) Refusal
  drop_answer = refusing untold drop_tests (Ok tt)

  abbrev pub after_drop : State
  after_drop = unless drop_tests s (keeping s (slice_set s.sheets (entry_in (kept_at s name)) None))
