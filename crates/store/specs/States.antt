-- The states of a store, in the subject's words: what its device holds, and what the store remembers.
use Rattle.std.specs.Prelude.{ℕ, Bool, false, List, replicate, None, Option}
use Rattle.records.specs.Records.{Contents}
use Rattle.placing.specs.declared.filling.Filling.{Filling}
use Rattle.catalogue.specs.Sheets.{Kept}

pub record State : Type 0 where
  -- for each container of the device its records
  pub contents : Contents
  -- the store's number, which its tokens carry
  pub number : ℕ
  pub admitted : Bool
  -- the container that is being filled, if any, and the one that was opened last
  pub filling : Filling
  -- the catalogue's 64 entries, each empty or with a kept sheet
  pub sheets : List (Option Kept)
  -- whether a marking is open
  pub marking : Bool

-- no container is being filled or was opened, as while the store is shut
abbrev pub none_filled : Filling
none_filled = record { current = None; last = 0 }

-- a store just made over a device: shut, and without sheets
abbrev pub fresh : Contents → ℕ → State
fresh cs n = record { contents = cs; number = n; admitted = false; filling = none_filled; sheets = replicate 64 None; marking = false }

-- the same store with other records and another container being filled
abbrev pub holding : State → Contents → Filling → State
holding s cs f = record { contents = cs; number = s.number; admitted = s.admitted; filling = f; sheets = s.sheets; marking = s.marking }

-- the same store with other sheets
abbrev pub keeping : State → List (Option Kept) → State
keeping s ks = record { contents = s.contents; number = s.number; admitted = s.admitted; filling = s.filling; sheets = ks; marking = s.marking }
