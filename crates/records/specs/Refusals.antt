-- Each refusal's number, and a refusal with and without a place.
use Rattle.std.specs.Prelude.{◌≡◌, ℕ}
use Rattle.records.specs.declared.refusal.Cause.{Cause}
use Rattle.records.specs.declared.refusal.Cause.TheVariants.{Size, Layout, Shape, WrongFingerprint, RepeatedFingerprint, BadName, NoRoot, BrokenTree, TooShort, SmallSet, NoSuchPlace, WrongToken, Shut, AlreadyAdmitted, NoneFree, MarkingOpen, NoMarking, Collision, StoreFull, NameKept, NameNotKept, TooManySheets, SheetInUse, TooManyTokens, ContainerFree, ContainerFull}
use Rattle.records.specs.declared.refusal.Place.{Place}
use Rattle.records.specs.declared.refusal.Refusal.{Refusal}

abbrev pub number_of : Cause → ℕ
number_of Size = 1
number_of Layout = 2
number_of Shape = 3
number_of WrongFingerprint = 4
number_of RepeatedFingerprint = 5
number_of BadName = 6
number_of NoRoot = 7
number_of BrokenTree = 8
number_of TooShort = 9
number_of SmallSet = 10
number_of NoSuchPlace = 11
number_of WrongToken = 12
number_of Shut = 13
number_of AlreadyAdmitted = 14
number_of NoneFree = 15
number_of MarkingOpen = 16
number_of NoMarking = 17
number_of Collision = 18
number_of StoreFull = 19
number_of NameKept = 20
number_of NameNotKept = 21
number_of TooManySheets = 22
number_of SheetInUse = 23
number_of TooManyTokens = 24
number_of ContainerFree = 25
number_of ContainerFull = 26

-- a refusal that tells of no place has container 0 and record 0
abbrev pub untold : Cause → Refusal
untold cause = record { cause = cause; place = record { container = 0; index = 0 } }

abbrev pub told_at : Cause → Place → Refusal
told_at cause place = record { cause = cause; place = place }

-- the refusal of a number, which tells of no place
pub record Numbered (n : ℕ) (e : Refusal) : Type 0 where
  pub number : number_of e.cause ≡ n
  pub place : e.place ≡ record { container = 0; index = 0 }
