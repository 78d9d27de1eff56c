-- Reading a sheet: opening it, the next strip, and returning the token.
use Rattle.std.specs.Prelude.{◌≡◌, ℕ, ◌+◌, ◌-◌, false, cond, not, ◌||◌, List, [], ◌∷◌, ◌++◌, length, drop, is_some, is_err, Some, None, Ok, Err, Option, Result, ◌==◌, nat_le, nat_lt, slice_index_or, slice_set}
use Rattle.std.specs.List.{slice_get}
use Rattle.records.specs.Records.{Rec, Contents}
use Rattle.records.specs.Refusals.{untold}
use Rattle.records.specs.declared.refusal.Cause.{Cause}
use Rattle.records.specs.declared.refusal.Cause.TheVariants.{BadName, NameNotKept, TooManyTokens, WrongToken, TooShort}
use Rattle.records.specs.declared.refusal.Place.{Place}
use Rattle.records.specs.declared.refusal.Refusal.{Refusal}
use Rattle.trees.specs.Holding.{if_some, standing}
use Rattle.trees.specs.Reading.{rank_at}
use Rattle.trees.specs.Trees.{Shaped, Whole, payload_of, text}
use Rattle.walks.specs.Descents.{astray, lead_of, position_after}
use Rattle.walks.specs.declared.astray.Astray.{Astray}
use Rattle.catalogue.specs.Names.{nameable}
use Rattle.catalogue.specs.Sheets.{Kept, readings_of, readings_out}
use Rattle.store.specs.States.{State, keeping}
use Rattle.store.specs.Refusing.{Test, refusing, unless, shut}
use Rattle.store.specs.Keeping.{kept_at, entry_in}
use Rattle.store.specs.declared.tokens.ReadToken.{ReadToken}

-- a sheet with other readings out
abbrev pub lent : ℕ → Kept → Kept
lent n k = record { name = k.name; root = k.root; readings = n }

-- the catalogue where n readings of the sheet at an entry are out
abbrev pub recounted : ℕ → List (Option Kept) → ℕ → List (Option Kept)
recounted n ks i = if_some ks (λ k. slice_set ks i (Some (lent n k))) (slice_index_or ks i None)

-- how many readings of the sheet at an entry are out
abbrev pub out_at : List (Option Kept) → ℕ → ℕ
out_at ks i = readings_of (slice_index_or ks i None)

module _ (s : State) (name : List ℕ) where
  abbrev pub open_tests : List Test
  open_tests =
      shut s ∷ (not (nameable name), BadName) ∷ (not (is_some (kept_at s name)), NameNotKept)
      ∷ (nat_le 16 (readings_out s.sheets), TooManyTokens) ∷ []

  -- the entry of the sheet that is opened
  abbrev pub open_entry : Result ℕ Refusal
  open_entry = refusing untold open_tests (Ok (entry_in (kept_at s name)))

  -- a token at the start of the sheet
  abbrev pub open_answer : Result ReadToken Refusal
  open_answer = refusing untold open_tests (Ok (record { number = s.number; sheet = entry_in (kept_at s name); position = 0 }))

  abbrev pub after_open : State
  after_open = unless open_tests s (keeping s (recounted (out_at s.sheets (entry_in (kept_at s name)) + 1) s.sheets (entry_in (kept_at s name))))

-- where a reading of a kept sheet stands: nowhere, where none is out
abbrev pub lead_in : ℕ → State → ℕ → Option Kept → Result (Option Place) Astray
lead_in w s position None = Err astray
lead_in w s position (Some k) = cond (k.readings == 0) (Err astray) (lead_of w s.contents k.root position)

-- the place of the strip that a position leads to; none at the end
abbrev pub place_in : Result (Option Place) Astray → Option Place
place_in (Err e) = None
place_in (Ok o) = o

-- the payload of the strip at a place; none where there is no place
abbrev pub strip_bytes : State → Option Place → Option (List ℕ)
strip_bytes s o = if_some None (λ x. Some (payload_of (standing s.contents x))) o

-- a token with a refusal
abbrev pub handed_back : ReadToken → Cause → Refusal × ReadToken
handed_back token cause = (untold cause, token)

-- the strip fills the front of a buffer that is long enough
abbrev pub give_buffer : List ℕ → List ℕ → List ℕ
give_buffer buffer strip = unless ((nat_lt (length buffer) (length strip), TooShort) ∷ []) buffer (strip ++ drop (length strip) buffer)

module _ (w : ℕ) (s : State) (token : ReadToken) where
  -- where the token's reading stands
  abbrev pub lead_at : Result (Option Place) Astray
  lead_at = lead_in w s token.position (slice_index_or s.sheets token.sheet None)

  -- the token is of another store, or of no reading that is out here
  abbrev pub token_tests : List Test
  token_tests = shut s ∷ (not (token.number == s.number) || is_err lead_at, WrongToken) ∷ []

  -- the place of the strip that is due, if the token is good
  abbrev pub place_answer : Result (Option Place) Refusal
  place_answer = refusing untold token_tests (Ok (place_in lead_at))

  -- the strip that is due, if any
  abbrev pub due : Option (List ℕ)
  due = strip_bytes s (place_in lead_at)

  -- the token moved on behind a strip
  abbrev pub moved_on : ReadToken
  moved_on = record { number = token.number; sheet = token.sheet; position = if_some token.position (λ k. position_after w s.contents k.root token.position) (slice_index_or s.sheets token.sheet None) }

  -- a strip is given with a buffer of so many bytes: its length, and the token moved on
  abbrev pub give_answer : ℕ → List ℕ → Result (ReadToken × Option ℕ) (Refusal × ReadToken)
  give_answer space strip = refusing (handed_back token) ((nat_lt space (length strip), TooShort) ∷ []) (Ok (moved_on, Some (length strip)))

  -- the next strip's length; at the end nothing moves
  abbrev pub next_answer : ℕ → Result (ReadToken × Option ℕ) (Refusal × ReadToken)
  next_answer space = refusing (handed_back token) token_tests (if_some (Ok (token, None)) (give_answer space) due)

  -- the strip fills the front of the buffer and the rest stays; at the end and under a refusal all of it stays
  abbrev pub next_buffer : List ℕ → List ℕ
  next_buffer buffer = unless token_tests buffer (if_some buffer (give_buffer buffer) due)

  abbrev pub return_answer : Result (Unit {0}) (Refusal × ReadToken)
  return_answer = refusing (handed_back token) token_tests (Ok tt)

  abbrev pub after_return : State
  after_return = unless token_tests s (keeping s (recounted (out_at s.sheets token.sheet - 1) s.sheets token.sheet))

-- on a whole tree of shaped records the strip that is due is the one that the text has at the position's rank, and none is due at the end
abbrev pub DueInText : ℕ → State → ReadToken → Type 0
DueInText w s token =
    (k : Kept) → slice_index_or s.sheets token.sheet None ≡ Some k → Shaped w s.contents → Whole w s.contents k.root → is_err (lead_at w s token) ≡ false
    → due w s token ≡ slice_get (text w s.contents k.root) (rank_at w s.contents k.root token.position)

-- a record stands at a place
abbrev pub Stands : Contents → Place → Type 0
Stands cs x = (r : Rec) × (standing cs x ≡ Some r)
