-- The numbering of refusals: each has a number and the values that it carries.
use Rattle.std.specs.Prelude.{ℕ, List, [], ◌∷◌, slice_index}
use Rattle.record.specs.declared.refusal.Cause.{Cause}
use Rattle.record.specs.declared.refusal.Cause.TheVariants.{MustUnderstand, StrayChild, ForeignName}
use Rattle.record.specs.declared.refusal.Refusal.{Refusal}
use Rattle.record.specs.declared.refusal.Refusal.TheVariants.{TooShort, OutsideLimits, WrongLength, MisplacedText, RepeatedText, BadCardRow, OutOfTurn, Spoilt, BadRow, OutOfOrder, Forbidden, TooMany, ScopeFull, BadItem, Unbound, NotIgnorable, UnknownName, BadAttribute, Misplaced, XmlAttribute, NoRoom, Mismatch, NotForSheet}

pub record Numbered : Type 0 where
  pub number : ℕ
  pub values : List ℕ

abbrev pub cause_number : Cause → ℕ
cause_number MustUnderstand = 1
cause_number StrayChild = 2
cause_number ForeignName = 3

abbrev by : ℕ → List ℕ → Numbered
by n vs = record { number = n; values = vs }

-- The values are the place and, of a mismatch, the number of its cause.
abbrev pub numbered : Refusal → Numbered
numbered TooShort = by 1 []
numbered OutsideLimits = by 2 []
numbered WrongLength = by 3 []
numbered (MisplacedText pair) = by 4 (pair ∷ [])
numbered (RepeatedText pair) = by 5 (pair ∷ [])
numbered (BadCardRow row) = by 6 (row ∷ [])
numbered OutOfTurn = by 7 []
numbered Spoilt = by 8 []
numbered (BadRow place) = by 9 (place ∷ [])
numbered (OutOfOrder place) = by 10 (place ∷ [])
numbered (Forbidden place) = by 11 (place ∷ [])
numbered (TooMany place) = by 12 (place ∷ [])
numbered (ScopeFull place) = by 13 (place ∷ [])
numbered (BadItem place) = by 14 (place ∷ [])
numbered (Unbound place) = by 15 (place ∷ [])
numbered (NotIgnorable place) = by 16 (place ∷ [])
numbered (UnknownName place) = by 17 (place ∷ [])
numbered (BadAttribute place) = by 18 (place ∷ [])
numbered (Misplaced place) = by 19 (place ∷ [])
numbered (XmlAttribute place) = by 20 (place ∷ [])
numbered (NoRoom place) = by 21 (place ∷ [])
numbered (Mismatch place cause) = by 22 (place ∷ cause_number cause ∷ [])
numbered NotForSheet = by 23 []

-- the place, 0 where none is named
abbrev pub place_of : Refusal → ℕ
place_of r = slice_index (numbered r).values 0

-- the cause's number, 0 where there is none
abbrev pub cause_of : Refusal → ℕ
cause_of r = slice_index (numbered r).values 1
