-- What a card says: rows 21 (name, 0, 0), 22 (stem, 0, 0) and 23 (namespace, local name, 0).
use Rattle.std.specs.Prelude.{◌≡◌, ℕ, Bool, true, false, cond, not, ◌&&◌, List, map, length, None, Ok, Err, filter, Result, ◌==◌, nat_eq, nat_lt}
use Rattle.std.specs.Str.{bytes_eq}
use Rattle.text.specs.Bytes.{Bytes, begins}
use Rattle.text.specs.Names.{in_mc}
use Rattle.record.specs.declared.row.Row.{Row}
use Rattle.record.specs.declared.refusal.Refusal.{Refusal}
use Rattle.record.specs.declared.refusal.Refusal.TheVariants.{BadCardRow}
use Rattle.file.specs.Form.{Contents, opened, refuse_at, text_at}
use Rattle.card.specs.Rows.{first_at, some}

-- a number below P
unfoldable pub is_text : List Bytes → ℕ → Bool
is_text texts n = nat_lt n (length texts)

-- a name or stem: a number below P that is not 0
unfoldable pub is_name : List Bytes → ℕ → Bool
is_name texts n = nat_lt 0 n && is_text texts n

-- a row 21: a name other than MC
unfoldable pub right_name : List Bytes → Row → Bool
right_name texts row = is_name texts row.a && (not (in_mc (text_at texts row.a)) && (row.b == 0 && row.c == 0))

-- a row 22: a stem, which may be any text
unfoldable pub right_stem : List Bytes → Row → Bool
right_stem texts row = is_name texts row.a && (row.b == 0 && row.c == 0)

-- a row 23: a namespace other than MC, or none, and a local name
unfoldable pub right_extension : List Bytes → Row → Bool
right_extension texts row = is_text texts row.a && (not (in_mc (text_at texts row.a)) && (is_name texts row.b && row.c == 0))

-- a card has no other kinds
unfoldable pub right_row : List Bytes → Row → Bool
right_row texts row =
    cond (row.kind == 21) (right_name texts row)
    (cond (row.kind == 22) (right_stem texts row)
    (cond (row.kind == 23) (right_extension texts row) false))

unfoldable pub wrong_row : List Bytes → Row → Bool
wrong_row texts row = not (right_row texts row)

-- a checked file whose rows are all right is a card
abbrev pub as_card : Result Contents Refusal → Result Contents Refusal
as_card (Err refusal) = Err refusal
as_card (Ok file) = refuse_at (first_at (wrong_row file.texts) 0 file.rows) BadCardRow (Ok file)

-- no row of a card is wrong
abbrev pub IsRight : Contents → Type 0
IsRight card = first_at (wrong_row card.texts) 0 card.rows ≡ None

-- A card opened: the first refusal of the file's form, else the first wrong row, else what the card holds.
unfoldable pub opened_card : Bytes → Result Contents Refusal
opened_card file = as_card (opened file)

unfoldable pub of_kind : ℕ → List Row → List Row
of_kind kind rows = filter (λ row. nat_eq row.kind kind) rows

unfoldable pub names : Contents → List Bytes
names card = map (λ row. text_at card.texts row.a) (of_kind 21 card.rows)

unfoldable pub stems : Contents → List Bytes
stems card = map (λ row. text_at card.texts row.a) (of_kind 22 card.rows)

-- a namespace and a local name
abbrev pub Name : Type 0
Name = Bytes × Bytes

unfoldable pub extensions : Contents → List Name
extensions card = map (λ row. (text_at card.texts row.a, text_at card.texts row.b)) (of_kind 23 card.rows)

-- a name list says yes for the texts of rows 21 only
unfoldable pub name_list_says : Contents → Bytes → Bool
name_list_says card s = some (λ name. bytes_eq name s) (names card)

-- a family says yes for strings that begin with a stem of rows 22 only
unfoldable pub family_says : Contents → Bytes → Bool
family_says card s = some (λ stem. begins stem s) (stems card)

-- an element is on an extension list by the bytes of its namespace and local name
unfoldable pub on_list : List Name → Bytes → Bytes → Bool
on_list list namespace local = some (λ name. bytes_eq name.0 namespace && bytes_eq name.1 local) list

-- a list names no element of MC
abbrev pub OutsideMc : List Name → Type 0
OutsideMc list = (namespace local : Bytes) → on_list list namespace local ≡ true → in_mc namespace ≡ false
