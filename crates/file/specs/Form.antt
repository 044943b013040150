-- The form of a file: three counts, the pairs of the texts, the rows, the text bytes.
use Rattle.std.specs.Prelude.{◌≡◌, ℕ, zero, suc, ◌+◌, ◌-◌, ◌*◌, ◌/◌, ◌<◌, Bool, cond, not, ◌&&◌, ◌||◌, List, [], map, length, take, drop, is_some, Some, None, Ok, Err, Option, Result, ◌==◌, nat_le, nat_lt, slice_index, slice_index_or}
use Rattle.std.specs.List.{range_with_len}
use Rattle.std.specs.Str.{bytes_eq}
use Rattle.text.specs.Bytes.{Bytes}
use Rattle.record.specs.declared.row.Row.{Row}
use Rattle.record.specs.declared.refusal.Refusal.{Refusal}
use Rattle.record.specs.declared.refusal.Refusal.TheVariants.{TooShort, OutsideLimits, WrongLength, MisplacedText, RepeatedText}

-- the number that begins at a byte: four bytes, the least first
unfoldable pub number : Bytes → ℕ → ℕ
number bytes at =
    slice_index bytes at + slice_index bytes (at + 1) * 256 + slice_index bytes (at + 2) * 65536 + slice_index bytes (at + 3) * 16777216

-- The texts: a table of pairs of offset and length, eight bytes each, and the bytes that they lie in.

abbrev pub pair_count : Bytes → ℕ
pair_count pairs = length pairs / 8

unfoldable pub offset : Bytes → ℕ → ℕ
offset pairs k = number pairs (8 * k)

-- where the text of a pair ends
unfoldable pub ending : Bytes → ℕ → ℕ
ending pairs k = offset pairs k + number pairs (8 * k + 4)

unfoldable pub text_of : Bytes → Bytes → ℕ → Bytes
text_of pairs bytes k = take (ending pairs k - offset pairs k) (drop (offset pairs k) bytes)

unfoldable pub texts_of : Bytes → Bytes → List Bytes
texts_of pairs bytes = map (text_of pairs bytes) (range_with_len 0 (pair_count pairs))

-- The rows: four numbers each.

unfoldable pub row_of : Bytes → ℕ → Row
row_of rows i =
    record { kind = number rows (16 * i); a = number rows (16 * i + 4); b = number rows (16 * i + 8); c = number rows (16 * i + 12) }

unfoldable pub rows_of : Bytes → List Row
rows_of rows = map (row_of rows) (range_with_len 0 (length rows / 16))

-- A file's parts: P texts, R rows and T text bytes.

unfoldable pub text_count : Bytes → ℕ
text_count file = number file 0

unfoldable pub row_count : Bytes → ℕ
row_count file = number file 4

unfoldable pub byte_count : Bytes → ℕ
byte_count file = number file 8

unfoldable pub within_limits : ℕ → ℕ → ℕ → Bool
within_limits p r t = nat_le 1 p && nat_le p 1024 && nat_le r 2048 && nat_le t 16384

unfoldable pub size : ℕ → ℕ → ℕ → ℕ
size p r t = 12 + 8 * p + 16 * r + t

unfoldable pub pair_table : Bytes → Bytes
pair_table file = take (8 * text_count file) (drop 12 file)

unfoldable pub row_table : Bytes → Bytes
row_table file = take (16 * row_count file) (drop (8 * text_count file) (drop 12 file))

unfoldable pub text_bytes : Bytes → Bytes
text_bytes file = drop (16 * row_count file) (drop (8 * text_count file) (drop 12 file))

-- Pair 0 is (0, 0); each later pair begins at or after the end of the one before and ends within the text bytes.
unfoldable pub misplaced : Bytes → ℕ → ℕ → Bool
misplaced pairs t k =
    cond (k == 0) (not (offset pairs 0 == 0) || not (ending pairs 0 == 0))
    (nat_lt (offset pairs k) (ending pairs (k - 1)) || nat_lt t (ending pairs k))

-- the first of n numbers, from k on, that passes a test
unfoldable pub first_from : (ℕ → Bool) → ℕ → ℕ → Option ℕ
first_from test k zero = None
first_from test k (suc n) = cond (test k) (Some k) (first_from test (k + 1) n)

-- no number below n passes a test
abbrev pub none_of : (ℕ → Bool) → ℕ → Bool
none_of test n = not (is_some (first_from test 0 n))

-- an earlier pair has the same bytes
unfoldable pub repeated : Bytes → Bytes → ℕ → Bool
repeated pairs bytes k = not (none_of (λ j. bytes_eq (text_of pairs bytes j) (text_of pairs bytes k)) k)

abbrev pub refuse : {X : Type 0} → Bool → Refusal → Result X Refusal → Result X Refusal
refuse test refusal rest = cond test (Err refusal) rest

abbrev pub refuse_at : {X : Type 0} → Option ℕ → (ℕ → Refusal) → Result X Refusal → Result X Refusal
refuse_at None refusal rest = rest
refuse_at (Some k) refusal rest = Err (refusal k)

-- the texts, or the first pair that is misplaced, or the first that is repeated
unfoldable pub read_texts : Bytes → Bytes → Result (List Bytes) Refusal
read_texts pairs bytes =
    refuse_at (first_from (misplaced pairs (length bytes)) 0 (pair_count pairs)) MisplacedText
    (refuse_at (first_from (repeated pairs bytes) 0 (pair_count pairs)) RepeatedText
    (Ok (texts_of pairs bytes)))

-- what a file holds
pub record Contents : Type 0 where
  pub texts : List Bytes
  pub rows : List Row

abbrev pub with_rows : List Row → Result (List Bytes) Refusal → Result Contents Refusal
with_rows rows (Ok texts) = Ok (record { texts = texts; rows = rows })
with_rows rows (Err refusal) = Err refusal

-- A file opened: the first of these refusals whose condition holds, else what the file holds.
unfoldable pub opened : Bytes → Result Contents Refusal
opened file =
    refuse (nat_lt (length file) 12) TooShort
    (refuse (not (within_limits (text_count file) (row_count file) (byte_count file))) OutsideLimits
    (refuse (not (length file == size (text_count file) (row_count file) (byte_count file))) WrongLength
    (with_rows (rows_of (row_table file)) (read_texts (pair_table file) (text_bytes file)))))

-- the text of a number, the empty one where there is none
unfoldable pub text_at : List Bytes → ℕ → Bytes
text_at texts n = slice_index_or texts n []

-- two texts are equal exactly if their numbers are
abbrev pub Distinct : List Bytes → Type 0
Distinct texts = (i j : ℕ) → i < length texts → j < length texts → bytes_eq (text_at texts i) (text_at texts j) ≡ (i == j)
