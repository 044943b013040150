-- A file opened, trial by trial.
use Rattle.std.proofs.Common.{◌≡◌, ℕ, ◌+◌, ◌*◌, ◌<◌, ◌≤◌, true, false, length, take, drop, Err, sym}
use Rattle.std.proofs.lemmas.Bool.{lt-ltb, le-ltb, eq-eqb, ne_eqb}
use Rattle.record.specs.declared.refusal.Refusal.TheVariants.{TooShort, OutsideLimits, WrongLength}
use Rattle.text.specs.Bytes.{Bytes}
use Rattle.file.specs.Form.{number, opened, text_count, row_count, byte_count, within_limits, size, with_rows, rows_of, row_table, read_texts, pair_table, text_bytes}

module _ (file : Bytes) where
  pub opened_short : length file < 12 → opened file ≡ Err TooShort
  unfolding opened
  opened_short short = rw (lt-ltb (length file) 12 short)

  module _ (long : 12 ≤ length file) where
    pub opened-outside : within_limits (text_count file) (row_count file) (byte_count file) ≡ false → opened file ≡ Err OutsideLimits
    unfolding opened
    opened-outside out = rw (le-ltb (length file) 12 long, out)

    module _ (limits : within_limits (text_count file) (row_count file) (byte_count file) ≡ true) where
      pub opened_wrong : (length file ≡ size (text_count file) (row_count file) (byte_count file) → ⊥) → opened file ≡ Err WrongLength
      unfolding opened
      opened_wrong other = rw (le-ltb (length file) 12 long, limits, ne_eqb (length file) (size (text_count file) (row_count file) (byte_count file)) other)

      pub opened-whole : length file ≡ size (text_count file) (row_count file) (byte_count file)
          → opened file ≡ with_rows (rows_of (row_table file)) (read_texts (pair_table file) (text_bytes file))
      unfolding opened
      opened-whole same = rw (le-ltb (length file) 12 long, limits, eq-eqb (length file) (size (text_count file) (row_count file) (byte_count file)) same)

-- a file that is cut into its parts
pub opened-parts : (file body pairs rest rows bytes : Bytes) (p r t : ℕ)
    → p ≡ number file 0 → r ≡ number file 4 → t ≡ number file 8
    → 12 ≤ length file → true ≡ within_limits p r t → length file ≡ 12 + 8 * p + 16 * r + t
    → body ≡ drop 12 file → pairs ≡ take (8 * p) body → rest ≡ drop (8 * p) body → rows ≡ take (16 * r) rest → bytes ≡ drop (16 * r) rest
    → opened file ≡ with_rows (rows_of rows) (read_texts pairs bytes)
unfolding text_count row_count byte_count size pair_table row_table text_bytes
opened-parts file body pairs rest rows bytes p r t ep er et long limits same eb eps ers erw eby =
    rw (erw, eby, ers, eps, eb, ep, er) (opened-whole file long (rw (← ep, ← er, ← et) (sym limits)) (rw (← ep, ← er, ← et) same))
