-- The first row that passes a test.
use Rattle.std.specs.Prelude.{ℕ, ◌+◌, Bool, cond, List, [], ◌∷◌, is_some, Some, None, Option}

-- the number of the first that passes, where the list's first has number k
unfoldable pub first_at : {X : Type 0} → (X → Bool) → ℕ → List X → Option ℕ
first_at test k [] = None
first_at test k (x ∷ xs) = cond (test x) (Some k) (first_at test (k + 1) xs)

-- one of these passes
abbrev pub some : {X : Type 0} → (X → Bool) → List X → Bool
some test xs = is_some (first_at test 0 xs)
