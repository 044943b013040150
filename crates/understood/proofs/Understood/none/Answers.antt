use Rattle.std.proofs.Common.{◌≡◌, ℕ, get_or, replicate, inl, inr, arith}
use Rattle.std.proofs.lemmas.Bool.{cases_lt}
use Rattle.std.proofs.lemmas.List.{get_or_past, get_or-replicate, length-replicate}
use Rattle.understood.specs.Answers.{asked}
use Rattle.understood.proofs.Understood.none.Goals as goal

get_or-replicate_same : {A : Type 0} (m n : ℕ) (x : A) → get_or (replicate m x) n x ≡ x
get_or-replicate_same m n x =
    elim (cases_lt n m) [
      | inl lt ↦ get_or-replicate m n x x lt
      | inr le ↦ get_or_past (replicate m x) n x (omega (arith, length-replicate m x))
    ]

pub returns : goal.returns
unfolding asked
returns c = λ n. get_or-replicate_same 1024 n _
