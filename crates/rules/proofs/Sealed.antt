-- The laws, of records that are sealed.
use Rattle.std.proofs.Common.{◌≡◌, ◌⊎◌, List, reverse, Some, sym, subst, inl, inr}
use Rattle.rules.specs.Elements.{tokens, Element}
use Rattle.rules.specs.Steps.{kept_rows}
use Rattle.rules.specs.Lists.{In, open_after}
use Rattle.rules.specs.Laws.{InOrderOf, StandsOnly, Earlier, SealedRowsRiseAndPair, MoreKnowledgeSealsMore}
use Rattle.rules.proofs.Rise.{kept_rows_rise}
use Rattle.rules.proofs.Pairs.{kept_rows_pair}
use Rattle.rules.proofs.Whole.{whole}
use Rattle.rules.proofs.Wider.{more_knowledge_more_rows}

pub sealed_rows_rise_and_pair : SealedRowsRiseAndPair
sealed_rows_rise_and_pair texts K ext rows s e =
    let w = whole texts K ext rows s e in
    let h = kept_rows_rise texts K ext (reverse rows) w.accepted in
    let p = (kept_rows_pair texts K ext (reverse rows)).1 w.ended in
    let b = sym w.kept-rows in
    (subst (InOrderOf (reverse rows)) b h.1, subst (λ l. open_after (Some 0) l ≡ Some 0) b p, w.counted)

pub more_knowledge_seals_more : MoreKnowledgeSealsMore
more_knowledge_seals_more texts K K' ext rows a b w e f x i =
    let u = whole texts K ext rows a e in
    let v = whole texts K' ext rows b f in
    go (sym v.kept-rows) (more_knowledge_more_rows texts K K' ext (reverse rows) w u.faultless x (subst (In x) u.kept-rows i))
  where
    go : kept_rows K' ext (tokens texts (reverse rows)) ≡ b.rows
        → In x (kept_rows K' ext (tokens texts (reverse rows))) ⊎ ((at : List Element) × StandsOnly x at (tokens texts (reverse rows)) × Earlier K K' ext at)
        → In x b.rows ⊎ ((at : List Element) × StandsOnly x at (tokens texts (reverse rows)) × Earlier K K' ext at)
    go h (inl k) = inl (subst (In x) h k)
    go h (inr k) = inr k
