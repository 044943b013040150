-- What a course stands for at the begin and at the end of a record.
use Rattle.std.proofs.Common.{◌≡◌, true, List, [], ◌∷◌, None, sym, refl, ap, ◌∙◌, subst, arith}
use Rattle.std.proofs.lemmas.List.{drop_all}
use Rattle.text.specs.Bytes.{Bytes}
use Rattle.record.specs.declared.row.Row.{Row}
use Rattle.knowledge.specs.Understood.{Knows}
use Rattle.card.specs.Cards.{Name}
use Rattle.rules.specs.Elements.{Token, tokens, around}
use Rattle.rules.specs.Scope.{Scope, no_scope}
use Rattle.rules.specs.Mismatches.{mismatches}
use Rattle.rules.specs.Faults.{first, faults}
use Rattle.rules.specs.States.{Frame, ground, frames}
use Rattle.rules.specs.Order.{has_ended}
use Rattle.rules.specs.Records.{judged}
use Rattle.rules.proofs.Frames.{states_follow}
use Rattle.rules.proofs.Whole.{all_judged}
use Rattle.enter.specs.Scopes.{scope_of, eldest, scope_before}
use Rattle.understood.specs.Answers.{Knowing}
use Rattle.order.specs.Following.{Follows}
use Rattle.frames.specs.declared.frame.Frame.{Frame as Held}
use Rattle.frames.specs.Stacks.{Stacked, no_lengths}
use Rattle.frames.proofs.Agree.{agrees-same}
use Rattle.course.specs.declared.Course.{Course}
use Rattle.course.specs.Standing.{Stands, frames_of}

-- no entries were there before any came
eldest-none : {X : Type 0} (xs : List X) → eldest 0 xs ≡ []
unfolding eldest
eldest-none xs = drop_all _ xs (omega arith)

pub before_none : (s : Scope) → scope_before no_lengths s ≡ no_scope
unfolding scope_before no_scope
before_none s = rw (eldest-none s.bindings, eldest-none s.ignorables, eldest-none s.processed)

module _ (texts : List Bytes) (knows : Knows) (extensions : List Name) where
  stacked-none : (s : Scope) (fs : List Held) (gs : List Frame) → s ≡ no_scope → fs ≡ [] → gs ≡ ground ∷ [] → Stacked s fs gs
  stacked-none s fs gs e f g =
      subst (λ (l : List Frame). Stacked s fs l) (sym g)
      (subst (λ (l : List Held). Stacked s l (ground ∷ [])) (sym f) (refl, agrees-same knows extensions ground ground refl, e))

  -- no rows yet
  pub begun : (c : Course) → Knowing texts knows c.known → Follows texts [] c.progress → scope_of texts c.scope ≡ no_scope → frames_of c ≡ []
      → c.mismatch ≡ None → Stands texts knows extensions [] c
  begun c k p s f m =
      record {
        knowing = k;
        follows = p;
        few = unfold tokens around in omega arith;
        settled =
            unfold tokens judged in
            record {
              stacked = stacked-none (scope_of texts c.scope) (frames_of c) (frames knows extensions []) s f (states_follow knows extensions).0;
              sound = unfold faults in refl;
              marked = unfold mismatches in m;
            };
      }

  -- where the root has ended, all tokens are judged
  pub ended_marked : (rows : List Row) (c : Course) → Stands texts knows extensions rows c → has_ended (tokens texts rows) ≡ true
      → c.mismatch ≡ first (mismatches knows extensions (tokens texts rows))
  ended_marked rows c s e =
      s.settled.marked ∙ ap (λ (l : List Token). first (mismatches knows extensions l)) (all_judged (tokens texts rows) e)
