-- What a record has that is sealed.
use Rattle.std.proofs.Common.{◌≡◌, Bool, true, false, cond, List, [], ◌∷◌, reverse, length, Some, None, Ok, Err, Option, Result, sym, refl, ap, subst}
use mathlib.Core.Bool.{false≢true}
use Rattle.std.specs.Option.{option_or}
use Rattle.text.specs.Bytes.{Bytes}
use Rattle.record.specs.declared.row.Row.{Row}
use Rattle.record.specs.declared.refusal.Refusal.{Refusal}
use Rattle.knowledge.specs.Understood.{Knows}
use Rattle.card.specs.Cards.{Name}
use Rattle.rules.specs.Elements.{Token, tag, text, end, tokens, around}
use Rattle.rules.specs.Steps.{kept_rows}
use Rattle.rules.specs.Mismatches.{mismatches}
use Rattle.rules.specs.Faults.{first, faults}
use Rattle.rules.specs.Order.{has_ended, row_faults, Accepted}
use Rattle.rules.specs.Records.{judged, Sealed, sealing, or_refused, refusal, finished, outcome}

refused_none : (o : Option Refusal) (rest : Result Sealed Refusal) (s : Sealed) → or_refused o rest ≡ Ok s → (o ≡ None) × (rest ≡ Ok s)
unfolding or_refused
refused_none None rest s e = (refl, e)
refused_none (Some r) rest s e = absurd (cc)

pub first-none : {X : Type 0} (xs : List X) → first xs ≡ None → xs ≡ []
first-none [] e = refl
first-none (x ∷ xs) e = absurd (cc)

or_none : (a b : Option Refusal) → option_or a b ≡ None → (a ≡ None) × (b ≡ None)
or_none None b e = (refl, e)
or_none (Some x) b e = absurd (cc)

ended_ok : (b : Bool) (rest : Result Sealed Refusal) (r : Refusal) (s : Sealed) → cond b rest (Err r) ≡ Ok s → (b ≡ true) × (rest ≡ Ok s)
ended_ok true rest r s e = (refl, e)
ended_ok false rest r s e = absurd (cc)

-- after the root's end everything is judged
pub all_judged : (toks : List Token) → has_ended toks ≡ true → judged toks ≡ toks
unfolding has_ended around judged
all_judged [] e = refl
all_judged (tag t ∷ past) e = absurd (false≢true e)
all_judged (text x ∷ past) e = refl
all_judged (end x ∷ past) e = refl

-- a record without refusal: each row might come next, and nothing that is judged is refused
pub unrefused : (texts : List Bytes) (K : Knows) (ext : List Name) (rows : List Row) → refusal texts K ext rows ≡ None
    → Accepted texts rows × (faults K ext (judged (tokens texts rows)) ≡ [])
unfolding refusal
unrefused texts K ext [] e = (tt, unfold tokens judged faults in refl)
unrefused texts K ext (r ∷ past) e =
    let a = or_none (refusal texts K ext past) _ e in
    let b = or_none (first (row_faults texts past r)) _ a.1 in
    ((first-none _ b.0, (unrefused texts K ext past a.0).0), first-none _ b.1)

pub record Whole (texts : List Bytes) (K : Knows) (ext : List Name) (rows : List Row) (s : Sealed) : Type 0 where
  pub accepted : Accepted texts rows
  pub faultless : faults K ext (tokens texts rows) ≡ []
  pub ended : has_ended (tokens texts rows) ≡ true
  pub matched : mismatches K ext (tokens texts rows) ≡ []
  pub kept-rows : s.rows ≡ kept_rows K ext (tokens texts rows)
  pub counted : s.count ≡ length s.rows

pub whole : (texts : List Bytes) (K : Knows) (ext : List Name) (rows : List Row) (s : Sealed) → outcome texts K ext rows ≡ Ok s
    → Whole texts K ext (reverse rows) s
unfolding outcome finished sealing
whole texts K ext rows s e =
    let a = refused_none (refusal texts K ext (reverse rows)) (finished texts K ext (reverse rows)) s e in
    let b = ended_ok (has_ended (tokens texts (reverse rows))) _ _ s a.1 in
    let c = refused_none (first (mismatches K ext (tokens texts (reverse rows)))) _ s b.1 in
    let d : sealing (kept_rows K ext (tokens texts (reverse rows))) ≡ s = cc in
    let u = unrefused texts K ext (reverse rows) a.0 in
    record {
      accepted = u.0;
      faultless = subst (λ l. faults K ext l ≡ []) (all_judged (tokens texts (reverse rows)) b.0) u.1;
      ended = b.0;
      matched = first-none _ c.0;
      kept-rows = sym (ap (λ (x : Sealed). x.rows) d);
      counted = subst (λ (x : Sealed). x.count ≡ length x.rows) d refl;
    }
