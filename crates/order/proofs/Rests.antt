-- What the rules ask of tokens: the element that waits, the number of open elements, whether the root has ended.
use Rattle.std.proofs.Common.{◌≡◌, ◌-◌, Bool, true, false, eqb, List, [], ◌∷◌, length, refl, arith}
use mathlib.Core.Bool.{false≢true}
use mathlib.Core.List.{tail}
use Rattle.rules.specs.Elements.{Tag, Token, tag, text, end, on_top, Element, around}
use Rattle.rules.specs.Order.{is_none, has_ended, on_tag}
use Rattle.rules.specs.Records.{waiting}

-- a test of the newest tag is one of the element that waits
pub on-waiting : (f : Tag → Bool) (toks : List Token) → on_tag f (waiting toks) ≡ on_tag f toks
unfolding on_tag waiting
on-waiting f [] = refl
on-waiting f (tag t ∷ past) = refl
on-waiting f (text x ∷ past) = refl
on-waiting f (end x ∷ past) = refl

pub waiting_on_top : (f : Tag → Tag) (toks : List Token) → waiting (on_top f toks) ≡ on_top f (waiting toks)
unfolding on_top waiting
waiting_on_top f [] = refl
waiting_on_top f (tag t ∷ past) = refl
waiting_on_top f (text x ∷ past) = refl
waiting_on_top f (end x ∷ past) = refl

pub around_on_top : (f : Tag → Tag) (toks : List Token) → length (around (on_top f toks)) ≡ length (around toks)
unfolding on_top around
around_on_top f [] = refl
around_on_top f (tag t ∷ past) = refl
around_on_top f (text x ∷ past) = refl
around_on_top f (end x ∷ past) = refl

pub ended_on_top : (f : Tag → Tag) (toks : List Token) → has_ended (on_top f toks) ≡ has_ended toks
unfolding on_top has_ended around
ended_on_top f [] = refl
ended_on_top f (tag t ∷ past) = refl
ended_on_top f (text x ∷ past) = refl
ended_on_top f (end x ∷ past) = refl

pub ended_on_tag : (f : Tag → Tag) (test : Tag → Bool) (toks : List Token) → on_tag test toks ≡ true
    → has_ended (on_top f toks) ≡ is_none (around (on_top f toks))
unfolding on_top on_tag has_ended around
ended_on_tag f test [] e = absurd (false≢true e)
ended_on_tag f test (tag t ∷ past) e = refl
ended_on_tag f test (text x ∷ past) e = refl
ended_on_tag f test (end x ∷ past) e = refl

pub none-length : (es : List Element) → is_none es ≡ eqb (length es) 0
none-length [] = refl
none-length (e ∷ es) = grind arith

pub tail_length : (es : List Element) → length (tail es) ≡ length es - 1
tail_length [] = refl
tail_length (e ∷ es) = grind arith

-- a record with an element open has not ended
pub still_open : (toks : List Token) → is_none (around toks) ≡ false → has_ended toks ≡ false
unfolding has_ended
still_open [] e = refl
still_open (t ∷ past) e = e
