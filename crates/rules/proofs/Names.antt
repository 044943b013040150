-- What the names of MC say of one another.
use Rattle.std.proofs.Common.{◌≡◌, Bool, true, false, cond, ◌||◌, is_some, Some, None, Option, refl}
use mathlib.Core.Bool.{false≢true}
use Rattle.text.specs.Names.{in_mc, element_named, attribute_named}
use Rattle.text.specs.declared.names.McElement.{McElement}
use Rattle.text.specs.declared.names.McElement.TheVariants.{AlternateContent, Choice, Fallback}
use Rattle.text.specs.declared.names.McAttribute.{McAttribute}
use Rattle.rules.specs.Elements.{Attr, Tag}
use Rattle.rules.specs.Scope.{mc_element, alternate, choice, fallback, is_alternate_content, is_choice, is_fallback, is_branch, mc_attribute, must, is_must_understand}

pub in-mc : (b : Bool) (m : Option McElement) → is_some (cond b m None) ≡ true → b ≡ true
in-mc true m e = refl
in-mc false m e = absurd (false≢true e)

alt_some : (m : Option McElement) → alternate m ≡ true → is_some m ≡ true
alt_some (Some x) e = refl
alt_some None e = e

branch-some : (m : Option McElement) → (choice m || fallback m) ≡ true → is_some m ≡ true
branch-some (Some x) e = refl
branch-some None e = e

alt_alone : (m : Option McElement) → alternate m ≡ true → (choice m || fallback m) ≡ false
alt_alone (Some AlternateContent) e = refl
alt_alone (Some Choice) e = absurd (false≢true e)
alt_alone (Some Fallback) e = absurd (false≢true e)
alt_alone None e = refl

pub alt_mc : (t : Tag) → is_alternate_content t ≡ true → in_mc t.namespace ≡ true
unfolding is_alternate_content mc_element
alt_mc t e = in-mc (in_mc t.namespace) (element_named t.name) (alt_some _ e)

pub branch-mc : (t : Tag) → is_branch t ≡ true → in_mc t.namespace ≡ true
unfolding is_branch is_choice is_fallback mc_element
branch-mc t e = in-mc (in_mc t.namespace) (element_named t.name) (branch-some _ e)

pub alt_not_branch : (t : Tag) → is_alternate_content t ≡ true → is_branch t ≡ false
unfolding is_alternate_content is_branch is_choice is_fallback
alt_not_branch t e = alt_alone (mc_element t) e

-- a name that MC has is one of three
known : (b : Bool) (m : Option McElement) → b ≡ true → is_some m ≡ true
    → (alternate (cond b m None) || (choice (cond b m None) || fallback (cond b m None))) ≡ true
known true (Some AlternateContent) e f = refl
known true (Some Choice) e f = refl
known true (Some Fallback) e f = refl
known true None e f = f
known false m e f = absurd (false≢true e)

pub name-known : (t : Tag) → in_mc t.namespace ≡ true → is_some (element_named t.name) ≡ true
    → (is_alternate_content t || is_branch t) ≡ true
unfolding is_alternate_content is_branch is_choice is_fallback mc_element
name-known t e f = known (in_mc t.namespace) (element_named t.name) e f

must_in : (b : Bool) (m : Option McAttribute) → must (cond b m None) ≡ true → b ≡ true
must_in true m e = refl
must_in false m e = absurd (false≢true e)

pub must-mc : (x : Attr) → is_must_understand x ≡ true → in_mc x.namespace ≡ true
unfolding is_must_understand mc_attribute
must-mc x e = must_in (in_mc x.namespace) (attribute_named x.name) e
