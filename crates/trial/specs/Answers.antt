-- The refusal that a call answers, if any.
use Rattle.std.specs.Prelude.{Some, None, Ok, Err, Option, Result}
use Rattle.record.specs.declared.refusal.Refusal.{Refusal}

abbrev pub refusal_of : {X : Type 0} → Result X Refusal → Option Refusal
refusal_of (Ok x) = None
refusal_of (Err refusal) = Some refusal
