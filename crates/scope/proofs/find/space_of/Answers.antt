use Rattle.std.proofs.Common.{rules}
use Rattle.std.specs.Str.{bytes_eq}
use Rattle.file.specs.Texts.{texts}
use Rattle.rules.specs.Scope.{Binding, bound}
use Rattle.scope.specs.Entries.{binding_of, bindings_of}
use Rattle.scope.proofs.Finds.{newest_meant}
use Rattle.scope.proofs.find.space_of.Goals as goal

pub returns-in_err-binding : goal.returns-in_err-binding
unfolding bound bindings_of
returns-in_err-binding c =
    rw (← newest_meant (binding_of (texts c.args.lent)) (λ (b : Binding). bytes_eq b.prefix c.args.prefix.now) _ _ c.newest.ensures) (search rules)

pub returns : goal.returns
unfolding bound bindings_of
returns c =
    rw (← newest_meant (binding_of (texts c.args.lent)) (λ (b : Binding). bytes_eq b.prefix c.args.prefix.now) _ _ c.newest.ensures) (search rules)
