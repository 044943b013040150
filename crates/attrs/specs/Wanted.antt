-- An attribute of markup compatibility is the one that is sought.
use Rattle.std.specs.Prelude.{Bool, Option}
use Rattle.text.specs.declared.names.McAttribute.{McAttribute}
use Rattle.text.specs.declared.names.McAttribute.TheVariants.{Ignorable, ProcessContent, MustUnderstand}
use Rattle.rules.specs.Scope.{ignorable, process, must}

abbrev pub is_wanted : McAttribute → Option McAttribute → Bool
is_wanted Ignorable found = ignorable found
is_wanted ProcessContent found = process found
is_wanted MustUnderstand found = must found
