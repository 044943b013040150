-- The worked cases, with one statement.
use Rattle.std.specs.Prelude.{◌++◌}
use Rattle.rules_cases.specs.Case.{AsStated}
use Rattle.rules_cases.specs.Refused.{refused_cases}
use Rattle.rules_cases.specs.Matched.{matched_cases}

abbrev pub WorkedAsStated : Type 0
WorkedAsStated = AsStated (refused_cases ++ matched_cases)
