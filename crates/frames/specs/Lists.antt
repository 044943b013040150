-- The names of an extension list.
use Rattle.std.specs.Prelude.{List}
use Rattle.file.specs.Files.{held}
use Rattle.card.specs.Cards.{Name, extensions}
use Rattle.card.specs.declared.extensions.Extensions.{Extensions}

unfoldable pub extension_list : Extensions → List Name
extension_list e = extensions (held e.card)
