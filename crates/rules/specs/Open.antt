-- Opens every definition of the rules, for a proof that computes.
use Rattle.text.specs.Names.{mc_namespace, xml_namespace, in_mc, in_xml, is_xml_prefix, is_requires, is_inherited, element_named, attribute_named}
use Rattle.file.specs.Form.{text_at}
use Rattle.knowledge.specs.Understood.{is_understood}
use Rattle.card.specs.Cards.{on_list}
use Rattle.card.specs.Rows.{first_at}
use Rattle.items.specs.Items.{open_items}
use Rattle.rules.specs.Elements.{open_elements}
use Rattle.rules.specs.Scope.{open_scope}
use Rattle.rules.specs.Steps.{open_steps}
use Rattle.rules.specs.Mismatches.{open_mismatches}
use Rattle.rules.specs.Faults.{open_faults}
use Rattle.rules.specs.Order.{open_order}
use Rattle.rules.specs.Records.{open_records}
use Rattle.rules.specs.States.{open_states}

unfoldable pub open_rules : Unit {0}
unfolding mc_namespace xml_namespace in_mc in_xml is_xml_prefix is_requires is_inherited element_named attribute_named text_at is_understood on_list first_at open_items open_elements open_scope open_steps open_mismatches open_faults open_order open_records open_states
open_rules = tt
