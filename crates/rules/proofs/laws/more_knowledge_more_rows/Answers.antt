use Rattle.rules.proofs.Wider.{more_knowledge_more_rows}
use Rattle.rules.proofs.laws.more_knowledge_more_rows.Goals as goal

pub returns : goal.returns
returns c = more_knowledge_more_rows
