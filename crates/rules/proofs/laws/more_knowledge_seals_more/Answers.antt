use Rattle.rules.proofs.Sealed.{more_knowledge_seals_more}
use Rattle.rules.proofs.laws.more_knowledge_seals_more.Goals as goal

pub returns : goal.returns
returns c = more_knowledge_seals_more
