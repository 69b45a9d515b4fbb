use Rattle.sc_typing_laws.proofs.DeclaredLiteralLaws.{for_others}
use Rattle.sc_typing_laws.proofs.declared.literal_laws.Goals as goal

pub returns : goal.returns
returns c = for_others
