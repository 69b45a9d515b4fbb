use Rattle.sc_typing_laws.proofs.DeclaredLaws.{all_declared}
use Rattle.sc_typing_laws.proofs.declared.declared_laws.Goals as goal

pub returns : goal.returns
returns c = all_declared
