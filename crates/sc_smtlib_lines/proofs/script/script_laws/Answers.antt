use Rattle.sc_smtlib_lines.proofs.OneScriptLaws.{one_script}
use Rattle.sc_smtlib_lines.proofs.script.script_laws.Goals as goal

pub returns : goal.returns
returns c = λ t a b p q. one_script t a b p q
