use Rattle.std.proofs.lemmas.Result.{on_ok_weaker}
use Rattle.sc_smtlib_lines.proofs.FunctionLaws.{gains_function}
use Rattle.sc_smtlib_lines.proofs.functions.put_function.Goals as goal

pub returns-clause-gains : goal.returns-clause-gains
returns-clause-gains c = on_ok_weaker c.put.result (λ more. gains_function _ _ _ more) c.put.ensures.one_more
