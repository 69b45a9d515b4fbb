use Rattle.sc_inputs.proofs.CheckingLaws.{undeclared_so, untyped_if, served_so}
use Rattle.sc_inputs.proofs.checks.check_question.Goals as goal

pub returns-in-Ok-clause-ok : goal.returns-in-Ok-clause-ok
returns-in-Ok-clause-ok c = served_so c.args.schema.now c.args.policies.now _ c.in-Ok.ensures c.typed.result c.typed.ensures

pub returns-in-Ok-clause-fails : goal.returns-in-Ok-clause-fails
returns-in-Ok-clause-fails c = untyped_if c.args.schema.now c.args.policies.now _ c.in-Ok.ensures c.typed.result c.typed.ensures

pub returns-in-Err-clause-fails : goal.returns-in-Err-clause-fails
returns-in-Err-clause-fails c = undeclared_so c.args.schema.now c.args.policies.now _ c.in-Err.fault c.in-Err.ensures
