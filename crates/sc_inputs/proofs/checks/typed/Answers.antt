use Rattle.sc_typing.specs.Checking.{type_fault}
use Rattle.sc_inputs.specs.Refusals.{ill_typed}
use Rattle.sc_inputs.proofs.CheckingLaws.{first_refused, then_other}
use Rattle.sc_inputs.proofs.checks.typed.Goals as goal

pub returns-in-Some : goal.returns-in-Some
returns-in-Some c =
    rw c.in-Some.is (then_other (type_fault c.args.schema.now) ill_typed c.args.policies.now c.in-Some.others.now c.in-Ok.ensures c.check_typed-in-Some.result c.check_typed-in-Some.ensures)

pub returns-in-Err : goal.returns-in-Err
returns-in-Err c = first_refused (type_fault c.args.schema.now) ill_typed c.args.policies.now _ c.in-Err.fault c.in-Err.ensures
