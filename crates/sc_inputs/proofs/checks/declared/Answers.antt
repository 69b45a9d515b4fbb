use Rattle.std.proofs.Common.{option_map, Bor, List}
use Rattle.sc_ast.specs.declared.policy.Policy.{Policy}
use Rattle.sc_typing.specs.Names.{name_fault}
use Rattle.sc_inputs.specs.Refusals.{unknown_name}
use Rattle.sc_inputs.proofs.CheckingLaws.{first_refused, then_other}
use Rattle.sc_inputs.proofs.checks.declared.Goals as goal

pub returns-in-Some : goal.returns-in-Some
returns-in-Some c =
    rw c.in-Some.is (then_other (name_fault c.args.schema.now) unknown_name c.args.policies.now c.in-Some.others.now c.in-Ok.ensures c.check_declared-in-Some.result c.check_declared-in-Some.ensures)

pub returns-in-Err : goal.returns-in-Err
returns-in-Err c = first_refused (name_fault c.args.schema.now) unknown_name c.args.policies.now (option_map (λ (ps : Bor (List Policy)). ps.now) c.args.against) c.in-Err.fault c.in-Err.ensures
