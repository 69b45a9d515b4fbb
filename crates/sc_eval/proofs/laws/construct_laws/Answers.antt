use Rattle.sc_eval.specs.ConstructLaws.{eval_If, eval_Or, eval_And, eval_Binary, eval_Has, eval_Like, eval_Is, eval_IsIn, eval_Unary, eval_Access, eval_Literal, eval_Variable, eval_Set, eval_Record}
use Rattle.sc_eval.proofs.laws.construct_laws.Goals as goal

pub returns-clause-of_if : goal.returns-clause-of_if
returns-clause-of_if c = eval_If

pub returns-clause-of_or : goal.returns-clause-of_or
returns-clause-of_or c = eval_Or

pub returns-clause-of_and : goal.returns-clause-of_and
returns-clause-of_and c = eval_And

pub returns-clause-of_binary : goal.returns-clause-of_binary
returns-clause-of_binary c = eval_Binary

pub returns-clause-of_has : goal.returns-clause-of_has
returns-clause-of_has c = eval_Has

pub returns-clause-of_like : goal.returns-clause-of_like
returns-clause-of_like c = eval_Like

pub returns-clause-of_is : goal.returns-clause-of_is
returns-clause-of_is c = eval_Is

pub returns-clause-of_is_in : goal.returns-clause-of_is_in
returns-clause-of_is_in c = eval_IsIn

pub returns-clause-of_unary : goal.returns-clause-of_unary
returns-clause-of_unary c = eval_Unary

pub returns-clause-of_access : goal.returns-clause-of_access
returns-clause-of_access c = eval_Access

pub returns-clause-of_literal : goal.returns-clause-of_literal
returns-clause-of_literal c = eval_Literal

pub returns-clause-of_variable : goal.returns-clause-of_variable
returns-clause-of_variable c = eval_Variable

pub returns-clause-of_set : goal.returns-clause-of_set
returns-clause-of_set c = eval_Set

pub returns-clause-of_record : goal.returns-clause-of_record
returns-clause-of_record c = eval_Record
