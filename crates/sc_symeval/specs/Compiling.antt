-- What the conditions of policies are compiled to.
use Rattle.std.specs.Prelude.{Option, Some, None, Result, Ok, Err}
use Rattle.sc_ast.specs.declared.policy.Policy.{Policy}
use Rattle.sc_schema.specs.declared.declarations.Env.{Env}
use Rattle.sc_schema.specs.Declarations.{Declarations}
use Rattle.sc_typed.specs.declared.fault.TypeFault.{TypeFault}
use Rattle.sc_typed.specs.declared.typed_expr.TypedExpr.{TypedExpr}
use Rattle.sc_typing.specs.Policies.{typed_policy}
use Rattle.sc_constructs.specs.Code.{Code}
use Rattle.sc_symeval.specs.Codes.{code_of}

abbrev pub code_typed : Declarations → Env → Result TypedExpr TypeFault → Option Code
code_typed s env (Ok x) = Some (code_of s env x)
code_typed s env (Err e) = None

-- what the condition of a policy is compiled to in an environment; none where it isn't typed there
abbrev pub policy_code : Declarations → Env → Policy → Option Code
policy_code s env p = code_typed s env (typed_policy s env p)
