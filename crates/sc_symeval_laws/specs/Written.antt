-- In what expressions are compiled, and what they write.
use Rattle.std.specs.Prelude.{Contains, IsTrue, List}
use Rattle.std.specs.List.{AllByRecursion}
use Rattle.sc_ast.specs.declared.expr.Expr.{Expr}
use Rattle.sc_ast.specs.declared.policy.Policy.{Policy}
use Rattle.sc_ast.specs.Conditions.{condition}
use Rattle.sc_ast.specs.Literals.{expr_uids, policy_uids}
use Rattle.sc_eval.specs.Written.{HasProperConstants}
use Rattle.sc_names.specs.declared.uid.Uid.{Uid}
use Rattle.sc_schema.specs.declared.declarations.Env.{Env}
use Rattle.sc_schema.specs.Declarations.{Declarations, environments}
use Rattle.sc_schema.specs.Lawful.{IsLawful}
use Rattle.sc_typing.specs.Names.{is_declared}

-- an environment of a lawful schema, and uids that the schema declares
pub record IsSetting (s : Declarations) (env : Env) (written : List Uid) : Type 0 where
  pub lawful : IsLawful s
  pub environment : Contains (environments s) env
  pub declared : (u : Uid) → Contains written u → IsTrue (is_declared s u)

-- its uids are among these, its numbers are in range, and its texts are of scalar values
pub record IsWrittenExpr (written : List Uid) (x : Expr) : Type 0 where
  pub uids : AllByRecursion (Contains written) (expr_uids x)
  pub constants : HasProperConstants x

-- the same of a policy
pub record IsWritten (written : List Uid) (p : Policy) : Type 0 where
  pub uids : AllByRecursion (Contains written) (policy_uids p)
  pub constants : HasProperConstants (condition p)
