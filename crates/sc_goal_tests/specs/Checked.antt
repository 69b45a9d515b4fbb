-- Policies that a file spells and that pass the checks, and goals in a table of terms.
use Rattle.std.specs.Prelude.{◌≡◌, ◌<◌, ℕ, List, None, length}
use Rattle.sc_ast.specs.declared.policy.Policy.{Policy}
use Rattle.sc_closure_rules.specs.Goals.{IsGoal}
use Rattle.sc_names.specs.declared.uid.Uid.{Uid}
use Rattle.sc_sorts.specs.declared.node.Node.{Node}
use Rattle.sc_schema.specs.declared.declarations.Env.{Env}
use Rattle.sc_schema.specs.Declarations.{Declarations}
use Rattle.sc_terms.specs.Tables.{tree}
use Rattle.sc_typing.specs.Checking.{type_fault}
use Rattle.sc_typing.specs.Names.{name_fault}

-- they have types, and write declared names alone
pub record IsChecked (s : Declarations) (ps : List Policy) : Type 0 where
  pub types : type_fault s ps ≡ None
  pub names : name_fault s ps ≡ None

-- a term of the table is what closure asks of a goal
pub record IsGoalAt (s : Declarations) (env : Env) (literals : List Uid) (xs : List Node) (n : ℕ) : Type 0 where
  pub within : n < length xs
  pub goal : IsGoal s env literals (tree xs n)
