-- When compiled policies agree with policies in a world.
use Rattle.std.specs.Prelude.{◌≡◌, List, Bool, Ok, Err, ⊤}
use Rattle.sc_ast.specs.Conditions.{condition}
use Rattle.sc_ast.specs.declared.policy.Policy.{Policy}
use Rattle.sc_values.specs.declared.value.Value.TheVariants as value
use Rattle.sc_world.specs.declared.world.World.{World}
use Rattle.sc_eval.specs.Outcomes.{Outcome}
use Rattle.sc_eval.specs.Eval.{eval}
use Rattle.sc_names.specs.declared.uid.Uid.{Uid}
use Rattle.sc_schema.specs.declared.declarations.Env.{Env}
use Rattle.sc_schema.specs.Declarations.{Declarations}
use Rattle.sc_sorts.specs.declared.sort.Sort.TheVariants as sort
use Rattle.sc_term_laws.specs.Judging.{IsTermOf}
use Rattle.sc_symeval.specs.Agreement.{Agrees}
use Rattle.sc_symauth.specs.Standings.{Compiled}

-- a value that comes is true or false
abbrev pub IsTruth : Outcome → Type 0
IsTruth (Ok x) = (b : Bool) × (x ≡ value.Bool b)
IsTruth (Err e) = ⊤

-- it has the policy's effect, and terms that agree with what the policy's condition comes to
pub record Represents (w : World) (c : Compiled) (p : Policy) : Type 0 where
  pub effect : c.effect ≡ p.effect
  pub agrees : Agrees w c.code (eval (condition p) w)

-- both its terms are terms, and true or false
pub record AreTerms (s : Declarations) (env : Env) (written : List Uid) (c : Compiled) : Type 0 where
  pub ok : IsTermOf s env written sort.Bool c.code.ok
  pub val : IsTermOf s env written sort.Bool c.code.val
