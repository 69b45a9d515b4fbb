-- The goal of a question in an environment: the term that is true in the worlds that lack the property.
use Rattle.std.specs.Prelude.{List, [], ◌∷◌, Option, Some, option_map}
use Rattle.std.specs.Option.{option_and_then}
use Rattle.sc_ast.specs.declared.policy.Policy.{Policy}
use Rattle.sc_schema.specs.declared.declarations.Env.{Env}
use Rattle.sc_schema.specs.Declarations.{Declarations}
use Rattle.sc_question.specs.declared.question.Question.{Question}
use Rattle.sc_question.specs.declared.question.Question.TheVariants.{NeverErrors, AlwaysAllows, AlwaysDenies, Implies, Equivalent, Disjoint}
use Rattle.sc_terms.specs.Trees.{Tree}
use Rattle.sc_terms.specs.Folds.{not_term, and_term, equal_term}
use Rattle.sc_symeval.specs.Compiling.{policy_code}
use Rattle.sc_symauth.specs.Standings.{Compiled, allow, any_error}
use Rattle.sc_symauth.specs.Standings as standing
use Rattle.sc_ast.specs.declared.policy.Effect.{Effect}
use Rattle.sc_constructs.specs.Code.{Code}

-- of compiled policies
abbrev pub goal_of : Question → List Compiled → List Compiled → Tree
goal_of NeverErrors a b = any_error a
goal_of AlwaysAllows a b = not_term (allow a)
goal_of AlwaysDenies a b = allow a
goal_of Implies a b = and_term (allow a) (not_term (allow b))
goal_of Equivalent a b = not_term (equal_term (allow a) (allow b))
goal_of Disjoint a b = and_term (allow a) (allow b)

-- a policy of this effect, where its condition is typed
abbrev pub with_effect : Effect → Option Code → Option Compiled
with_effect effect o = option_map (standing.with_effect effect) o

-- what all of a list are compiled to, where each is
abbrev pub all_by : {X : Type 0} → (X → Option Compiled) → List X → Option (List Compiled)
all_by f [] = Some []
all_by f (x ∷ xs) = option_and_then (λ (c : Compiled). option_map (λ (cs : List Compiled). c ∷ cs) (all_by f xs)) (f x)

-- what a policy is compiled to in an environment, where it is typed there
abbrev pub compiled : Declarations → Env → Policy → Option Compiled
compiled s env p = with_effect p.effect (policy_code s env p)

-- what policies are compiled to, where all are typed
abbrev pub all_compiled : Declarations → Env → List Policy → Option (List Compiled)
all_compiled s env ps = all_by (compiled s env) ps

-- the goal, where all policies are typed
abbrev pub goal_term : Declarations → Env → Question → List Policy → List Policy → Option Tree
goal_term s env q a b = option_and_then (λ (x : List Compiled). option_map (goal_of q x) (all_compiled s env b))
    (all_compiled s env a)
