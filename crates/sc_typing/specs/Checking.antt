-- Whether all policies have types in all environments of a schema, and which hasn't first.
use Rattle.std.specs.Prelude.{ℕ, ◌+◌, List, [], ◌∷◌, Option, Some, None, option_map, Result, Ok, Err}
use Rattle.std.specs.Option.{option_or}
use Rattle.sc_ast.specs.declared.policy.Policy.{Policy}
use Rattle.sc_schema.specs.declared.declarations.Env.{Env}
use Rattle.sc_schema.specs.Declarations.{Declarations, environments}
use Rattle.sc_typed.specs.declared.fault.TypeFault.{TypeFault}
use Rattle.sc_typing.specs.declared.ill_typed.IllTyped.{IllTyped}
use Rattle.sc_typing.specs.Policies.{typed_policy}

-- a refusal, if there is a fault
abbrev pub refusing : {E : Type 0} → Option E → Result (Unit {0}) E
refusing None = Ok tt
refusing (Some e) = Err e

abbrev pub fault_of : {A E : Type 0} → Result A E → Option E
fault_of (Ok x) = None
fault_of (Err e) = Some e

-- policy i in one environment
abbrev pub fault_in : Declarations → ℕ → Policy → Env → Option IllTyped
fault_in s i p env = option_map (λ (f : TypeFault). record { policy = i; env = env; fault = f })
    (fault_of (typed_policy s env p))

-- in the first of these environments in which it has no type
unfoldable pub first_in : Declarations → ℕ → Policy → List Env → Option IllTyped
first_in s i p [] = None
first_in s i p (env ∷ envs) = option_or (fault_in s i p env) (first_in s i p envs)

-- of policies that are counted from i on
unfoldable pub fault_from : Declarations → ℕ → List Policy → Option IllTyped
fault_from s i [] = None
fault_from s i (p ∷ ps) = option_or (first_in s i p (environments s)) (fault_from s (i + 1) ps)

abbrev pub type_fault : Declarations → List Policy → Option IllTyped
type_fault s ps = fault_from s 0 ps
