-- How policies stand and what a set of them decides, as terms.
use Rattle.std.specs.Prelude.{List, Bool, map, filter, not}
use Rattle.sc_ast.specs.declared.policy.Effect.{Effect}
use Rattle.sc_auth.specs.Decisions.{permits}
use Rattle.sc_schema.specs.declared.declarations.Env.{Env}
use Rattle.sc_schema.specs.Declarations.{Declarations}
use Rattle.sc_terms.specs.Trees.{Tree}
use Rattle.sc_terms.specs.Folds.{not_term, and_term}
use Rattle.sc_terms.specs.Joined.{any_of}
use Rattle.sc_constructs.specs.Code.{Code}
use Rattle.sc_symeval.specs.Codes.{code_of}
use Rattle.sc_symauth.specs.declared.typed.Typed.{Typed}

-- the condition has a value, and it is true
abbrev pub satisfied : Code → Tree
satisfied c = and_term c.ok c.val

-- the condition has no value
abbrev pub error : Code → Tree
error c = not_term c.ok

-- a policy's effect, and what its condition is compiled to
pub record Compiled : Type 0 where
  pub effect : Effect
  pub code : Code

-- whether one of the policies that pass a test is satisfied
abbrev pub any_satisfied : (Compiled → Bool) → List Compiled → Tree
any_satisfied test ps = any_of (map (λ (p : Compiled). satisfied p.code) (filter test ps))

-- some permit is satisfied, and no forbid is
abbrev pub allow : List Compiled → Tree
allow ps = and_term (any_satisfied (λ p. permits p.effect) ps)
    (not_term (any_satisfied (λ p. not (permits p.effect)) ps))

-- whether the condition of one of the policies has no value
abbrev pub any_error : List Compiled → Tree
any_error ps = any_of (map (λ (p : Compiled). error p.code) ps)

-- ---- what policies are compiled to

abbrev pub with_effect : Effect → Code → Compiled
with_effect effect c = record { effect = effect; code = c }

abbrev pub compiled_typed : Declarations → Env → Typed → Compiled
compiled_typed s env p = with_effect p.effect (code_of s env p.condition)

abbrev pub all_compiled : Declarations → Env → List Typed → List Compiled
all_compiled s env ps = map (compiled_typed s env) ps
