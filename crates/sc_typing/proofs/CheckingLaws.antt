-- What refusals tell, and the first fault of a list by its first part and the rest of it.
use Rattle.std.proofs.Common.{◌≡◌, ℕ, ◌+◌, ◌<◌, List, ◌∷◌, length, drop, get_or, Option, Some, None, Result, Ok, Err, refl, sym, ap, ◌∙◌}
use Rattle.std.specs.Option.{option_or}
use Rattle.std.proofs.lemmas.List.{at_drop_more}
use Rattle.sc_ast.specs.declared.policy.Policy.{Policy}
use Rattle.sc_schema.specs.declared.declarations.Env.{Env}
use Rattle.sc_schema.specs.Declarations.{Declarations, environments}
use Rattle.sc_typing.specs.Checking.{refusing, fault_in, first_in, fault_from}

-- no refusal tells that there is no fault
pub none_where_passed : {E : Type 0} (o : Option E) → refusing o ≡ Ok tt → o ≡ None
none_where_passed None e = refl
none_where_passed (Some x) e = absurd cc

-- a refusal tells the fault
pub some_where_refused : {E : Type 0} (o : Option E) (x : E) → refusing o ≡ Err x → o ≡ Some x
some_where_refused None x e = absurd cc
some_where_refused (Some y) x e = cc

-- the first refusal of two
abbrev pub before : {E : Type 0} → Result (Unit {0}) E → Result (Unit {0}) E → Result (Unit {0}) E
before (Ok x) r = r
before (Err e) r = Err e

refusing-or : {E : Type 0} (a b : Option E) → refusing (option_or a b) ≡ before (refusing a) (refusing b)
refusing-or None b = refl
refusing-or (Some e) b = refl

pub environments_more : (s : Declarations) (n : ℕ) (p : Policy) (envs : List Env) (i : ℕ) (env : Env) → i < length envs → env ≡ get_or envs i env
    → refusing (first_in s n p (drop i envs)) ≡ before (refusing (fault_in s n p env)) (refusing (first_in s n p (drop (i + 1) envs)))
unfolding first_in
environments_more s n p envs i env h e =
    at_drop_more (λ es. refusing (first_in s n p es)) envs i env h ∙ ap (λ z. refusing (first_in s n p (z ∷ drop (i + 1) envs))) (sym e)
    ∙ refusing-or (fault_in s n p env) (first_in s n p (drop (i + 1) envs))

pub policies_more : (s : Declarations) (ps : List Policy) (i : ℕ) (p : Policy) → i < length ps → p ≡ get_or ps i p
    → refusing (fault_from s i (drop i ps)) ≡ before (refusing (first_in s i p (environments s))) (refusing (fault_from s (i + 1) (drop (i + 1) ps)))
unfolding fault_from
policies_more s ps i p h e =
    at_drop_more (λ qs. refusing (fault_from s i qs)) ps i p h ∙ ap (λ z. refusing (fault_from s i (z ∷ drop (i + 1) ps))) (sym e)
    ∙ refusing-or (first_in s i p (environments s)) (fault_from s (i + 1) (drop (i + 1) ps))
