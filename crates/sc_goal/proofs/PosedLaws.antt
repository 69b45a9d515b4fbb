-- Policies that are typed and have no further constructs are compiled.
use Rattle.std.proofs.Common.{◌≡◌, inl, inr, ℕ, ◌+◌, true, false, List, [], ◌∷◌, Contains, Option, Some, None, IsSome, Result, Ok, Err, refl, sym, subst}
use Rattle.std.specs.Option.{option_map, option_and_then, option_or}
use Rattle.sc_lists.proofs.ListLaws.{contains_nothing, contains_split}
use Rattle.sc_ast.specs.declared.policy.Policy.{Policy}
use Rattle.sc_schema.specs.declared.declarations.Env.{Env}
use Rattle.sc_schema.specs.Declarations.{Declarations, environments}
use Rattle.sc_typed.specs.declared.fault.TypeFault.{TypeFault}
use Rattle.sc_typed.specs.declared.typed_expr.TypedExpr.{TypedExpr}
use Rattle.sc_typing.specs.declared.ill_typed.IllTyped.{IllTyped}
use Rattle.sc_typing.specs.Policies.{typed_policy}
use Rattle.sc_typing.specs.Checking.{fault_of, fault_in, fault_from, type_fault}
use Rattle.sc_typing.specs.Checking as typing
use Rattle.sc_symeval.specs.Compiling.{code_typed}
use Rattle.sc_symauth.specs.Standings.{Compiled}
use Rattle.sc_goal.specs.Goals.{with_effect}
use Rattle.sc_goal.specs.Goals.{compiled, all_compiled}

-- ---- where nothing is told

neither : {X : Type 0} (a b : Option X) → option_or a b ≡ None → (a ≡ None) × (b ≡ None)
neither None b e = (refl, e)
neither (Some x) b e = absurd (let clash : Some x ≡ None = e in cc)

not_mapped : {X Y : Type 0} (f : X → Y) (o : Option X) → option_map f o ≡ None → o ≡ None
not_mapped f None e = refl
not_mapped f (Some x) e = absurd (let clash : Some (f x) ≡ None = e in cc)

some_not_none : {X : Type 0} (o : Option X) → IsSome o → o ≡ None → ⊥
some_not_none None h e = let clash : false ≡ true = h in cc
some_not_none (Some x) h e = let clash : Some x ≡ None = e in cc

-- ---- types

no_fault : (s : Declarations) (i : ℕ) (p : Policy) (env : Env) (envs : List Env) → Contains envs env → typing.first_in s i p envs ≡ None → fault_in s i p env ≡ None
unfolding typing.first_in
no_fault s i p env [] has e = absurd (contains_nothing env has)
no_fault s i p env (other ∷ envs) has e =
    let both = neither (fault_in s i p other) (typing.first_in s i p envs) e in
    elim (contains_split other envs env has) [ inl is ↦ subst (λ (x : Env). fault_in s i p x ≡ None) is both.0 | inr later ↦ no_fault s i p env envs later both.1 ]

typed_of : (i : ℕ) (env : Env) (r : Result TypedExpr TypeFault) → option_map {U = IllTyped} (λ (f : TypeFault). record { policy = i; env = env; fault = f }) (fault_of r) ≡ None → (x : TypedExpr) × (r ≡ Ok x)
typed_of i env (Ok x) e = (x, refl)
typed_of i env (Err f) e = absurd (some_not_none {X = IllTyped} (Some (record { policy = i; env = env; fault = f })) refl e)

-- ---- all policies

pub both_come : (o : Option Compiled) (r : Option (List Compiled)) → IsSome o → IsSome r → IsSome (option_and_then (λ (c : Compiled). option_map (λ (cs : List Compiled). c ∷ cs) r) o)
both_come None r h k = h
both_come (Some c) None h k = k
both_come (Some c) (Some cs) h k = refl

module _ (s : Declarations) (env : Env) (has : Contains (environments s) env) where
  -- a policy that is typed is compiled
  one_comes : (i : ℕ) (p : Policy) → typing.first_in s i p (environments s) ≡ None → IsSome (compiled s env p)
  one_comes i p plain =
      let x = typed_of i env (typed_policy s env p) (no_fault s i p env (environments s) has plain) in
      subst (λ (r : Result TypedExpr TypeFault). IsSome (with_effect p.effect (code_typed s env r))) (sym x.1) refl

  all_come : (i : ℕ) (ps : List Policy) → fault_from s i ps ≡ None → IsSome (all_compiled s env ps)
  unfolding fault_from
  all_come i [] typed = refl
  all_come i (p ∷ ps) typed =
      let t = neither (typing.first_in s i p (environments s)) (fault_from s (i + 1) ps) typed in
      both_come (compiled s env p) (all_compiled s env ps) (one_comes i p t.0) (all_come (i + 1) ps t.1)

  pub all_are_compiled : (ps : List Policy) → type_fault s ps ≡ None → IsSome (all_compiled s env ps)
  all_are_compiled ps typed = all_come 0 ps typed
