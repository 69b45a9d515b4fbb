-- The first closed term that is the principal is that of the environment, and so for the resource.
use Rattle.std.proofs.Common.{◌≡◌, ℕ, Bool, true, false, cond, List, [], ◌∷◌, map, Option, Some, None, unwrap_or, inl, inr, refl, sym, ap, ◌∙◌, subst}
use Rattle.sc_lists.proofs.ListLaws.{contains_map}
use Rattle.sc_lists.proofs.MemberLaws.{Has-from_Contains}
use Rattle.sc_lists.specs.Members.{Has}
use Rattle.sc_names.specs.declared.uid.Uid.{Uid}
use Rattle.sc_schema.specs.declared.declarations.Env.{Env}
use Rattle.sc_schema.specs.Declarations.{Declarations, context_of}
use Rattle.sc_values.specs.Records.{Fields}
use Rattle.sc_world.specs.Defaults.{default_fields}
use Rattle.sc_sorts.specs.declared.sort.Sort.{Sort}
use Rattle.sc_sorts.specs.declared.node.Leaf.TheVariants as leafs
use Rattle.sc_terms.specs.Trees.{Tree, leaf}
use Rattle.sc_terms.specs.TreeSorts.{tree_sort}
use Rattle.sc_terms.specs.Tables.{tree}
use Rattle.sc_term_laws.specs.Judging.{IsTermOf}
use Rattle.sc_term_laws.specs.Judging as judged
use Rattle.sc_footprint.specs.Closure.{Closed, of_principal, of_resource, principal_term, resource_term}
use Rattle.sc_clauses.specs.Assignments.{Assignment}
use Rattle.sc_footprint.specs.Problems.{Posed, IsPosed, goal_term, closed_terms}
use Rattle.sc_footprint.specs.Theories.{ClosedAreTerms}
use Rattle.sc_model_worlds.specs.declared.sought.Sought.{Sought}
use Rattle.sc_model_worlds.specs.declared.sought.Sought.TheVariants.{Principal, Resource}
use Rattle.sc_model_values.specs.Models.{model}
use Rattle.sc_model_world_laws.specs.Rebuilt.{first_said, context_said, request_of}
use Rattle.sc_model_worlds.specs.Listed.{IsListed}
use Rattle.sc_model_worlds.specs.Saying.{says, first_saying, is_principal, is_resource, uid_in}

-- ---- by the sort that a term is judged to have

principal_at : (d : Declarations) (env : Env) (literals : List Uid) (j k : Sort) → IsTermOf d env literals j (leaf (leafs.Principal k)) → leaf (leafs.Principal k) ≡ principal_term d env
principal_at d env literals _ _ judged.of_principal = refl

principal_by : (d : Declarations) (env : Env) (literals : List Uid) (k : Sort) (t : Tree) → IsTermOf d env literals k t → is_principal t ≡ true → t ≡ principal_term d env
principal_by d env literals k (leaf (leafs.Principal j)) is h = principal_at d env literals k j is
principal_by d env literals k _ is h = absurd cc

resource_at : (d : Declarations) (env : Env) (literals : List Uid) (j k : Sort) → IsTermOf d env literals j (leaf (leafs.Resource k)) → leaf (leafs.Resource k) ≡ resource_term d env
resource_at d env literals _ _ judged.of_resource = refl

resource_by : (d : Declarations) (env : Env) (literals : List Uid) (k : Sort) (t : Tree) → IsTermOf d env literals k t → is_resource t ≡ true → t ≡ resource_term d env
resource_by d env literals k (leaf (leafs.Resource j)) is h = resource_at d env literals k j is
resource_by d env literals k _ is h = absurd cc

-- ---- the first of them

module _ (p : Posed) (names : List (List ℕ)) (s : Sought) where
  says_so : (ns : List ℕ) (n : ℕ) → first_saying p names s ns ≡ Some n → says p names s (tree p.nodes n) ≡ true
  says_so [] n e = absurd cc
  says_so (m ∷ ms) n e = by (says p names s (tree p.nodes m)) refl (says_so ms n) e
    where
      by : (b : Bool) → says p names s (tree p.nodes m) ≡ b → (first_saying p names s ms ≡ Some n → says p names s (tree p.nodes n) ≡ true)
          → cond b (Some m) (first_saying p names s ms) ≡ Some n → says p names s (tree p.nodes n) ≡ true
      by true f rest g = let same : m ≡ n = cc in ap (λ (k : ℕ). says p names s (tree p.nodes k)) (sym same) ∙ f
      by false f rest g = rest g

  none_so : (ns : List ℕ) (t : Tree) → first_saying p names s ns ≡ None → says p names s t ≡ true → Has (map (tree p.nodes) ns) t → ⊥
  none_so [] t e f h = h
  none_so (m ∷ ms) t e f h = by (says p names s (tree p.nodes m)) refl (none_so ms t) e h
    where
      by : (b : Bool) → says p names s (tree p.nodes m) ≡ b → (first_saying p names s ms ≡ None → says p names s t ≡ true → Has (map (tree p.nodes) ms) t → ⊥)
          → cond b (Some m) (first_saying p names s ms) ≡ None → Has (tree p.nodes m ∷ map (tree p.nodes) ms) t → ⊥
      by true g rest k i = absurd cc
      by false g rest k (inl same) = let no : true ≡ false = sym (ap (says p names s) same ∙ f) ∙ g in absurd cc
      by false g rest k (inr more) = rest k f more

module _ (p : Posed) (names : List (List ℕ)) (posed : IsPosed p) (terms : ClosedAreTerms) (ns : List ℕ) (all : ns ≡ p.closed) where
  judged_at : (n : ℕ) → IsListed p n → IsTermOf p.schema p.env p.literals (tree_sort (tree p.nodes n)) (tree p.nodes n)
  judged_at n h =
      terms p.schema p.env p.literals (goal_term p) (tree p.nodes n) posed.lawful posed.goal_is
      ((posed.are_closed.just (tree p.nodes n)).0 (contains_map (tree p.nodes) p.closed n h.closed))

  there : (t : Tree) → Closed p.schema p.env (goal_term p) t → Has (map (tree p.nodes) ns) t
  there t h = subst (λ (ms : List ℕ). Has (map (tree p.nodes) ms) t) (sym all) (Has-from_Contains (closed_terms p) t ((posed.are_closed.just t).1 h))

  pub principal_found : (n : ℕ) (o : Option ℕ) → o ≡ first_saying p names Principal ns → o ≡ Some n → IsListed p n → tree p.nodes n ≡ principal_term p.schema p.env
  principal_found n o e is h = principal_by p.schema p.env p.literals _ (tree p.nodes n) (judged_at n h) (says_so p names Principal ns n (sym e ∙ is))

  pub principal_there : (o : Option ℕ) → o ≡ first_saying p names Principal ns → o ≡ None → ⊥
  principal_there o e is = none_so p names Principal ns (principal_term p.schema p.env) (sym e ∙ is) refl (there (principal_term p.schema p.env) of_principal)

  pub resource_found : (n : ℕ) (o : Option ℕ) → o ≡ first_saying p names Resource ns → o ≡ Some n → IsListed p n → tree p.nodes n ≡ resource_term p.schema p.env
  resource_found n o e is h = resource_by p.schema p.env p.literals _ (tree p.nodes n) (judged_at n h) (says_so p names Resource ns n (sym e ∙ is))

  pub resource_there : (o : Option ℕ) → o ≡ first_saying p names Resource ns → o ≡ None → ⊥
  resource_there o e is = none_so p names Resource ns (resource_term p.schema p.env) (sym e ∙ is) refl (there (resource_term p.schema p.env) of_resource)

-- ---- the request

pub request_by : (p : Posed) (m : Assignment) (names : List (List ℕ)) (ns : List ℕ) (principal action resource : Uid) (context : Fields) → ns ≡ p.closed
    → principal ≡ uid_in p names (principal_term p.schema p.env) → action ≡ p.env.action → resource ≡ uid_in p names (resource_term p.schema p.env)
    → context ≡ unwrap_or (first_said (context_said (model p m names)) (map (tree p.nodes) ns)) (default_fields p.schema (context_of p.schema p.env.action))
    → record { principal = principal; action = action; resource = resource; context = context } ≡ request_of p.schema p.env (model p m names)
unfolding model
request_by p m names ns principal action resource context e f g h k =
    let closed : map (tree p.nodes) ns ≡ (model p m names).closed = ap (map (tree p.nodes)) e in
    let is_context = k ∙ ap (λ (ts : List Tree). unwrap_or (first_said (context_said (model p m names)) ts) (default_fields p.schema (context_of p.schema p.env.action))) closed in
    λ i. record { principal = f i; action = g i; resource = h i; context = is_context i }
