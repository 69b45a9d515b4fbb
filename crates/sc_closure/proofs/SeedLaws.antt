-- The terms that the closure begins with.
use Rattle.std.proofs.Common.{◌≡◌, ℕ, ◌<◌, true, List, [], ◌∷◌, length, ap, ◌∙◌, arith}
use Rattle.std.specs.List.{AllByRecursion}
use Rattle.sc_schema.specs.declared.declarations.Env.{Env}
use Rattle.sc_schema.specs.Declarations.{Declarations}
use Rattle.sc_sorts.specs.declared.sort.Sort.{Sort}
use Rattle.sc_sorts.specs.Entities.{entity_sort}
use Rattle.sc_sorts.specs.declared.node.Leaf.TheVariants as leafs
use Rattle.sc_sorts.specs.declared.node.Node.{Node}
use Rattle.sc_terms.specs.Trees.{leaf}
use Rattle.sc_terms.specs.Tables.{tree, Keeps, StandsFor}
use Rattle.sc_terms.specs.Folds.{truth_term}
use Rattle.sc_closure_rules.specs.Making.{stood}
use Rattle.sc_closure.specs.Following.{seeds}

module _ (d : Declarations) (env : Env) (s0 s1 s2 s3 : List Node) (goal truth principal resource : ℕ) (user thing : Sort) (within : goal < length s0) (k1 : Keeps s0 s1) (k2 : Keeps s1 s2) (k3 : Keeps s2 s3)
    (a : StandsFor s1 truth (truth_term true)) (is_user : user ≡ entity_sort d env.principal) (b : StandsFor s2 principal (leaf (leafs.Principal user))) (is_thing : thing ≡ entity_sort d env.resource)
    (c : StandsFor s3 resource (leaf (leafs.Resource thing))) where
  truth_is : tree s3 truth ≡ truth_term true
  truth_is = k3.same truth (omega (arith, a.within, k2.longer)) ∙ k2.same truth a.within ∙ a.is

  goal_is : tree s3 goal ≡ tree s0 goal
  goal_is = k3.same goal (omega (arith, within, k1.longer, k2.longer)) ∙ k2.same goal (omega (arith, within, k1.longer)) ∙ k1.same goal within

  principal_is : tree s3 principal ≡ leaf (leafs.Principal (entity_sort d env.principal))
  principal_is = k3.same principal b.within ∙ b.is ∙ ap (λ (k : Sort). leaf (leafs.Principal k)) is_user

  resource_is : tree s3 resource ≡ leaf (leafs.Resource (entity_sort d env.resource))
  resource_is = c.is ∙ ap (λ (k : Sort). leaf (leafs.Resource k)) is_thing

  pub seeds_stand : stood s3 (truth ∷ goal ∷ principal ∷ resource ∷ []) ≡ seeds d env (tree s0 goal)
  seeds_stand = λ i. truth_is i ∷ goal_is i ∷ principal_is i ∷ resource_is i ∷ []

  pub seeds_within : AllByRecursion (λ n. n < length s3) (truth ∷ goal ∷ principal ∷ resource ∷ [])
  seeds_within =
      (omega (arith, a.within, k2.longer, k3.longer), (omega (arith, within, k1.longer, k2.longer, k3.longer), (omega (arith, b.within, k3.longer), (c.within, tt))))
