-- Each closed term of a goal is a term of its sort.
use Rattle.std.proofs.Common.{true, ⊎_elim, List, ◌++◌}
use Rattle.sc_lists.proofs.MemberLaws.{Has-append, Has-from_Contains}
use Rattle.sc_lists.specs.Members.{Has}
use Rattle.sc_names.specs.declared.uid.Uid.{Uid}
use Rattle.sc_schema.specs.declared.declarations.Env.{Env}
use Rattle.sc_schema.specs.Declarations.{Declarations}
use Rattle.sc_schema.specs.Lawful.{IsLawful}
use Rattle.sc_sorts.specs.Entities.{entity_sort}
use Rattle.sc_sorts.specs.declared.sort.Sort.TheVariants as sort
use Rattle.sc_terms.specs.Trees.{Tree}
use Rattle.sc_terms.specs.Folds.{truth_term}
use Rattle.sc_term_laws.specs.Judging.{IsTerm}
use Rattle.sc_term_laws.specs.Judging as judged
use Rattle.sc_term_definitions.specs.Definitions.{inputs_of}
use Rattle.sc_term_definitions.specs.Truths.{InputsAreTerms}
use Rattle.sc_closure_rules.specs.Closure.{principal_term, resource_term, inside, choices, beside, parts, follow, half, follow_pair, Closed, of_true, of_goal, of_principal, of_resource, next, pair}
use Rattle.sc_closure_rules.specs.Goals.{IsGoal}
use Rattle.sc_closure_rules.proofs.BesideLaws.{inputs_made, beside_made}
use Rattle.sc_closure_rules.proofs.MadeLaws.{inside_made, choices_made}
use Rattle.sc_closure_rules.proofs.MetLaws.{roles_made}
use Rattle.sc_closure_rules.proofs.PartLaws.{own, parts_made}
use Rattle.sc_closure_rules.proofs.RoleLaws.{half_has}

module _ (inputs : InputsAreTerms) (d : Declarations) (env : Env) (literals : List Uid) (goal : Tree) (lawful : IsLawful d) (is : IsGoal d env literals goal) where
  abbrev Is : Tree → Type 0
  Is = IsTerm d env literals

  follow_made : (x t : Tree) → Is x → Has (follow d x) t → Is t
  unfolding follow
  follow_made x t h k =
      ⊎_elim (inputs_made d env literals lawful is.environment is.declared inputs x t h)
      (λ k1. ⊎_elim (inside_made d env literals lawful is.environment is.declared x t h)
      (λ k2. ⊎_elim (choices_made d env literals lawful is.environment is.declared x t h)
      (λ k3. ⊎_elim (beside_made d env literals lawful is.environment is.declared x t h) (parts_made d env literals x t h) (Has-append (beside d x) (parts x) t k3))
      (Has-append (choices x) (beside d x ++ parts x) t k2))
      (Has-append (inside x) (choices x ++ (beside d x ++ parts x)) t k1))
      (Has-append (inputs_of x) (inside x ++ (choices x ++ (beside d x ++ parts x))) t k)

  half_made : (x y t : Tree) → Is x → Is y → Has (half x y) t → Is t
  half_made x y t h k e = let r = half_has x y t e in roles_made d env literals lawful x y r.0 r.1 t h k r.2 r.3 r.4

  pub closed_made : {t : Tree} → Closed d env goal t → Is t
  closed_made of_true = own d env literals sort.Bool (truth_term true) (judged.of_truth true)
  closed_made of_goal = own d env literals sort.Bool goal is.term
  closed_made of_principal = own d env literals (entity_sort d env.principal) (principal_term d env) judged.of_principal
  closed_made of_resource = own d env literals (entity_sort d env.resource) (resource_term d env) judged.of_resource
  closed_made (next x y k l) = follow_made x y (closed_made k) (Has-from_Contains (follow d x) y l)
  closed_made (pair x y z k l m) =
      ⊎_elim (half_made x y z (closed_made k) (closed_made l)) (half_made y x z (closed_made l) (closed_made k)) (Has-append (half x y) (half y x) z (Has-from_Contains (follow_pair x y) z m))
