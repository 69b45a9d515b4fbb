-- The request of a model is one of the environment.
use Rattle.std.proofs.Common.{◌≡◌, ℕ, List, Bool, IsTrue, IsSomeAnd, refl, sym, subst}
use Rattle.sc_ip.specs.Addresses.{IsIp}
use Rattle.sc_bits.specs.Addresses.{ip_of}
use Rattle.sc_bits.specs.Blocks.{AreBlockBits}
use Rattle.sc_names.specs.declared.uid.Uid.{Uid}
use Rattle.sc_schema.specs.declared.declarations.Env.{Env}
use Rattle.sc_schema.specs.Declarations.{Declarations}
use Rattle.sc_schema.specs.Lawful.{IsLawful}
use Rattle.sc_values.specs.declared.value.Value.TheVariants as value
use Rattle.sc_world.specs.Conforms.{conforms}
use Rattle.sc_world.specs.Named.{IsRequestAmong}
use Rattle.sc_sorts.specs.declared.sort.Sort.{Sort}
use Rattle.sc_sorts.specs.Entities.{choices_of, entity_sort}
use Rattle.sc_sorts.specs.declared.node.Leaf.TheVariants as leafs
use Rattle.sc_terms.specs.Trees.{Tree, leaf}
use Rattle.sc_terms.specs.TreeSorts.{tree_sort}
use Rattle.sc_closure_rules.specs.Closure.{of_principal, of_resource, principal_term, resource_term}
use Rattle.sc_closure_rules.specs.Goals.{IsGoal}
use Rattle.sc_model_laws.specs.Vals.{Model}
use Rattle.sc_model_laws.specs.Models.{IsModel}
use Rattle.sc_model_laws.proofs.ChosenLaws.{uid_is_choice}
use Rattle.sc_model_laws.proofs.FittingLaws.{AreMade}
use Rattle.sc_model_world_laws.specs.Laws.{AreTexts}
use Rattle.sc_model_world_laws.specs.Rebuilt.{request_of}
use Rattle.sc_model_world_laws.proofs.EntryLaws.{context_of_type}
use Rattle.sc_model_world_laws.proofs.TypeLaws.{has_context}

pub principal_sort : (k : Sort) → tree_sort (leaf (leafs.Principal k)) ≡ k
unfolding tree_sort
principal_sort k = refl

pub resource_sort : (k : Sort) → tree_sort (leaf (leafs.Resource k)) ≡ k
unfolding tree_sort
resource_sort k = refl

module _ (d : Declarations) (env : Env) (literals : List Uid) (goal : Tree) (made : AreMade d env literals goal) (m : Model) (model : IsModel d env goal m) (lawful : IsLawful d) (is : IsGoal d env literals goal)
    (addressed : (f : ℕ → Bool) → AreBlockBits f → IsIp (ip_of f)) (texts : AreTexts d env goal m) where
  pub request_among : IsRequestAmong d env (request_of d env m) literals
  request_among =
      let t = has_context d lawful env is.environment in
      let fields = context_of_type d env literals goal made m model lawful is addressed texts t.0 t.1 in
      record {
        environment = is.environment;
        request = record {
          principal = model.typed env.principal (choices_of d env.principal) (principal_term d env) (principal_sort (entity_sort d env.principal));
          action = refl;
          resource = model.typed env.resource (choices_of d env.resource) (resource_term d env) (resource_sort (entity_sort d env.resource));
          principal_choice = uid_is_choice d env goal m model literals made lawful is env.principal (choices_of d env.principal) (principal_term d env) of_principal (principal_sort (entity_sort d env.principal));
          resource_choice = uid_is_choice d env goal m model literals made lawful is env.resource (choices_of d env.resource) (resource_term d env) of_resource (resource_sort (entity_sort d env.resource));
          context = subst (λ (o : _). IsSomeAnd o (λ x. IsTrue (conforms x (value.Record (request_of d env m).context)))) (sym t.1) fields.conform;
        };
        context = fields.proper;
        declared = is.declared;
      }
