-- What a theory promises, from what its rules say.
use Rattle.std.proofs.Common.{◌≡◌, ◌↔◌, true, false, [], IsTrue, Option, Some, None, IfNone, IfSome, refl, sym, ap, ◌∙◌, subst}
use Rattle.sc_clauses.specs.Assignments.{Assignment, falsifies}
use Rattle.sc_clauses.specs.declared.step.Instance.{Instance}
use Rattle.sc_footprint.specs.Problems.{Posed}
use Rattle.sc_rule_laws.specs.Signed.{Said}
use Rattle.sc_rule_instances.specs.Clauses.{is_instance, said_clause}
use Rattle.sc_rule_instances.specs.Instances.{HasEntity, said_by, entity_clause, entity_said}
use Rattle.sc_rule_instances.specs.Known.{is_falsified, NoneFalsified}
use Rattle.sc_rule_instances.specs.Names.{entity_rule}
use Rattle.sc_rule_instances.specs.declared.rule.EntityRule.{EntityRule}
use Rattle.sc_rule_instances.proofs.FalseLaws.{falsified_instance, instance_free}

module _ (p : Posed) where
  module _ (i : Instance) where
    -- what is said of the instance, by the rule that it names
    said_is : (o : Option EntityRule) (rule : EntityRule) → o ≡ entity_rule i → o ≡ Some rule → said_by (entity_said p) (entity_rule i) ≡ entity_said p rule
    said_is o rule e f = ap (said_by (entity_said p)) (sym e ∙ f)

    said_none : (o : Option EntityRule) → o ≡ entity_rule i → o ≡ None → said_by (entity_said p) (entity_rule i) ≡ None
    said_none o e f = ap (said_by (entity_said p)) (sym e ∙ f)

    pub has_some : (o : Option EntityRule) (rule : EntityRule) → o ≡ entity_rule i → o ≡ Some rule → IsTrue (is_instance p (entity_said p rule)) ↔ HasEntity p i
    has_some o rule e f = subst (λ (said : Said). IsTrue (is_instance p (entity_said p rule)) ↔ IsTrue (is_instance p said)) (sym (said_is o rule e f)) ((λ h. h), (λ h. h))

    pub has_none : (o : Option EntityRule) → o ≡ entity_rule i → o ≡ None → IsTrue false ↔ HasEntity p i
    unfolding is_instance
    has_none o e f = subst (λ (said : Said). IsTrue false ↔ IsTrue (is_instance p said)) (sym (said_none o e f)) ((λ h. h), (λ h. h))

    pub clause_some : (o : Option EntityRule) (rule : EntityRule) → o ≡ entity_rule i → o ≡ Some rule → said_clause p (entity_said p rule) ≡ entity_clause p i
    clause_some o rule e f = ap (said_clause p) (sym (said_is o rule e f))

    pub clause_none : (o : Option EntityRule) → o ≡ entity_rule i → o ≡ None → [] ≡ entity_clause p i
    unfolding said_clause
    clause_none o e f = ap (said_clause p) (sym (said_none o e f))

    module _ (m : Assignment) where
      abbrev Out : EntityRule → Type 0
      Out rule = is_falsified p m (entity_said p rule) ≡ true

      pub written_has : (o : Option EntityRule) (rule : EntityRule) → entity_rule i ≡ Some rule → o ≡ Some rule → IfSome o Out → HasEntity p i
      written_has o rule e is h = (has_some (entity_rule i) rule refl e).0 (falsified_instance m p (entity_said p rule) (subst (λ q. IfSome q Out) is h)).0

      pub written_false : (o : Option EntityRule) (rule : EntityRule) → entity_rule i ≡ Some rule → o ≡ Some rule → IfSome o Out → falsifies m (entity_clause p i) ≡ true
      written_false o rule e is h = ap (falsifies m) (sym (clause_some (entity_rule i) rule refl e)) ∙ (falsified_instance m p (entity_said p rule) (subst (λ q. IfSome q Out) is h)).1

      pub none_false : (o : Option EntityRule) → o ≡ None → IfNone o (NoneFalsified entity_said p m) → HasEntity p i → falsifies m (entity_clause p i) ≡ false
      unfolding is_falsified
      none_false o is none h = instance_free m p (said_by (entity_said p) (entity_rule i)) h (by (entity_rule i))
        where
          by : (q : Option EntityRule) → is_falsified p m (said_by (entity_said p) q) ≡ false
          by (Some rule) = (subst (λ q. IfNone q (NoneFalsified entity_said p m)) is none) rule
          by None = refl
