-- What a theory promises, from what its rules say.
use Rattle.std.proofs.Common.{◌≡◌, ◌↔◌, true, false, [], IsTrue, Option, Some, None, IfNone, IfSome, refl, sym, ap, ◌∙◌, subst}
use Rattle.sc_clauses.specs.Assignments.{Assignment, falsifies}
use Rattle.sc_clauses.specs.declared.step.Instance.{Instance}
use Rattle.sc_footprint.specs.Problems.{Posed, IsPosed}
use Rattle.sc_rule_laws.specs.Signed.{Said}
use Rattle.sc_rule_instances.specs.Clauses.{is_instance, said_clause}
use Rattle.sc_rule_instances.specs.Instances.{HasSet, said_by, set_clause, set_said}
use Rattle.sc_rule_instances.specs.Known.{is_falsified, NoneFalsified}
use Rattle.sc_rule_instances.specs.Names.{set_rule}
use Rattle.sc_rule_instances.specs.declared.rule.SetRule.{SetRule}
use Rattle.sc_rule_instances.proofs.FalseLaws.{falsified_instance, instance_free}
use Rattle.th_sets.specs.Free.{AreNamedFree}
use Rattle.th_sets.specs.Moves.{AreMovesFree}
use Rattle.th_sets.proofs.WholeLaws.{none_falsified}

module _ (p : Posed) where
  pub none_of_any : (m : Assignment) (q o : Option SetRule) → IsPosed p → q ≡ None → IfNone q (AreMovesFree p m) → IfNone o (AreNamedFree p m) → IfNone o (NoneFalsified set_said p m)
  none_of_any m q (Some rule) posed is moves h = tt
  none_of_any m q None posed is moves h = none_falsified p m posed h (subst (λ o. IfNone o (AreMovesFree p m)) is moves)

  module _ (i : Instance) where
    -- what is said of the instance, by the rule that it names
    said_is : (o : Option SetRule) (rule : SetRule) → o ≡ set_rule i → o ≡ Some rule → said_by (set_said p) (set_rule i) ≡ set_said p rule
    said_is o rule e f = ap (said_by (set_said p)) (sym e ∙ f)

    said_none : (o : Option SetRule) → o ≡ set_rule i → o ≡ None → said_by (set_said p) (set_rule i) ≡ None
    said_none o e f = ap (said_by (set_said p)) (sym e ∙ f)

    pub has_some : (o : Option SetRule) (rule : SetRule) → o ≡ set_rule i → o ≡ Some rule → IsTrue (is_instance p (set_said p rule)) ↔ HasSet p i
    has_some o rule e f = subst (λ (said : Said). IsTrue (is_instance p (set_said p rule)) ↔ IsTrue (is_instance p said)) (sym (said_is o rule e f)) ((λ h. h), (λ h. h))

    pub has_none : (o : Option SetRule) → o ≡ set_rule i → o ≡ None → IsTrue false ↔ HasSet p i
    unfolding is_instance
    has_none o e f = subst (λ (said : Said). IsTrue false ↔ IsTrue (is_instance p said)) (sym (said_none o e f)) ((λ h. h), (λ h. h))

    pub clause_some : (o : Option SetRule) (rule : SetRule) → o ≡ set_rule i → o ≡ Some rule → said_clause p (set_said p rule) ≡ set_clause p i
    clause_some o rule e f = ap (said_clause p) (sym (said_is o rule e f))

    pub clause_none : (o : Option SetRule) → o ≡ set_rule i → o ≡ None → [] ≡ set_clause p i
    unfolding said_clause
    clause_none o e f = ap (said_clause p) (sym (said_none o e f))

    module _ (m : Assignment) where
      abbrev Out : SetRule → Type 0
      Out rule = is_falsified p m (set_said p rule) ≡ true

      pub written_has : (o : Option SetRule) (rule : SetRule) → set_rule i ≡ Some rule → o ≡ Some rule → IfSome o Out → HasSet p i
      written_has o rule e is h = (has_some (set_rule i) rule refl e).0 (falsified_instance m p (set_said p rule) (subst (λ q. IfSome q Out) is h)).0

      pub written_false : (o : Option SetRule) (rule : SetRule) → set_rule i ≡ Some rule → o ≡ Some rule → IfSome o Out → falsifies m (set_clause p i) ≡ true
      written_false o rule e is h = ap (falsifies m) (sym (clause_some (set_rule i) rule refl e)) ∙ (falsified_instance m p (set_said p rule) (subst (λ q. IfSome q Out) is h)).1

      pub none_false : (o : Option SetRule) → o ≡ None → IfNone o (NoneFalsified set_said p m) → HasSet p i → falsifies m (set_clause p i) ≡ false
      unfolding is_falsified
      none_false o is none h = instance_free m p (said_by (set_said p) (set_rule i)) h (by (set_rule i))
        where
          by : (q : Option SetRule) → is_falsified p m (said_by (set_said p) q) ≡ false
          by (Some rule) = (subst (λ q. IfNone q (NoneFalsified set_said p m)) is none) rule
          by None = refl
