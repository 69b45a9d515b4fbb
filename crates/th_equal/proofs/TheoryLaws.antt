-- What names no rule is no instance, and what an assignment falsifies is one.
use Rattle.std.proofs.Common.{◌≡◌, ◌↔◌, Bool, true, false, IsTrue, Option, Some, None, IfNone, refl, sym, ap, ◌∙◌, subst}
use Rattle.std.proofs.lemmas.Bool.{true≢false}
use Rattle.sc_clauses.specs.Assignments.{Assignment, falsifies}
use Rattle.sc_clauses.specs.declared.step.Instance.{Instance}
use Rattle.sc_footprint.specs.Problems.{Posed, IsPosed}
use Rattle.sc_rule_instances.proofs.FalseLaws.{falsified_instance, instance_falsified}
use Rattle.sc_rule_instances.specs.Clauses.{is_instance}
use Rattle.sc_rule_instances.specs.Instances.{HasEqual, equal_said, equal_of, equal_clause, said_by}
use Rattle.sc_rule_instances.specs.Known.{is_falsified, NoneFalsified}
use Rattle.sc_rule_instances.specs.Names.{equal_rule}
use Rattle.sc_rule_instances.specs.declared.rule.EqualRule.{EqualRule}
use Rattle.th_equal.specs.Naming.{IsChainFree}
use Rattle.th_equal.specs.Free.{AreTermsFree}
use Rattle.th_equal.proofs.WholeLaws as whole

no_rule : (p : Posed) (o : Option EqualRule) → o ≡ None → is_instance p (said_by (equal_said p) o) ≡ false
unfolding is_instance
no_rule p None e = refl
no_rule p (Some rule) e = absurd cc

pub unnamed : (p : Posed) (i : Instance) → equal_rule i ≡ None → HasEqual p i → ⊥
unnamed p i e h = true≢false (sym h ∙ no_rule p (equal_rule i) e)

pub refused : (p : Posed) (i : Instance) → equal_rule i ≡ None → IsTrue false ↔ HasEqual p i
refused p i e = (λ f. absurd cc, λ h. absurd (unnamed p i e h))

of_rule : (p : Posed) (i : Instance) (rule : EqualRule) → equal_rule i ≡ Some rule → equal_of p i ≡ equal_said p rule
of_rule p i rule e = ap (said_by (equal_said p)) e

pub found_accepted : (p : Posed) (m : Assignment) (i : Instance) (rule : EqualRule) → is_falsified p m (equal_said p rule) ≡ true → equal_rule i ≡ Some rule → HasEqual p i
found_accepted p m i rule h e = (falsified_instance m p (equal_of p i) (ap (is_falsified p m) (of_rule p i rule e) ∙ h)).0

pub found_falsified : (p : Posed) (m : Assignment) (i : Instance) (rule : EqualRule) → is_falsified p m (equal_said p rule) ≡ true → equal_rule i ≡ Some rule → falsifies m (equal_clause p i) ≡ true
found_falsified p m i rule h e = (falsified_instance m p (equal_of p i) (ap (is_falsified p m) (of_rule p i rule e) ∙ h)).1

pub none_falsified : (p : Posed) (m : Assignment) → NoneFalsified equal_said p m → (i : Instance) → HasEqual p i → falsifies m (equal_clause p i) ≡ false
none_falsified p m none i h = by (falsifies m (equal_clause p i)) refl
  where
    quiet : (o : Option EqualRule) → equal_rule i ≡ o → is_falsified p m (equal_of p i) ≡ true → ⊥
    quiet (Some rule) e f = true≢false (sym f ∙ ap (is_falsified p m) (of_rule p i rule e) ∙ none rule)
    quiet None e f = unnamed p i e h

    by : (b : Bool) → falsifies m (equal_clause p i) ≡ b → b ≡ false
    by true e = absurd (quiet (equal_rule i) refl (instance_falsified m p (equal_of p i) h e))
    by false e = refl

pub none_of_any : (p : Posed) (m : Assignment) (q o : Option EqualRule) → IsPosed p → q ≡ None → IfNone q (IsChainFree p m) → IfNone o (AreTermsFree p m) → IfNone o (NoneFalsified equal_said p m)
none_of_any p m q (Some rule) posed is chains h = tt
none_of_any p m q None posed is chains h = whole.none_falsified p m posed h (subst (λ (r : Option EqualRule). IfNone r (IsChainFree p m)) is chains)
