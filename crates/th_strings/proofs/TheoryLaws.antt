-- What a theory promises follows from what is said of its rules.
use Rattle.std.proofs.Common.{◌≡◌, ℕ, Bool, true, false, List, [], length, Option, Some, None, Result, Ok, Err, IfOk, IfNone, IfSome, cond, refl, sym, ap, ◌∙◌, subst}
use Rattle.std.specs.Option.{IsSomeAnd}
use Rattle.sc_clauses.specs.Assignments.{Assignment, falsifies}
use Rattle.sc_clauses.specs.declared.step.Instance.{Instance}
use Rattle.sc_terms.specs.Trees.{Tree}
use Rattle.sc_footprint.specs.Problems.{Posed, term_of}
use Rattle.sc_rule_instances.proofs.FalseLaws.{falsified_instance, instance_falsified}
use Rattle.sc_rule_instances.specs.Clauses.{said_clause}
use Rattle.sc_rule_instances.specs.Instances.{on_two, said_by}
use Rattle.sc_rule_instances.specs.Known.{is_falsified}
use Rattle.sc_rule_laws.specs.Strings.{Pattern, Signs, st1, st2, st3, is_asked_all}
use Rattle.th_strings_instances.proofs.FewLaws.{never_few}
use Rattle.th_strings_instances.specs.Instances.{all_at, on_all, string_said, IsInstanceOf, HasString, string_clause}
use Rattle.th_strings_instances.specs.Names.{string_rule}
use Rattle.th_strings_instances.specs.Patterns.{patterns}
use Rattle.th_strings_instances.specs.declared.rule.StringRule.{StringRule}
use Rattle.th_strings_instances.specs.declared.rule.StringRule.TheVariants.{St1, St2, St3}
use Rattle.th_strings.specs.Violated.{IsViolated, NoneViolated, AreMatchesFree, AreCrowdsFree, IsRuleOf}

module _ (p : Posed) (m : Assignment) where
  nothing_out : is_falsified p m None ≡ true → ⊥
  unfolding is_falsified
  nothing_out h = absurd cc

  -- ---- all rules

  asked_out : (qs : List Pattern) (v : Signs) (o : Option (List Tree)) → is_falsified p m (on_all o (st2 qs v)) ≡ true → is_falsified p m (on_all o (st3 qs v)) ≡ true
  asked_out qs v None = λ h. h
  asked_out qs v (Some ts) = by (is_asked_all v)
    where
      by : (b : Bool) → is_falsified p m (cond b (st3 qs v ts) None) ≡ true → is_falsified p m (st3 qs v ts) ≡ true
      by true h = h
      by false h = absurd (nothing_out h)

  all_out : (qs : List Pattern) (v : Signs) (o : Option (List Tree)) → is_asked_all v ≡ true → is_falsified p m (on_all o (st3 qs v)) ≡ true → is_falsified p m (on_all o (st2 qs v)) ≡ true
  all_out qs v None e h = h
  all_out qs v (Some ts) e h = rw e h

  -- the counting rule of a crowd is falsified where its ST3 is
  pub rule_out : (qs : List Pattern) (v : Signs) (ns : List ℕ) (rule : StringRule) → IsRuleOf v ns rule → IsViolated p m qs (St3 v ns) → IsViolated p m qs rule
  rule_out qs v ns (St1 a b i) is h = absurd is
  rule_out qs v ns (St2 w ms) (e, f, asked) h =
      subst (λ (u : Signs). IsViolated p m qs (St2 u ms)) (sym e) (subst (λ (ks : List ℕ). IsViolated p m qs (St2 v ks)) (sym f) (all_out qs v (all_at p ns) asked h.0, h.1))
  rule_out qs v ns (St3 w ms) (e, f) h = subst (λ (u : Signs). IsViolated p m qs (St3 u ms)) (sym e) (subst (λ (ks : List ℕ). IsViolated p m qs (St3 v ks)) (sym f) h)

  pub none_of_all : (qs : List Pattern) → AreMatchesFree p m qs → AreCrowdsFree p m qs → NoneViolated p m qs
  none_of_all qs matches crowds (St1 a b i) h = matches a b i h
  none_of_all qs matches crowds (St2 v ns) h = crowds v ns (asked_out qs v (all_at p ns) h.0, h.1)
  none_of_all qs matches crowds (St3 v ns) h = crowds v ns h

  pub none_after : {E : Type 0} (qs : List Pattern) (o : Option StringRule) (r : Result (Option StringRule) E) → o ≡ None → IfNone o (AreMatchesFree p m qs) → IfOk r (λ q. IfNone q (AreCrowdsFree p m qs)) → IfOk r (λ q. IfNone q (NoneViolated p m qs))
  none_after qs o (Ok (Some rule)) is matches crowds = tt
  none_after qs o (Ok None) is matches crowds = none_of_all qs (subst (λ q. IfNone q (AreMatchesFree p m qs)) is matches) crowds
  none_after qs o (Err e) is matches crowds = tt

  -- a problem without patterns
  no_match : (i : ℕ) (o q : Option Tree) → is_falsified p m (on_two o q (λ t u. st1 [] t u i)) ≡ true → ⊥
  no_match i (Some t) (Some u) h = nothing_out h
  no_match i (Some t) None h = nothing_out h
  no_match i None q h = nothing_out h

  none_empty : NoneViolated p m []
  none_empty (St1 a b i) h = no_match i (term_of p a) (term_of p b) h.0
  none_empty (St2 v ns) h = never_few v (length ns) h.1
  none_empty (St3 v ns) h = never_few v (length ns) h.1

  pub none_where_empty : (qs : List Pattern) → qs ≡ [] → NoneViolated p m qs
  none_where_empty qs e = subst (NoneViolated p m) (sym e) none_empty

  -- ---- instances

  module _ (i : Instance) where
    abbrev Out : StringRule → Type 0
    Out rule = IsViolated p m (patterns p) rule

    pub written_has : (o : Option StringRule) (rule : StringRule) → string_rule i ≡ Some rule → o ≡ Some rule → IfSome o Out → HasString p i
    written_has o rule e is found =
        let h = subst (λ q. IfSome q Out) is found in
        subst (λ (q : Option StringRule). IsSomeAnd q (IsInstanceOf p (patterns p))) (sym e) ((falsified_instance m p (string_said p rule) h.0).0, h.1)

    pub written_false : (o : Option StringRule) (rule : StringRule) → string_rule i ≡ Some rule → o ≡ Some rule → IfSome o Out → falsifies m (string_clause p i) ≡ true
    written_false o rule e is found =
        let h = subst (λ q. IfSome q Out) is found in
        ap (λ (q : Option StringRule). falsifies m (said_clause p (said_by (string_said p) q))) e ∙ (falsified_instance m p (string_said p rule) h.0).1

    pub none_false : (o : Option StringRule) → o ≡ None → IfNone o (NoneViolated p m (patterns p)) → HasString p i → falsifies m (string_clause p i) ≡ false
    none_false o is none = by (string_rule i)
      where
        free : NoneViolated p m (patterns p)
        free = subst (λ q. IfNone q (NoneViolated p m (patterns p))) is none

        told : (rule : StringRule) → IsInstanceOf p (patterns p) rule → (b : Bool) → falsifies m (said_clause p (string_said p rule)) ≡ b → b ≡ false
        told rule h true e = absurd (free rule (instance_falsified m p (string_said p rule) h.0 e, h.1))
        told rule h false e = refl

        by : (q : Option StringRule) → IsSomeAnd q (IsInstanceOf p (patterns p)) → falsifies m (said_clause p (said_by (string_said p) q)) ≡ false
        by (Some rule) h = told rule h (falsifies m (said_clause p (string_said p rule))) refl
        by None h = absurd h
