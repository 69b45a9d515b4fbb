-- What all rules promise.
use Rattle.std.proofs.Common.{◌≡◌, ◌↔◌, true, false, [], IsTrue, refl, sym, ap, subst, ◌∙◌}
use Rattle.std.proofs.lemmas.Bool.{and_parts}
use Rattle.std.specs.Str.{bytes_eq}
use Rattle.sc_lists.proofs.TextLaws.{bytes_eq_true}
use Rattle.sc_world.specs.declared.world.World.{World}
use Rattle.sc_clauses.specs.Assignments.{Assignment, falsifies}
use Rattle.sc_clauses.specs.declared.step.Instance.{Instance}
use Rattle.sc_footprint.specs.Definitions.{defining}
use Rattle.sc_footprint.specs.Problems.{Posed, IsPosed}
use Rattle.sc_footprint.specs.Theories.{IsClauseOf, TermsHold}
use Rattle.sc_footprint.specs.Truths.{IsWorldOf, IsTrueIn}
use Rattle.sc_footprint.specs.Written.{is_instance as is_writable}
use Rattle.th_defs.specs.Instances.{number_in, is_before_last, is_definition, definition_clause}
use Rattle.th_defs.specs.Laws.{instance_sound, instance_lawful, instance_written}
use Rattle.sc_solver.specs.declared.family.Family.{Family}
use Rattle.sc_solver.specs.declared.family.Family.TheVariants.{Definition, Equal, Set, Entity, String, Other}
use Rattle.sc_solver.specs.Families.{family}
use Rattle.sc_solver.specs.Theories.{has_of, has_other, clause_of, HasRule, HasOtherRule, rule_clause}
use Rattle.sc_solver.specs.OtherLaws.{other_sound, other_lawful, other_written}

module _ (p : Posed) (i : Instance) where
  -- it is a defining clause, or another rule's
  abbrev OneOf : Type 0 → Type 0
  OneOf X = (IsTrue (is_definition p i) → family i.rule ≡ Definition → X) → (HasOtherRule p i → X) → HasRule p i → X

  one_of : (X : Type 0) → OneOf X
  unfolding has_of has_other
  one_of X definition other h = by (family i.rule) refl h
    where
      by : (f : Family) → family i.rule ≡ f → has_of f p i → X
      by Definition e h = definition h e
      by Equal e h = other (subst (λ (g : Family). has_other g p i) (sym e) h)
      by Set e h = other (subst (λ (g : Family). has_other g p i) (sym e) h)
      by Entity e h = other (subst (λ (g : Family). has_other g p i) (sym e) h)
      by String e h = other (subst (λ (g : Family). has_other g p i) (sym e) h)
      by Other e h = absurd h

  pub definition_is : family i.rule ≡ Definition → (IsTrue (is_definition p i) ↔ HasRule p i)
      × (definition_clause p i ≡ rule_clause p i)
  unfolding has_of clause_of
  definition_is e = subst (λ (f : Family). (IsTrue (is_definition p i) ↔ has_of f p i)
      × (definition_clause p i ≡ clause_of f p i)) (sym e) (((λ h. h), (λ h. h)), refl)

  -- each other is one of a rule
  pub other_is : HasOtherRule p i → HasRule p i
  unfolding has_of has_other
  other_is h = by (family i.rule) h
    where
      by : (f : Family) → has_other f p i → has_of f p i
      by Definition h = absurd h
      by Equal h = h
      by Set h = h
      by Entity h = h
      by String h = h
      by Other h = absurd h

  -- what is no defining clause is another rule's
  pub others_are : (family i.rule ≡ Definition → ⊥) → (HasOtherRule p i ↔ HasRule p i)
  others_are other = (λ h. other_is h, λ h. one_of (HasOtherRule p i) (λ is e. absurd (other e)) (λ is. is) h)

  pub definition_family : IsTrue (is_definition p i) → family i.rule ≡ Definition
  unfolding family
  definition_family h = ap family
      (bytes_eq_true i.rule [] (and_parts (bytes_eq i.rule []) (is_before_last (defining p) (number_in i.words)) h).0)

  pub rule_sound : (w : World) → TermsHold → IsPosed p → HasRule p i → IsWorldOf p w → IsTrueIn p w (rule_clause p i)
  rule_sound w terms posed h formed =
      one_of (IsTrueIn p w (rule_clause p i))
      (λ is e. subst (IsTrueIn p w) (definition_is e).1 (instance_sound p i w terms posed is formed))
      (λ is. other_sound p i w terms posed is formed) h

  pub rule_lawful : TermsHold → IsPosed p → HasRule p i → IsClauseOf p (rule_clause p i)
  rule_lawful terms posed h =
      one_of (IsClauseOf p (rule_clause p i))
      (λ is e. subst (IsClauseOf p) (definition_is e).1 (instance_lawful p i terms posed is))
      (λ is. other_lawful p i terms posed is) h

  pub rule_written : IsPosed p → HasRule p i → bytes_eq i.rule [] ≡ false → is_writable i ≡ true
  rule_written posed h word = one_of (is_writable i ≡ true) (λ is e. instance_written p i posed is word)
      (λ is. other_written p i posed is word) h

  -- ---- instances that are found

  module _ (m : Assignment) where
    pub definition_out : IsTrue (is_definition p i) → falsifies m (definition_clause p i) ≡ true → HasRule p i
        × (falsifies m (rule_clause p i) ≡ true)
    definition_out h e = let is = definition_is (definition_family h) in (is.0.0 h, ap (falsifies m) (sym is.1) ∙ e)

    pub none_falsified : (IsTrue (is_definition p i) → falsifies m (definition_clause p i) ≡ false)
        → (HasOtherRule p i → falsifies m (rule_clause p i) ≡ false) → HasRule p i
        → falsifies m (rule_clause p i) ≡ false
    none_falsified definition other h =
        one_of (falsifies m (rule_clause p i) ≡ false)
        (λ is e. ap (falsifies m) (sym (definition_is e).1) ∙ definition is) other h
