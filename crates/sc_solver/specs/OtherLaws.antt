-- What the rules besides the defining clauses promise.
use Rattle.std.proofs.Common.{◌≡◌, ◌↔◌, Bool, true, false, [], refl, sym, ap, subst, ◌∙◌}
use Rattle.std.specs.Str.{bytes_eq}
use Rattle.sc_lists.proofs.TextLaws.{bytes_eq_true}
use Rattle.sc_world.specs.declared.world.World.{World}
use Rattle.sc_clauses.specs.Assignments.{Assignment, falsifies}
use Rattle.sc_clauses.specs.declared.step.Instance.{Instance}
use Rattle.sc_footprint.specs.Problems.{Posed, IsPosed}
use Rattle.sc_footprint.specs.Theories.{IsClauseOf, TermsHold}
use Rattle.sc_footprint.specs.Truths.{IsWorldOf, IsTrueIn}
use Rattle.sc_footprint.specs.Written.{is_instance as is_writable}
use Rattle.sc_rule_instances.specs.Instances.{HasEqual, HasSet, HasEntity, equal_clause, set_clause, entity_clause}
use Rattle.sc_rule_instances.proofs.InstanceLaws.{equal_sound, equal_lawful, equal_written, set_sound, set_lawful, set_written, entity_sound, entity_lawful, entity_written}
use Rattle.th_strings_instances.specs.Instances.{HasString, string_clause}
use Rattle.th_strings_instances.proofs.InstanceLaws.{string_sound, string_lawful, string_written}
use Rattle.sc_solver.specs.declared.family.Family.{Family}
use Rattle.sc_solver.specs.declared.family.Family.TheVariants.{Definition, Equal, Set, Entity, String, Other}
use Rattle.sc_solver.specs.Families.{family}
use Rattle.sc_solver.specs.Theories.{has_other, clause_of, HasOtherRule, rule_clause}
use Rattle.sc_solver.specs.FamilyLaws.{equal_family, set_family, entity_family, string_family}

module _ (p : Posed) (i : Instance) where
  pub other_sound : (w : World) → TermsHold → IsPosed p → HasOtherRule p i → IsWorldOf p w
      → IsTrueIn p w (rule_clause p i)
  unfolding has_other clause_of
  other_sound w terms posed h formed = by (family i.rule) h
    where
      by : (f : Family) → has_other f p i → IsTrueIn p w (clause_of f p i)
      by Definition h = absurd h
      by Equal h = equal_sound p i w terms posed h formed
      by Set h = set_sound p i w terms posed h formed
      by Entity h = entity_sound p i w terms posed h formed
      by String h = string_sound p i w terms posed h formed
      by Other h = absurd h

  pub other_lawful : TermsHold → IsPosed p → HasOtherRule p i → IsClauseOf p (rule_clause p i)
  unfolding has_other clause_of
  other_lawful terms posed h = by (family i.rule) h
    where
      by : (f : Family) → has_other f p i → IsClauseOf p (clause_of f p i)
      by Definition h = absurd h
      by Equal h = equal_lawful p i terms posed h
      by Set h = set_lawful p i terms posed h
      by Entity h = entity_lawful p i terms posed h
      by String h = string_lawful p i terms posed h
      by Other h = absurd h

  pub other_written : IsPosed p → HasOtherRule p i → bytes_eq i.rule [] ≡ false → is_writable i ≡ true
  unfolding has_other
  other_written posed h e = by (family i.rule) h
    where
      by : (f : Family) → has_other f p i → is_writable i ≡ true
      by Definition h = absurd h
      by Equal h = equal_written p i posed h e
      by Set h = set_written p i posed h e
      by Entity h = entity_written p i posed h e
      by String h = string_written p i posed h e
      by Other h = absurd h

  -- ---- each is that of the theory that it belongs to

  pub of_equal : family i.rule ≡ Equal → (HasEqual p i ↔ HasOtherRule p i) × (equal_clause p i ≡ rule_clause p i)
  unfolding has_other clause_of
  of_equal e = subst (λ (f : Family). (HasEqual p i ↔ has_other f p i) × (equal_clause p i ≡ clause_of f p i)) (sym e)
      (((λ h. h), (λ h. h)), refl)

  pub of_set : family i.rule ≡ Set → (HasSet p i ↔ HasOtherRule p i) × (set_clause p i ≡ rule_clause p i)
  unfolding has_other clause_of
  of_set e = subst (λ (f : Family). (HasSet p i ↔ has_other f p i) × (set_clause p i ≡ clause_of f p i)) (sym e)
      (((λ h. h), (λ h. h)), refl)

  pub of_entity : family i.rule ≡ Entity → (HasEntity p i ↔ HasOtherRule p i) × (entity_clause p i ≡ rule_clause p i)
  unfolding has_other clause_of
  of_entity e = subst (λ (f : Family). (HasEntity p i ↔ has_other f p i) × (entity_clause p i ≡ clause_of f p i))
      (sym e) (((λ h. h), (λ h. h)), refl)

  pub of_string : family i.rule ≡ String → (HasString p i ↔ HasOtherRule p i) × (string_clause p i ≡ rule_clause p i)
  unfolding has_other clause_of
  of_string e = subst (λ (f : Family). (HasString p i ↔ has_other f p i) × (string_clause p i ≡ clause_of f p i))
      (sym e) (((λ h. h), (λ h. h)), refl)

  pub no_definition : family i.rule ≡ Definition → HasOtherRule p i → ⊥
  unfolding has_other
  no_definition e h = subst (λ (f : Family). has_other f p i) e h

  pub no_rule : family i.rule ≡ Other → HasOtherRule p i → ⊥
  unfolding has_other
  no_rule e h = subst (λ (f : Family). has_other f p i) e h

  -- ---- instances that are found

  module _ (m : Assignment) where
    pub equal_out : HasEqual p i → falsifies m (equal_clause p i) ≡ true → HasOtherRule p i
        × (falsifies m (rule_clause p i) ≡ true)
    equal_out h e = let of = of_equal (equal_family p i h) in (of.0.0 h, ap (falsifies m) (sym of.1) ∙ e)

    pub set_out : HasSet p i → falsifies m (set_clause p i) ≡ true → HasOtherRule p i
        × (falsifies m (rule_clause p i) ≡ true)
    set_out h e = let of = of_set (set_family p i h) in (of.0.0 h, ap (falsifies m) (sym of.1) ∙ e)

    pub entity_out : HasEntity p i → falsifies m (entity_clause p i) ≡ true → HasOtherRule p i
        × (falsifies m (rule_clause p i) ≡ true)
    entity_out h e = let of = of_entity (entity_family p i h) in (of.0.0 h, ap (falsifies m) (sym of.1) ∙ e)

    pub string_out : HasString p i → falsifies m (string_clause p i) ≡ true → HasOtherRule p i
        × (falsifies m (rule_clause p i) ≡ true)
    string_out h e = let of = of_string (string_family p i h) in (of.0.0 h, ap (falsifies m) (sym of.1) ∙ e)

    -- where no theory has one that is falsified, there is none
    pub none_out : (HasEqual p i → falsifies m (equal_clause p i) ≡ false)
        → (HasSet p i → falsifies m (set_clause p i) ≡ false)
        → (HasEntity p i → falsifies m (entity_clause p i) ≡ false)
        → (HasString p i → falsifies m (string_clause p i) ≡ false) → HasOtherRule p i
        → falsifies m (rule_clause p i) ≡ false
    unfolding has_other clause_of
    none_out equal set entity string h = by (family i.rule) h
      where
        by : (f : Family) → has_other f p i → falsifies m (clause_of f p i) ≡ false
        by Definition h = absurd h
        by Equal h = equal h
        by Set h = set h
        by Entity h = entity h
        by String h = string h
        by Other h = absurd h

  -- ---- each has a word

  pub other_word : HasOtherRule p i → bytes_eq i.rule [] ≡ false
  unfolding has_other family
  other_word h = by (bytes_eq i.rule []) refl
    where
      by : (b : Bool) → bytes_eq i.rule [] ≡ b → b ≡ false
      by false e = refl
      by true e = absurd (no_definition (ap family (bytes_eq_true i.rule [] e)) h)
