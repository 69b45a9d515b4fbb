-- An instance of a theory has a rule of that theory's letters.
use Rattle.std.proofs.Common.{◌≡◌, ℕ, Bool, true, false, List, [], ◌∷◌, map, codes, Option, Some, None, IsTrue, IsSomeAnd, refl, ap, ◌∙◌, if◌then◌else◌}
use Rattle.std.specs.List.{list_all}
use Rattle.sc_lists.proofs.TextLaws.{bytes_eq_true}
use Rattle.sc_clauses.specs.declared.step.Instance.{Instance}
use Rattle.sc_footprint.specs.Problems.{Posed}
use Rattle.sc_rule_instances.specs.Clauses.{is_instance}
use Rattle.sc_rule_instances.specs.Instances.{HasEqual, HasSet, HasEntity, said_by, equal_said, set_said, entity_said}
use Rattle.sc_rule_instances.specs.Names.{is_named, numbers_of, equal_named, set_named, entity_named, equal_rule, set_rule, entity_rule}
use Rattle.sc_rule_instances.specs.declared.rule.EqualRule.{EqualRule}
use Rattle.sc_rule_instances.specs.declared.rule.EqualRule.TheVariants.{Eq1, Eq2, Eq3, Eq4, Eq5, Eq6, Eq7, Eq8}
use Rattle.sc_rule_instances.specs.declared.rule.SetRule.{SetRule}
use Rattle.sc_rule_instances.specs.declared.rule.SetRule.TheVariants.{Se1, Se2, Se3, Se4, Se5, Se6, Se7, Se8, Se9, Se10}
use Rattle.sc_rule_instances.specs.declared.rule.EntityRule.{EntityRule}
use Rattle.sc_rule_instances.specs.declared.rule.EntityRule.TheVariants.{En1, En2, En3, En4, En5, En6, En7, En8, Eq9}
use Rattle.sc_clauses.specs.declared.step.Word.{Word}
use Rattle.sc_clauses.specs.declared.step.Word.TheVariants.{Number, Signs as Signed}
use Rattle.sc_footprint.specs.Written.{is_word}
use Rattle.sc_rule_laws.specs.Strings.{Signs}
use Rattle.th_strings_instances.specs.Instances.{HasString, IsInstanceOf}
use Rattle.th_strings_instances.specs.Names.{is_numeral, number_in, three_numbers, plain_named, counted_named, string_named, string_rule}
use Rattle.th_strings_instances.specs.Patterns.{patterns}
use Rattle.th_strings_instances.specs.declared.rule.StringRule.{StringRule}
use Rattle.th_strings_instances.specs.declared.rule.StringRule.TheVariants.{St1, St2, St3}
use Rattle.sc_solver.specs.declared.family.Family.{Family}
use Rattle.sc_solver.specs.declared.family.Family.TheVariants.{Equal, Set, Entity, String}
use Rattle.sc_solver.specs.Families.{family}

module _ {R : Type 0} (rule : List ℕ) (f : Family) (r : R) where
  -- of a word that is tested first, and of what is tested later
  first : (word : List ℕ) → family word ≡ f → (b : Bool) → is_named rule word ≡ b → (found : R) (rest : Option R)
      → (if b then Some found else rest) ≡ Some r → (rest ≡ Some r → family rule ≡ f) → family rule ≡ f
  first word is true same found rest e later = ap family (bytes_eq_true rule word same) ∙ is
  first word is false other found rest e later = later e

  named : (word : List ℕ) → family word ≡ f → (found : R) (rest : Option R)
      → (if is_named rule word then Some found else rest) ≡ Some r → (rest ≡ Some r → family rule ≡ f) → family rule ≡ f
  named word is found rest e later = first word is (is_named rule word) refl found rest e later

-- ---- the words of each theory

module _ (rule : List ℕ) where
  equal_letters : (r : EqualRule) (ws : List Word) → equal_named rule (numbers_of ws) ≡ Some r → family rule ≡ Equal
  unfolding family
  equal_letters r [] e = absurd cc
  equal_letters r (Signed v ∷ ws) e = absurd cc
  equal_letters r (Number a ∷ []) e = named rule Equal r (codes "EQ8") refl (Eq8 a) None e (λ f. absurd cc)
  equal_letters r (Number a ∷ Signed v ∷ ws) e = absurd cc
  equal_letters r (Number a ∷ Number b ∷ []) e =
      named rule Equal r (codes "EQ2") refl (Eq2 a b) _ e (λ e.
      named rule Equal r (codes "EQ4") refl (Eq4 a b) _ e (λ e.
      named rule Equal r (codes "EQ5") refl (Eq5 a b) _ e (λ e.
      named rule Equal r (codes "EQ6") refl (Eq6 a b) None e (λ f. absurd cc))))
  equal_letters r (Number a ∷ Number b ∷ Signed v ∷ ws) e = absurd cc
  equal_letters r (Number a ∷ Number b ∷ Number c ∷ []) e =
      named rule Equal r (codes "EQ1") refl (Eq1 a b c) _ e (λ e.
      named rule Equal r (codes "EQ3") refl (Eq3 a b c) _ e (λ e.
      named rule Equal r (codes "EQ7") refl (Eq7 a b c) None e (λ f. absurd cc)))
  equal_letters r (Number a ∷ Number b ∷ Number c ∷ Signed v ∷ ws) e = absurd cc
  equal_letters r (Number a ∷ Number b ∷ Number c ∷ Number d ∷ []) e = absurd cc
  equal_letters r (Number a ∷ Number b ∷ Number c ∷ Number d ∷ w ∷ ws) e = absurd cc

  set_letters : (r : SetRule) (ws : List Word) → set_named rule (numbers_of ws) ≡ Some r → family rule ≡ Set
  unfolding family
  set_letters r [] e = absurd cc
  set_letters r (Signed v ∷ ws) e = absurd cc
  set_letters r (Number a ∷ []) e = absurd cc
  set_letters r (Number a ∷ Signed v ∷ ws) e = absurd cc
  set_letters r (Number a ∷ Number b ∷ []) e = named rule Set r (codes "SE2") refl (Se2 a b) None e (λ f. absurd cc)
  set_letters r (Number a ∷ Number b ∷ Signed v ∷ ws) e = absurd cc
  set_letters r (Number a ∷ Number b ∷ Number c ∷ []) e =
      named rule Set r (codes "SE1") refl (Se1 a b c) _ e (λ e.
      named rule Set r (codes "SE3") refl (Se3 a b c) _ e (λ e.
      named rule Set r (codes "SE4") refl (Se4 a b c) _ e (λ e.
      named rule Set r (codes "SE5") refl (Se5 a b c) _ e (λ e.
      named rule Set r (codes "SE6") refl (Se6 a b c) _ e (λ e.
      named rule Set r (codes "SE7") refl (Se7 a b c) _ e (λ e.
      named rule Set r (codes "SE8") refl (Se8 a b c) _ e (λ e.
      named rule Set r (codes "SE9") refl (Se9 a b c) _ e (λ e.
      named rule Set r (codes "SE10") refl (Se10 a b c) None e (λ f. absurd cc)))))))))
  set_letters r (Number a ∷ Number b ∷ Number c ∷ Signed v ∷ ws) e = absurd cc
  set_letters r (Number a ∷ Number b ∷ Number c ∷ Number d ∷ []) e = absurd cc
  set_letters r (Number a ∷ Number b ∷ Number c ∷ Number d ∷ w ∷ ws) e = absurd cc

  entity_letters : (r : EntityRule) (ws : List Word) → entity_named rule (numbers_of ws) ≡ Some r → family rule ≡ Entity
  unfolding family
  entity_letters r [] e = absurd cc
  entity_letters r (Signed v ∷ ws) e = absurd cc
  entity_letters r (Number a ∷ []) e =
      named rule Entity r (codes "EN4") refl (En4 a) _ e (λ e.
      named rule Entity r (codes "EN6") refl (En6 a) _ e (λ e.
      named rule Entity r (codes "EN8") refl (En8 a) _ e (λ e.
      named rule Entity r (codes "EQ9") refl (Eq9 a) None e (λ f. absurd cc))))
  entity_letters r (Number a ∷ Signed v ∷ ws) e = absurd cc
  entity_letters r (Number a ∷ Number b ∷ []) e =
      named rule Entity r (codes "EN7") refl (En7 a b) None e (λ f. absurd cc)
  entity_letters r (Number a ∷ Number b ∷ Signed v ∷ ws) e = absurd cc
  entity_letters r (Number a ∷ Number b ∷ Number c ∷ []) e =
      named rule Entity r (codes "EN1") refl (En1 a b c) _ e (λ e.
      named rule Entity r (codes "EN2") refl (En2 a b c) _ e (λ e.
      named rule Entity r (codes "EN3") refl (En3 a b c) None e (λ f. absurd cc)))
  entity_letters r (Number a ∷ Number b ∷ Number c ∷ Signed v ∷ ws) e = absurd cc
  entity_letters r (Number a ∷ Number b ∷ Number c ∷ Number d ∷ []) e =
      named rule Entity r (codes "EN5") refl (En5 a b c d) None e (λ f. absurd cc)
  entity_letters r (Number a ∷ Number b ∷ Number c ∷ Number d ∷ w ∷ ws) e = absurd cc

  -- of the words after a rule on strings the first is signs, or all three are numbers
  plain_letters : (r : StringRule) (o : Option (ℕ × ℕ × ℕ)) → plain_named rule o ≡ Some r → family rule ≡ String
  unfolding family
  plain_letters r (Some (a, b, c)) e = named rule String r (codes "ST1") refl (St1 a b c) None e (λ f. absurd cc)
  plain_letters r None e = absurd cc

  counted_letters : (r : StringRule) (v : Signs) (ns : List ℕ) → counted_named rule v ns ≡ Some r → family rule ≡ String
  unfolding family
  counted_letters r v ns e =
      named rule String r (codes "ST2") refl (St2 v ns) _ e (λ e.
      named rule String r (codes "ST3") refl (St3 v ns) None e (λ f. absurd cc))

  numbered_letters : (r : StringRule) (v : Signs) (ns : List ℕ) (b : Bool)
      → (if b then counted_named rule v ns else None) ≡ Some r
      → family rule ≡ String
  numbered_letters r v ns true e = counted_letters r v ns e
  numbered_letters r v ns false e = absurd cc

  string_letters : (r : StringRule) (ws : List Word) → string_named rule ws ≡ Some r → family rule ≡ String
  string_letters r [] e = plain_letters r (three_numbers []) e
  string_letters r (Number n ∷ ws) e = plain_letters r (three_numbers (Number n ∷ ws)) e
  string_letters r (Signed v ∷ ws) e = numbered_letters r v (map number_in ws) (list_all is_numeral ws) e

-- ---- instances

module _ (p : Posed) (i : Instance) where
  pub equal_family : HasEqual p i → family i.rule ≡ Equal
  unfolding is_instance
  equal_family h = by (equal_rule i) refl h
    where
      of_words : (r : EqualRule) (b : Bool) → list_all is_word i.words ≡ b → equal_rule i ≡ Some r
          → family i.rule ≡ Equal
      of_words r true same e = equal_letters i.rule r i.words (rw same at e)
      of_words r false same e = let none = rw same at e in absurd cc

      by : (o : Option EqualRule) → equal_rule i ≡ o → IsTrue (is_instance p (said_by (equal_said p) o))
          → family i.rule ≡ Equal
      by (Some r) e h = of_words r (list_all is_word i.words) refl e
      by None e h = absurd cc

  pub set_family : HasSet p i → family i.rule ≡ Set
  unfolding is_instance
  set_family h = by (set_rule i) refl h
    where
      of_words : (r : SetRule) (b : Bool) → list_all is_word i.words ≡ b → set_rule i ≡ Some r → family i.rule ≡ Set
      of_words r true same e = set_letters i.rule r i.words (rw same at e)
      of_words r false same e = let none = rw same at e in absurd cc

      by : (o : Option SetRule) → set_rule i ≡ o → IsTrue (is_instance p (said_by (set_said p) o)) → family i.rule ≡ Set
      by (Some r) e h = of_words r (list_all is_word i.words) refl e
      by None e h = absurd cc

  pub entity_family : HasEntity p i → family i.rule ≡ Entity
  unfolding is_instance
  entity_family h = by (entity_rule i) refl h
    where
      of_words : (r : EntityRule) (b : Bool) → list_all is_word i.words ≡ b → entity_rule i ≡ Some r
          → family i.rule ≡ Entity
      of_words r true same e = entity_letters i.rule r i.words (rw same at e)
      of_words r false same e = let none = rw same at e in absurd cc

      by : (o : Option EntityRule) → entity_rule i ≡ o → IsTrue (is_instance p (said_by (entity_said p) o))
          → family i.rule ≡ Entity
      by (Some r) e h = of_words r (list_all is_word i.words) refl e
      by None e h = absurd cc

  pub string_family : HasString p i → family i.rule ≡ String
  string_family h = by (string_rule i) refl h
    where
      of_words : (r : StringRule) (b : Bool) → (if b then string_named i.rule i.words else None) ≡ Some r
          → family i.rule ≡ String
      of_words r true e = string_letters i.rule r i.words e
      of_words r false e = absurd cc

      by : (o : Option StringRule) → string_rule i ≡ o → IsSomeAnd o (IsInstanceOf p (patterns p))
          → family i.rule ≡ String
      by (Some r) e h = of_words r (list_all is_word i.words) e
      by None e h = absurd h
