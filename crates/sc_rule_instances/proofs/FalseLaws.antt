-- What an assignment that falsifies an instance knows of its terms, and where equations that it speaks of stand.
use Rattle.std.proofs.Common.{◌≡◌, ◌≢◌, ◌&&◌, ◌⊎◌, ◌==◌, ℕ, Bool, true, false, not, cond, inl, inr, Option, Some, None, option_map, Contains, refl, sym, ap, ◌∙◌, subst, [], ◌∷◌}
use Rattle.std.specs.Ordering.{is_gt}
use Rattle.sc_laws.proofs.NumberLaws.{nat_eq_true}
use Rattle.sc_clauses.specs.declared.lit.Lit.{Lit}
use Rattle.sc_clauses.specs.Assignments.{Assignment, value_of, is_false, is_false_at, falsifies}
use Rattle.sc_clauses.specs.Clauses.{Clause, bool_eq, is_in, lit_eq, negation}
use Rattle.sc_terms.specs.Trees.{Tree, two}
use Rattle.sc_terms.specs.Order.{tree_cmp, tree_eq}
use Rattle.sc_terms.specs.Folds.{constant, literal_of, equation, other_equal, equal_term}
use Rattle.sc_terms.proofs.OrderLaws.{tree_eq-exact}
use Rattle.sc_sorts.specs.declared.node.BinaryOp.TheVariants.{Equal}
use Rattle.sc_footprint.specs.Problems.{Posed, IsPosed, closed_terms, literal, literal_in}
use Rattle.sc_footprint.specs.Definitions.{is_tautology}
use Rattle.sc_rule_laws.proofs.MemberLaws.{all_has}
use Rattle.sc_rule_laws.specs.Signed.{Said}
use Rattle.sc_lists.proofs.ListLaws.{all_of_elements, list_any_false}
use Rattle.sc_lists.proofs.MemberLaws.{Has-from_Contains}
use Rattle.sc_clauses.proofs.LitLaws.{lit_eq-true}
use Rattle.std.proofs.lemmas.Bool.{and_parts}
use Rattle.std.specs.List.{list_all}
use Rattle.sc_rule_instances.specs.Clauses.{is_asked, is_instance, said_clause, clause_for}
use Rattle.sc_rule_instances.specs.Known.{only_true, seen_value, known, is_falsified}
use Rattle.sc_rule_instances.proofs.KnownLaws.{equal_itself}
use Rattle.sc_rule_instances.proofs.LiteralLaws.{literal_truth, number_closed}

-- ---- a literal that is asked and false is known to be false, and the other way round

-- by whether the atom is 0 and whether it is 1, by its value, and by whether the literal is negated
false_by : (z o : Bool) (v : Option Bool) (n : Bool) → ((not z && not (o && bool_eq n false)) && is_false_at v n) ≡ true → option_map (λ (x : Bool). bool_eq x (not n)) (cond o (only_true v) v) ≡ Some false
false_by true o v n h = absurd cc
false_by false true None n h = by n h
  where
    by : (b : Bool) → (not (bool_eq b false) && false) ≡ true → None ≡ Some false
    by true e = absurd cc
    by false e = absurd cc
false_by false false None n h = absurd cc
false_by false true (Some true) true h = refl
false_by false true (Some true) false h = absurd cc
false_by false true (Some false) true h = absurd cc
false_by false true (Some false) false h = absurd cc
false_by false false (Some true) true h = refl
false_by false false (Some true) false h = absurd cc
false_by false false (Some false) true h = absurd cc
false_by false false (Some false) false h = refl

known_by_value : (z o : Bool) (v : Option Bool) (n : Bool) → (z ≡ true → v ≡ None) → option_map (λ (x : Bool). bool_eq x (not n)) (cond o (only_true v) v) ≡ Some false → ((not z && not (o && bool_eq n false)) && is_false_at v n) ≡ true
known_by_value true o v n none h = absurd (by o v (none refl) h)
  where
    by : (p : Bool) (w : Option Bool) → w ≡ None → option_map (λ (x : Bool). bool_eq x (not n)) (cond p (only_true w) w) ≡ Some false → ⊥
    by true None e f = absurd cc
    by false None e f = absurd cc
    by p (Some x) e f = absurd cc
known_by_value false true None n none h = absurd cc
known_by_value false false None n none h = absurd cc
known_by_value false true (Some true) true none h = refl
known_by_value false true (Some true) false none h = absurd cc
known_by_value false true (Some false) true none h = absurd cc
known_by_value false true (Some false) false none h = absurd cc
known_by_value false false (Some true) true none h = refl
known_by_value false false (Some true) false none h = absurd cc
known_by_value false false (Some false) true none h = absurd cc
known_by_value false false (Some false) false none h = refl

-- atom 0 has no value, and the value of an atom that is 1 is that of 1
no_value : (m : Assignment) (a : ℕ) → (a == 0) ≡ true → value_of m a ≡ None
no_value m a e = rw e refl

first_value : (m : Assignment) (a : ℕ) → seen_value m a ≡ cond (a == 1) (only_true (value_of m a)) (value_of m a)
first_value m a = by (a == 1) refl
  where
    by : (b : Bool) → (a == 1) ≡ b → cond b (only_true (value_of m 1)) (value_of m a) ≡ cond b (only_true (value_of m a)) (value_of m a)
    by true e = let same : a ≡ 1 = nat_eq_true a 1 e in ap (λ (k : ℕ). only_true (value_of m k)) (sym same)
    by false e = refl

-- what is known is of an atom
pub known_atom : (m : Assignment) (l : Lit) (b : Bool) → known m l ≡ Some b → l.atom ≢ 0
known_atom m l b h e = let none : None ≡ Some b = ap (λ (n : ℕ). option_map (λ (v : Bool). bool_eq v (not l.negated)) (seen_value m n)) (sym e) ∙ h in absurd cc

module _ (m : Assignment) where
  pub false_known : (l : Lit) → (is_asked l && is_false m l) ≡ true → known m l ≡ Some false
  false_known l h =
      ap (λ (o : Option Bool). option_map (λ (v : Bool). bool_eq v (not l.negated)) o) (first_value m l.atom) ∙ false_by (l.atom == 0) (l.atom == 1) (value_of m l.atom) l.negated h

  pub known_false : (l : Lit) → known m l ≡ Some false → (is_asked l && is_false m l) ≡ true
  known_false l h =
      known_by_value (l.atom == 0) (l.atom == 1) (value_of m l.atom) l.negated (no_value m l.atom)
      (ap (λ (o : Option Bool). option_map (λ (v : Bool). bool_eq v (not l.negated)) o) (sym (first_value m l.atom)) ∙ h)

  -- of a negation the other truth is known
  turned : (o : Option Bool) (n b : Bool) → option_map (λ (v : Bool). bool_eq v (not (not n))) o ≡ Some b → option_map (λ (v : Bool). bool_eq v (not n)) o ≡ Some (not b)
  turned None n b h = absurd cc
  turned (Some true) true true h = refl
  turned (Some true) true false h = absurd cc
  turned (Some true) false true h = absurd cc
  turned (Some true) false false h = refl
  turned (Some false) true true h = absurd cc
  turned (Some false) true false h = refl
  turned (Some false) false true h = refl
  turned (Some false) false false h = absurd cc

  pub negated_known : (l : Lit) (b : Bool) → known m (negation l) ≡ Some b → known m l ≡ Some (not b)
  negated_known l b h = turned (seen_value m l.atom) l.negated b h

  pub false_negation : (l : Lit) → (is_asked (negation l) && is_false m (negation l)) ≡ true → known m l ≡ Some true
  false_negation l h = negated_known l false (false_known (negation l) h)

  back : (o : Option Bool) (n b : Bool) → option_map (λ (v : Bool). bool_eq v (not n)) o ≡ Some b → option_map (λ (v : Bool). bool_eq v (not (not n))) o ≡ Some (not b)
  back None n b h = absurd cc
  back (Some true) true true h = absurd cc
  back (Some true) true false h = refl
  back (Some true) false true h = refl
  back (Some true) false false h = absurd cc
  back (Some false) true true h = refl
  back (Some false) true false h = absurd cc
  back (Some false) false true h = absurd cc
  back (Some false) false false h = refl

  pub known_negation : (l : Lit) → known m l ≡ Some true → (is_asked (negation l) && is_false m (negation l)) ≡ true
  known_negation l h = known_false (negation l) (back (seen_value m l.atom) l.negated true h)

-- ---- equations

-- no term is known not to equal itself
pub true_isnt_false : (p : Posed) (m : Assignment) (x : Tree) → IsPosed p → known m (literal_in p (equal_term x x)) ≡ Some false → ⊥
true_isnt_false p m x posed h =
    by (value_of m 1) (ap (known m) (sym (ap (literal_in p) (equal_itself x) ∙ literal_truth p posed true)) ∙ h)
  where
    by : (o : Option Bool) → option_map (λ (v : Bool). bool_eq v true) (only_true o) ≡ Some false → ⊥
    by (Some true) e = absurd cc
    by (Some false) e = absurd cc
    by None e = absurd cc

-- the literal of an equation of two terms that are no literals is asked where they are one, or one of the two equations is closed
pub asked_equation : (p : Posed) (x y : Tree) → literal_of x ≡ None → constant x ≡ None → constant y ≡ None → (literal_in p (equal_term x y)).atom ≢ 0
    → (x ≡ y) ⊎ (Contains (closed_terms p) (two Equal x y) ⊎ Contains (closed_terms p) (two Equal y x))
unfolding equal_term literal
asked_equation p x y e f g h = by (tree_eq x y) (is_gt (tree_cmp x y)) refl refl (subst (λ (t : Tree). (literal_in p t).atom ≢ 0) folded h)
  where
    folded : equal_term x y ≡ other_equal (tree_eq x y) None x y
    folded = rw (f, g, e) refl

    by : (same turn : Bool) → tree_eq x y ≡ same → is_gt (tree_cmp x y) ≡ turn → (literal_in p (other_equal same None x y)).atom ≢ 0 → (x ≡ y) ⊎ (Contains (closed_terms p) (two Equal x y) ⊎ Contains (closed_terms p) (two Equal y x))
    by true turn i j k = inl (tree_eq-exact x y i)
    by false true i j k = inr (inr (number_closed p (two Equal y x) (subst (λ (b : Bool). (literal_in p (equation b x y)).atom ≢ 0) j k)))
    by false false i j k = inr (inl (number_closed p (two Equal x y) (subst (λ (b : Bool). (literal_in p (equation b x y)).atom ≢ 0) j k)))

-- ---- what is falsified is an instance whose clause is, and the other way round

module _ (m : Assignment) where
  never_opposite : (o : Option Bool) (n : Bool) → is_false_at o n ≡ true → is_false_at o (not n) ≡ true → ⊥
  never_opposite None n h k = absurd cc
  never_opposite (Some true) true h k = absurd cc
  never_opposite (Some true) false h k = absurd cc
  never_opposite (Some false) true h k = absurd cc
  never_opposite (Some false) false h k = absurd cc

  apart : (l k : Lit) → is_false m l ≡ true → is_false m k ≡ true → lit_eq (negation l) k ≡ false
  apart l k h i = by (lit_eq (negation l) k) refl
    where
      by : (b : Bool) → lit_eq (negation l) k ≡ b → b ≡ false
      by true e = absurd (never_opposite (value_of m l.atom) l.negated h (subst (λ (j : Lit). is_false m j ≡ true) (sym (lit_eq-true (negation l) k e)) i))
      by false e = refl

  not_opposed : (c : Clause) → list_all (is_false m) c ≡ true → is_tautology c ≡ false
  not_opposed c h =
      let each : (l : Lit) → Contains c l → is_false m l ≡ true = λ l there. all_has (is_false m) c l h (Has-from_Contains c l there) in
      list_any_false (λ (l : Lit). is_in c (negation l)) c (all_of_elements (λ (l : Lit). is_in c (negation l) ≡ false) c
      (λ l there. list_any_false (lit_eq (negation l)) c (all_of_elements (λ (k : Lit). lit_eq (negation l) k ≡ false) c (λ k here. apart l k (each l there) (each k here)))))

  both_all : (c : Clause) → list_all (λ (l : Lit). is_asked l && is_false m l) c ≡ true → (list_all is_asked c ≡ true) × (list_all (is_false m) c ≡ true)
  both_all [] h = (refl, refl)
  both_all (l ∷ c) h =
      let first = and_parts (is_asked l && is_false m l) (list_all (λ (l : Lit). is_asked l && is_false m l) c) h in
      let one = and_parts (is_asked l) (is_false m l) first.0 in
      let rest = both_all c first.1 in
      (rw (one.0, rest.0) refl, rw (one.1, rest.1) refl)

  all_both : (c : Clause) → list_all is_asked c ≡ true → list_all (is_false m) c ≡ true → list_all (λ (l : Lit). is_asked l && is_false m l) c ≡ true
  all_both [] h k = refl
  all_both (l ∷ c) h k =
      let a = and_parts (is_asked l) (list_all is_asked c) h in
      let b = and_parts (is_false m l) (list_all (is_false m) c) k in
      rw (a.0, b.0) (all_both c a.1 b.1)

  pub falsified_instance : (p : Posed) (said : Said) → is_falsified p m said ≡ true → (is_instance p said ≡ true) × (falsifies m (said_clause p said) ≡ true)
  unfolding is_falsified is_instance said_clause
  falsified_instance p None h = absurd cc
  falsified_instance p (Some parts) h =
      let both = both_all (clause_for p parts) h in
      (rw (both.0, not_opposed (clause_for p parts) both.1) refl, both.1)

  pub instance_falsified : (p : Posed) (said : Said) → is_instance p said ≡ true → falsifies m (said_clause p said) ≡ true → is_falsified p m said ≡ true
  unfolding is_falsified is_instance said_clause
  instance_falsified p None h k = absurd cc
  instance_falsified p (Some parts) h k = all_both (clause_for p parts) (and_parts (list_all is_asked (clause_for p parts)) (not (is_tautology (clause_for p parts))) h).0 k

  -- so a clause whose instance isn't falsified isn't either
  pub instance_free : (p : Posed) (said : Said) → is_instance p said ≡ true → is_falsified p m said ≡ false → falsifies m (said_clause p said) ≡ false
  instance_free p said h e = by (falsifies m (said_clause p said)) refl
    where
      by : (b : Bool) → falsifies m (said_clause p said) ≡ b → b ≡ false
      by false f = refl
      by true f = let never : true ≡ false = sym (instance_falsified p said h f) ∙ e in cc
