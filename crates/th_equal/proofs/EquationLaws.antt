-- Why an assignment knows two strings or entities to be equal: an equation of them is a listed atom that it makes true, or both are one
-- entity, written beside different others.
use Rattle.std.proofs.Common.{◌≡◌, ◌≢◌, ◌⊎◌, ◌==◌, ℕ, Bool, true, false, cond, inl, inr, [], ◌∷◌, Option, Some, None, option_map, refl, sym, ap, ◌∙◌, subst, ⊎_elim}
use Rattle.std.specs.Cmp.{Equal-is}
use Rattle.std.specs.Ordering.{is_gt}
use Rattle.sc_laws.proofs.NumberLaws.{nat_eq_true}
use Rattle.sc_laws.proofs.OptionLaws.{same_some}
use Rattle.sc_names.specs.declared.uid.Uid.{Uid}
use Rattle.sc_names.specs.Uids.{uid_cmp}
use Rattle.sc_names.proofs.UidLaws.{uid_cmp_level}
use Rattle.sc_clauses.specs.Assignments.{Assignment, value_of}
use Rattle.sc_clauses.specs.Clauses.{bool_eq, positive}
use Rattle.sc_sorts.specs.declared.node.BinaryOp.TheVariants.{Equal}
use Rattle.sc_sorts.specs.declared.node.Leaf.TheVariants.{Literal}
use Rattle.sc_sorts.specs.declared.node.Literal.{Literal as AnyLiteral}
use Rattle.sc_sorts.specs.declared.node.Literal.TheVariants as literals
use Rattle.sc_sorts.specs.Literals.{same_entity}
use Rattle.sc_terms.specs.Trees.{Tree, leaf, two}
use Rattle.sc_terms.specs.Order.{tree_cmp, tree_eq}
use Rattle.sc_terms.specs.Folds.{literal_of, literals_same, literal_term, truth_term, equation, other_equal, equal_term}
use Rattle.sc_terms.proofs.OrderLaws.{tree_cmp_level, tree_eq-exact}
use Rattle.sc_footprint.specs.Problems.{Posed, IsPosed, atoms, numbered, atom_number, literal, literal_in}
use Rattle.sc_footprint.proofs.NumberingLaws.{numbered_back}
use Rattle.sc_rule_instances.specs.Known.{only_true, seen_value, known}
use Rattle.sc_rule_instances.proofs.FalseLaws.{known_atom}
use Rattle.sc_rule_instances.proofs.LiteralLaws.{literal_truth, number_there}
use Rattle.sc_rule_laws.specs.Terms.{is_named}
use Rattle.sc_rule_laws.proofs.NamedLaws.{named_plain}
use Rattle.th_equal.specs.Joining.{has_choices}

-- ---- one entity twice

twice : (l k : AnyLiteral) → same_entity l k ≡ true → l ≢ k → (has_choices (literal_term l) ≡ true) ⊎ (has_choices (literal_term k) ≡ true)
twice (literals.Entity u []) (literals.Entity v []) h apart =
    let same : u ≡ v = uid_cmp_level u v ((Equal-is (uid_cmp u v)).0 h) in
    absurd (apart (ap (λ (w : Uid). literals.Entity w []) same))
twice (literals.Entity u (w ∷ ws)) k h apart = inl refl
twice (literals.Entity u []) (literals.Entity v (w ∷ ws)) h apart = inr refl
twice (literals.Entity u []) _ h apart = absurd cc
twice _ k h apart = absurd cc

written_twice : (x y : Tree) → literals_same (literal_of x) (literal_of y) ≡ Some true → x ≢ y → (has_choices x ≡ true) ⊎ (has_choices y ≡ true)
written_twice (leaf (Literal l)) (leaf (Literal k)) h apart = twice l k (same_some h) (λ same. apart (ap literal_term same))
written_twice (leaf (Literal l)) _ h apart = absurd cc
written_twice _ y h apart = absurd cc

-- ---- a listed atom

-- the atom of a number is a term, and is true
pub record IsTrueAtom (p : Posed) (m : Assignment) (n : ℕ) (t : Tree) : Type 0 where
  pub value : value_of m n ≡ Some true
  pub is : numbered (atoms p) n ≡ Some t

-- why two terms are known to be equal
pub data Reason (p : Posed) (m : Assignment) (x y : Tree) : Type 0 where
  first_twice : has_choices x ≡ true → Reason p m x y
  second_twice : has_choices y ≡ true → Reason p m x y
  by_atom : (n : ℕ) → IsTrueAtom p m n (two Equal x y) → Reason p m x y
  by_turned : (n : ℕ) → IsTrueAtom p m n (two Equal y x) → Reason p m x y

module _ (p : Posed) (m : Assignment) where
  valued : (o : Option Bool) → option_map (λ (v : Bool). bool_eq v true) o ≡ Some true → o ≡ Some true
  valued (Some true) h = refl
  valued (Some false) h = absurd cc
  valued None h = absurd cc

  only : (o : Option Bool) → only_true o ≡ Some true → o ≡ Some true
  only (Some true) h = refl
  only (Some false) h = absurd cc
  only None h = absurd cc

  seen : (n : ℕ) → seen_value m n ≡ Some true → value_of m n ≡ Some true
  seen n = by (n == 1) refl
    where
      by : (b : Bool) → (n == 1) ≡ b → cond b (only_true (value_of m 1)) (value_of m n) ≡ Some true → value_of m n ≡ Some true
      by true e h = let one : n ≡ 1 = nat_eq_true n 1 e in ap (value_of m) one ∙ only (value_of m 1) h
      by false e h = h

  atom_true : (t : Tree) → known m (positive (atom_number p t)) ≡ Some true → (n : ℕ) × IsTrueAtom p m n t
  atom_true t h = (
    atom_number p t,
    record {
      value = seen (atom_number p t) (valued (seen_value m (atom_number p t)) h);
      is = numbered_back tree_cmp_level (atoms p) t (number_there (atoms p) t (known_atom m (positive (atom_number p t)) true h));
    },
  )

  -- ---- two terms that are known to be equal

  false_unknown : IsPosed p → known m (literal_in p (truth_term false)) ≡ Some true → ⊥
  false_unknown posed h = by (value_of m 1) (ap (known m) (sym (literal_truth p posed false)) ∙ h)
    where
      by : (o : Option Bool) → option_map (λ (v : Bool). bool_eq v false) (only_true o) ≡ Some true → ⊥
      by (Some true) e = absurd cc
      by (Some false) e = absurd cc
      by None e = absurd cc

  pub reason : (x y : Tree) → IsPosed p → is_named x ≡ true → is_named y ≡ true → x ≢ y → known m (literal_in p (equal_term x y)) ≡ Some true → Reason p m x y
  unfolding equal_term literal
  reason x y posed e f apart h = by (tree_eq x y) (literals_same (literal_of x) (literal_of y)) (is_gt (tree_cmp x y)) refl refl refl (subst (λ (t : Tree). known m (literal_in p t) ≡ Some true) folded h)
    where
      folded : equal_term x y ≡ other_equal (tree_eq x y) (literals_same (literal_of x) (literal_of y)) x y
      folded = rw (named_plain x e, named_plain y f) refl

      turn : (t : Bool) → is_gt (tree_cmp x y) ≡ t → known m (literal_in p (other_equal false None x y)) ≡ Some true → Reason p m x y
      turn true i k = let a = atom_true (two Equal y x) (subst (λ (b : Bool). known m (literal_in p (equation b x y)) ≡ Some true) i k) in by_turned a.0 a.1
      turn false i k = let a = atom_true (two Equal x y) (subst (λ (b : Bool). known m (literal_in p (equation b x y)) ≡ Some true) i k) in by_atom a.0 a.1

      by : (same : Bool) (o : Option Bool) (t : Bool) → tree_eq x y ≡ same → literals_same (literal_of x) (literal_of y) ≡ o → is_gt (tree_cmp x y) ≡ t → known m (literal_in p (other_equal same o x y)) ≡ Some true → Reason p m x y
      by true o t i j g k = absurd (apart (tree_eq-exact x y i))
      by false (Some true) t i j g k = ⊎_elim first_twice second_twice (written_twice x y j apart)
      by false (Some false) t i j g k = absurd (false_unknown posed k)
      by false None t i j g k = turn t g k
