-- Names of strings, and which terms are covered, row by row.
use Rattle.std.proofs.Common.{◌≡◌, true, false, [], ◌∷◌, Some, None, refl}
use Rattle.std.specs.Str.{chars}
use Rattle.sc_sorts.specs.declared.sort.Sort.{Sort}
use Rattle.sc_pattern.specs.declared.part.Part.TheVariants.{Star, Char}
use Rattle.sc_pattern.specs.Language.{is_match}
use Rattle.sc_sorts.specs.declared.node.Leaf.TheVariants.{Principal}
use Rattle.sc_sorts.specs.declared.node.Literal.TheVariants as literal
use Rattle.sc_sorts.specs.declared.node.UnaryOp.TheVariants.{Like}
use Rattle.sc_sorts.specs.declared.node.BinaryOp.TheVariants as binary
use Rattle.sc_terms.specs.Trees.{Tree, leaf, one, two}
use Rattle.sc_terms.specs.Folds.{literal_term, like_term}
use Rattle.sc_rule_laws.specs.Strings.{Pattern}
use Rattle.sc_model_laws.specs.Assignments.{Assignment, lit}
use Rattle.sc_model_laws.specs.Names.{Name, signs_of, name_in, unused, literal_entries}
use Rattle.sc_model_laws.specs.Rows.{is_covered}

module _ (x y : Tree) (k : Sort) where
  -- a text that is a name already is passed over
  passed_over : unused ((x, 97 ∷ []) ∷ []) ((97 ∷ []) ∷ (98 ∷ []) ∷ (99 ∷ []) ∷ []) ≡ 98 ∷ []
  unfolding unused
  passed_over = refl

  -- of equal strings the first has the name
  first_equal : (n o : Name) → name_in (λ t u. true) ((x, n) ∷ (y, o) ∷ []) y ≡ Some n
  unfolding name_in
  first_equal n o = refl

  none_equal : (n : Name) → name_in (λ t u. false) ((x, n) ∷ []) y ≡ None
  unfolding name_in
  none_equal n = refl

  -- a literal has the name that it says, before any other string has one
  literal_first : (t : Name) → literal_entries (leaf (Principal k) ∷ literal_term (literal.String t) ∷ []) ≡ (literal_term (literal.String t), t) ∷ []
  literal_first t = refl

  -- the text a matches any characters, and not the character b
  signs_of_a : (m : Assignment) → signs_of m ((Star ∷ []) ∷ (Char 98 ∷ []) ∷ []) (literal_term (literal.String (97 ∷ []))) ≡ true ∷ false ∷ []
  unfolding lit like_term is_match chars
  signs_of_a m = refl

  pattern_covered : (p : Pattern) → is_covered (one (Like p) (leaf (Principal k))) ≡ true
  unfolding is_covered
  pattern_covered p = refl

  pick_uncovered : is_covered (two binary.CommonPick (leaf (Principal k)) (leaf (Principal k))) ≡ false
  unfolding is_covered
  pick_uncovered = refl
