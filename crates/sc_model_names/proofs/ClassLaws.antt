-- Each term equals one of the classes that are found among it.
use Rattle.std.proofs.Common.{◌≡◌, ◌⊎◌, ◌++◌, inl, inr, Bool, true, false, cond, List, [], ◌∷◌, Option, None, refl, sym, ap, ◌∙◌, subst}
use Rattle.std.specs.List.{list_any}
use Rattle.sc_lists.proofs.MemberLaws.{Has-left, Has-last, Has-push}
use Rattle.sc_lists.specs.Members.{Has}
use Rattle.sc_sorts.specs.declared.sort.Sort.{Sort, out-Sort}
use Rattle.sc_sorts.specs.declared.sort.Sort.TheVariants as sort
use Rattle.sc_sorts.proofs.OutLaws.{out_Bool, out_String}
use Rattle.sc_sorts.specs.declared.node.Leaf.TheVariants.{Literal}
use Rattle.sc_sorts.specs.declared.node.Literal.TheVariants as literals
use Rattle.sc_terms.specs.Folds.{constant, literal_of, literals_same, equal_term, equal_by, other_equal}
use Rattle.sc_terms.specs.Trees.{Tree, leaf}
use Rattle.sc_terms.specs.TreeSorts.{tree_sort}
use Rattle.sc_terms.proofs.OrderLaws.{tree_eq-itself}
use Rattle.sc_term_laws.specs.Tests.{bool_level}
use Rattle.sc_rule_laws.proofs.MemberLaws.{any_first}
use Rattle.sc_model_laws.specs.Assignments.{Assignment, lit}
use Rattle.sc_model_laws.specs.Names.{are_equal}
use Rattle.sc_model_names.specs.Classes.{put_class, classes}

module _ (m : Assignment) where
  put_old : (found : List Tree) (x y : Tree) → Has found y → Has (put_class m found x) y
  put_old found x y h = by (list_any (are_equal m x) found) where
    by : (b : Bool) → Has (cond b found (found ++ x ∷ [])) y
    by true = h
    by false = Has-left found (x ∷ []) y h

  put_only : (found : List Tree) (x y : Tree) → Has (put_class m found x) y → Has found y ⊎ (x ≡ y)
  put_only found x y = by (list_any (are_equal m x) found) where
    by : (b : Bool) → Has (cond b found (found ++ x ∷ [])) y → Has found y ⊎ (x ≡ y)
    by true h = inl h
    by false h = Has-push found x y h

  abbrev Equals : List Tree → Tree → Type 0
  Equals found x = (y : Tree) × Has found y × (are_equal m x y ≡ true)

  put_own : (found : List Tree) (x : Tree) → are_equal m x x ≡ true → Equals (put_class m found x) x
  put_own found x same = by (list_any (are_equal m x) found) refl where
    by : (b : Bool) → list_any (are_equal m x) found ≡ b → Equals (cond b found (found ++ x ∷ [])) x
    by true e = let other = any_first (are_equal m x) found e in (other.found, other.there, other.passes)
    by false e = (x, Has-last found x, same)

  kept : (found xs : List Tree) (y : Tree) → Has found y → Has (classes m found xs) y
  unfolding classes
  kept found [] y h = h
  kept found (x ∷ xs) y h = kept (put_class m found x) xs y (put_old found x y h)

  pub equals_class : (found xs : List Tree) (x : Tree) → Has xs x → are_equal m x x ≡ true → Equals (classes m found xs) x
  unfolding classes
  equals_class found [] x h same = absurd h
  equals_class found (y ∷ xs) x (inl is) same =
      let own = put_own found x same in
      let here = subst (λ (z : Tree). Equals (put_class m found z) x) (sym is) own in
      (here.0, kept (put_class m found y) xs here.0 here.1, here.2)
  equals_class found (y ∷ xs) x (inr later) same = equals_class (put_class m found y) xs x later same

  pub class_within : (found xs : List Tree) (y : Tree) → Has (classes m found xs) y → Has found y ⊎ Has xs y
  unfolding classes
  class_within found [] y h = inl h
  class_within found (x ∷ xs) y h = elim (class_within (put_class m found x) xs y h) [
    | inr later ↦ inr (inr later)
    | inl here ↦ elim (put_only found x y here) [
      | inl old ↦ inl old
      | inr own ↦ inr (inl own)
    ]
  ]

  -- ---- a string equals itself

  no_constant : (x : Tree) → tree_sort x ≡ sort.String → constant x ≡ None
  unfolding tree_sort
  no_constant (leaf (Literal (literals.Bool b))) e =
      let both : true ≡ false = sym (ap bool_level out_Bool) ∙ ap (λ (k : Sort). bool_level (out-Sort k)) e ∙ ap bool_level out_String in absurd cc
  no_constant x e = refl

  pub string_itself : (x : Tree) → tree_sort x ≡ sort.String → are_equal m x x ≡ true
  unfolding equal_term lit
  string_itself x e =
      let none : constant x ≡ None = no_constant x e in
      ap (λ (o : Option Bool). lit m (equal_by o o x x)) none
      ∙ ap (λ (b : Bool). lit m (other_equal b (literals_same (literal_of x) (literal_of x)) x x)) (tree_eq-itself x)
