-- What is said first is said by the first that says what is sought.
use Rattle.std.proofs.Common.{◌≡◌, ℕ, Bool, true, false, cond, List, [], ◌∷◌, map, Option, Some, None, option_map, unwrap_or, refl, sym, ap, ◌∙◌}
use Rattle.sc_clauses.specs.Assignments.{Assignment}
use Rattle.sc_names.specs.declared.uid.Uid.{Uid}
use Rattle.sc_values.specs.declared.value.Value.{Value}
use Rattle.sc_values.specs.Records.{Fields}
use Rattle.sc_sorts.specs.declared.node.Leaf.TheVariants as leafs
use Rattle.sc_sorts.specs.declared.node.UnaryOp.TheVariants as unary
use Rattle.sc_sorts.specs.declared.node.BinaryOp.TheVariants as binary
use Rattle.sc_terms.specs.Trees.{Tree, leaf, one, two}
use Rattle.sc_terms.specs.TreeSorts.{tree_sort}
use Rattle.sc_terms.specs.Tables.{tree}
use Rattle.sc_terms.specs.Values.{value_in, record_in}
use Rattle.sc_footprint.specs.Problems.{Posed}
use Rattle.sc_model_values.specs.Models.{model}
use Rattle.sc_model_laws.specs.Vals.{val_of}
use Rattle.sc_model_world_laws.specs.Rebuilt.{or_said, first_said, attributes_said, context_said, tag_said}
use Rattle.sc_model_worlds.specs.declared.sought.Sought.{Sought}
use Rattle.sc_model_worlds.specs.declared.sought.Sought.TheVariants.{Context, Attributes, Tag}
use Rattle.sc_model_worlds.specs.Saying.{says, first_saying, uid_in}

pub uid_told : (p : Posed) (names : List (List ℕ)) (t : Tree) (uid : Uid) → ((m : Assignment) → uid ≡ (model p m names).uid t) → uid ≡ uid_in p names t
unfolding model
uid_told p names t uid h = h []

module _ {X : Type 0} (p : Posed) (names : List (List ℕ)) (s : Sought) (f : Tree → Option X) (told : Tree → X)
    (is : (t : Tree) → f t ≡ cond (says p names s t) (Some (told t)) None) where
  abbrev by_number : ℕ → X
  by_number n = told (tree p.nodes n)

  first_by : (ns : List ℕ) → first_said f (map (tree p.nodes) ns) ≡ option_map by_number (first_saying p names s ns)
  unfolding first_said
  first_by [] = refl
  first_by (n ∷ ns) =
      ap (λ (o : Option X). or_said o (first_said f (map (tree p.nodes) ns))) (is (tree p.nodes n))
      ∙ by (says p names s (tree p.nodes n)) (first_by ns)
    where
      by : (b : Bool) → first_said f (map (tree p.nodes) ns) ≡ option_map by_number (first_saying p names s ns)
          → or_said (cond b (Some (told (tree p.nodes n))) None) (first_said f (map (tree p.nodes) ns)) ≡ option_map by_number (cond b (Some n) (first_saying p names s ns))
      by true e = refl
      by false e = e

  pub told_there : (ns : List ℕ) (n : ℕ) (other : X) (o : Option ℕ) → o ≡ first_saying p names s ns → o ≡ Some n → told (tree p.nodes n) ≡ unwrap_or (first_said f (map (tree p.nodes) ns)) other
  told_there ns n other o e h = sym (ap (λ (z : Option X). unwrap_or z other) (first_by ns ∙ ap (option_map by_number) (sym e ∙ h)))

  pub told_nowhere : (ns : List ℕ) (other : X) (o : Option ℕ) → o ≡ first_saying p names s ns → o ≡ None → other ≡ unwrap_or (first_said f (map (tree p.nodes) ns)) other
  told_nowhere ns other o e h = sym (ap (λ (z : Option X). unwrap_or z other) (first_by ns ∙ ap (option_map by_number) (sym e ∙ h)))

module _ (p : Posed) (m : Assignment) (names : List (List ℕ)) where
  abbrev pub record_told : Tree → Fields
  record_told t = record_in (val_of (model p m names) (tree_sort t) t)

  abbrev pub value_told : Tree → Value
  value_told t = value_in (val_of (model p m names) (tree_sort t) t)

  pub attributes_by : (u : Uid) (t : Tree) → attributes_said (model p m names) u t ≡ cond (says p names (Attributes u) t) (Some (record_told t)) None
  unfolding model tree_sort
  attributes_by u (one (unary.Attributes own) e) = refl
  attributes_by u _ = refl

  pub context_by : (t : Tree) → context_said (model p m names) t ≡ cond (says p names Context t) (Some (record_told t)) None
  unfolding model tree_sort
  context_by (leaf (leafs.Context k)) = refl
  context_by _ = refl

  pub tag_by : (u : Uid) (key : List ℕ) (t : Tree) → tag_said (model p m names) u key t ≡ cond (says p names (Tag u key) t) (Some (value_told t)) None
  unfolding model tree_sort
  tag_by u key (two (binary.Tag own) e k) = refl
  tag_by u key _ = refl
