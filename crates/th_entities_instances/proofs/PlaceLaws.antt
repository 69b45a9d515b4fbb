-- The attributes or the tags that two terms are places of, as their numbers in the table tell it.
use Rattle.std.proofs.Common.{◌≡◌, ◌<◌, ◌∙◌, ℕ, Bool, true, false, cond, [], ◌∷◌, length, Option, Some, None, refl, sym, ap, subst}
use Rattle.sc_sorts.specs.contracts.sort.SortPartialEq.TheImpl.{ghosts as sorts}
use Rattle.sc_sorts.specs.declared.node.Node.{Node}
use Rattle.sc_sorts.specs.declared.node.Node.TheVariants as node
use Rattle.sc_sorts.specs.declared.node.UnaryOp.TheVariants as unary
use Rattle.sc_sorts.specs.declared.node.BinaryOp.TheVariants as binary
use Rattle.sc_terms.specs.Trees.{Tree, leaf, one, two, choice, many}
use Rattle.sc_terms.specs.Tables.{tree, node_tree, PartsAreBelow}
use Rattle.sc_terms.specs.Folds.{literal_of}
use Rattle.sc_footprint.specs.Problems.{Posed}
use Rattle.sc_rule_laws.specs.Entities.{en1_of, en3_of}
use Rattle.sc_rule_laws.specs.Places.{roots, under}
use Rattle.sc_rule_laws.specs.Signed.{Said}
use Rattle.sc_closure_rules.specs.Linking.{AreRoots}
use Rattle.th_entities_instances.specs.Alike.{IsNoLiteral}
use Rattle.th_entities_instances.specs.Roots.{AreEntitiesIf, AreTagsIf, IsPairIn, attributes_pair, tag_pairs, pair_on, tags_on, unless_equal}
use Rattle.th_entities_instances.specs.declared.places.Pair.{Pair}
use Rattle.th_entities_instances.specs.declared.places.TagPairs.{TagPairs}

-- ---- what is a place of attributes or tags is no literal

root_other : (x y : Tree) → literal_of (roots x y).0 ≡ None → literal_of x ≡ None
unfolding roots
root_other (leaf l) y h = h
root_other (one o a) y h = refl
root_other (two o a b) y h = refl
root_other (choice c a b) y h = refl
root_other (many o ts) y h = refl

second_other : (x y : Tree) → literal_of (roots x y).1 ≡ None → literal_of y ≡ None
unfolding roots
second_other (one o a) (leaf l) h = h
second_other (two o a b) (leaf l) h = h
second_other (choice c a b) (leaf l) h = h
second_other (many o ts) (leaf l) h = h
second_other (leaf k) (leaf l) h = h
second_other x (one o a) h = refl
second_other x (two o a b) h = refl
second_other x (choice c a b) h = refl
second_other x (many o ts) h = refl

-- ---- the entities, and the keys

module _ (p : Posed) where
  abbrev under_entities : Option Pair → Said → Said
  under_entities (Some q) said = under true (unless_equal p q ∷ []) said
  under_entities None said = None

  en1_pair : (m n : Node) (said : Said) → en1_of (node_tree p.nodes m) (node_tree p.nodes n) said ≡ under_entities (attributes_pair m n) said
  en1_pair (node.One (unary.Attributes k) e) (node.One (unary.Attributes l) f) said = by (sorts.eq k l) said
    where
      by : (t : Bool) (s : Said) → under t (unless_equal p (pair_on e f) ∷ []) s ≡ under_entities (cond t (Some (pair_on e f)) None) s
      by true s = refl
      by false (Some parts) = refl
      by false None = refl
  en1_pair (node.One (unary.Attributes k) e) (node.One _ f) said = refl
  en1_pair (node.One (unary.Attributes k) e) _ said = refl
  en1_pair (node.One _ e) n said = refl
  en1_pair _ n said = refl

  abbrev under_tags : Option TagPairs → Said → Said
  under_tags (Some q) said = under true (unless_equal p q.entities ∷ unless_equal p q.keys ∷ []) said
  under_tags None said = None

  en3_pairs : (m n : Node) (said : Said) → en3_of (node_tree p.nodes m) (node_tree p.nodes n) said ≡ under_tags (tag_pairs m n) said
  en3_pairs (node.Two (binary.Tag s) e k) (node.Two (binary.Tag t) f l) said = by (sorts.eq s t) said
    where
      by : (b : Bool) (u : Said) → under b (unless_equal p (pair_on e f) ∷ unless_equal p (pair_on k l) ∷ []) u ≡ under_tags (cond b (Some (tags_on (pair_on e f) (pair_on k l))) None) u
      by true u = refl
      by false (Some parts) = refl
      by false None = refl
  en3_pairs (node.Two (binary.Tag s) e k) (node.Two _ f l) said = refl
  en3_pairs (node.Two (binary.Tag s) e k) _ said = refl
  en3_pairs (node.Two _ e k) n said = refl
  en3_pairs _ n said = refl

  -- nodes that have such a pair are of attributes or of tags
  attributes_other : (m n : Node) (q : Pair) → attributes_pair m n ≡ Some q → IsNoLiteral (node_tree p.nodes m) × IsNoLiteral (node_tree p.nodes n)
  attributes_other (node.One (unary.Attributes k) e) (node.One (unary.Attributes l) f) q h = (refl, refl)
  attributes_other (node.One (unary.Attributes k) e) (node.One _ f) q h = absurd cc
  attributes_other (node.One (unary.Attributes k) e) _ q h = absurd cc
  attributes_other (node.One _ e) n q h = absurd cc
  attributes_other _ n q h = absurd cc

  tags_other : (m n : Node) (q : TagPairs) → tag_pairs m n ≡ Some q → IsNoLiteral (node_tree p.nodes m) × IsNoLiteral (node_tree p.nodes n)
  tags_other (node.Two (binary.Tag s) e k) (node.Two (binary.Tag t) f l) q h = (refl, refl)
  tags_other (node.Two (binary.Tag s) e k) (node.Two _ f l) q h = absurd cc
  tags_other (node.Two (binary.Tag s) e k) _ q h = absurd cc
  tags_other (node.Two _ e k) n q h = absurd cc
  tags_other _ n q h = absurd cc

  pair_if : (b : Bool) (e f : ℕ) (q : Pair) → cond b (Some (pair_on e f)) None ≡ Some q → e < length p.nodes → f < length p.nodes → IsPairIn p q
  pair_if true e f q h i j = let same : pair_on e f ≡ q = cc in subst (IsPairIn p) same (record { first_in = i; second_in = j })
  pair_if false e f q h i j = absurd cc

  attributes_in : (m n : Node) (q : Pair) → PartsAreBelow (length p.nodes) m → PartsAreBelow (length p.nodes) n → attributes_pair m n ≡ Some q → IsPairIn p q
  attributes_in (node.One (unary.Attributes k) e) (node.One (unary.Attributes l) f) q i j h = pair_if (sorts.eq k l) e f q h i j
  attributes_in (node.One (unary.Attributes k) e) (node.One _ f) q i j h = absurd cc
  attributes_in (node.One (unary.Attributes k) e) _ q i j h = absurd cc
  attributes_in (node.One _ e) n q i j h = absurd cc
  attributes_in _ n q i j h = absurd cc

  tags_if : (b : Bool) (e f k l : ℕ) (q : TagPairs) → cond b (Some (tags_on (pair_on e f) (pair_on k l))) None ≡ Some q → (e < length p.nodes) × (k < length p.nodes) → (f < length p.nodes) × (l < length p.nodes)
      → IsPairIn p q.entities × IsPairIn p q.keys
  tags_if true e f k l q h i j =
      let same : tags_on (pair_on e f) (pair_on k l) ≡ q = cc in
      subst (λ (r : TagPairs). IsPairIn p r.entities × IsPairIn p r.keys) same (record { first_in = i.0; second_in = j.0 }, record { first_in = i.1; second_in = j.1 })
  tags_if false e f k l q h i j = absurd cc

  tags_in : (m n : Node) (q : TagPairs) → PartsAreBelow (length p.nodes) m → PartsAreBelow (length p.nodes) n → tag_pairs m n ≡ Some q → IsPairIn p q.entities × IsPairIn p q.keys
  tags_in (node.Two (binary.Tag s) e k) (node.Two (binary.Tag t) f l) q i j h = tags_if (sorts.eq s t) e f k l q h i j
  tags_in (node.Two (binary.Tag s) e k) (node.Two _ f l) q i j h = absurd cc
  tags_in (node.Two (binary.Tag s) e k) _ q i j h = absurd cc
  tags_in (node.Two _ e k) n q i j h = absurd cc
  tags_in _ n q i j h = absurd cc

  module _ (x y a b : ℕ) (roots_are : AreRoots p.nodes x y a b) (m n : Node) (at_m : tree p.nodes a ≡ node_tree p.nodes m) (at_n : tree p.nodes b ≡ node_tree p.nodes n) where
    roots_nodes : roots (tree p.nodes x) (tree p.nodes y) ≡ (node_tree p.nodes m, node_tree p.nodes n)
    roots_nodes = roots_are.are ∙ (λ i. (at_m i, at_n i))

    first_other : IsNoLiteral (node_tree p.nodes m) → IsNoLiteral (tree p.nodes x)
    first_other h = root_other (tree p.nodes x) (tree p.nodes y) (ap (λ (r : Tree × Tree). literal_of r.0) roots_nodes ∙ h)

    last_other : IsNoLiteral (node_tree p.nodes n) → IsNoLiteral (tree p.nodes y)
    last_other h = second_other (tree p.nodes x) (tree p.nodes y) (ap (λ (r : Tree × Tree). literal_of r.1) roots_nodes ∙ h)

    module _ (m_in : PartsAreBelow (length p.nodes) m) (n_in : PartsAreBelow (length p.nodes) n) where
      entities_says : (said : Said) → en1_of (roots (tree p.nodes x) (tree p.nodes y)).0 (roots (tree p.nodes x) (tree p.nodes y)).1 said ≡ under_entities (attributes_pair m n) said
      entities_says said = ap (λ (r : Tree × Tree). en1_of r.0 r.1 said) roots_nodes ∙ en1_pair m n said

      pub entities_are : (o : Option Pair) → o ≡ attributes_pair m n → AreEntitiesIf p x y o
      entities_are (Some q) e =
          let others = attributes_other m n q (sym e) in
          record {
            inside = attributes_in m n q m_in n_in (sym e);
            first_other = first_other others.0;
            second_other = last_other others.1;
            says = λ said. entities_says said ∙ ap (λ (o : Option Pair). under_entities o said) (sym e);
          }
      entities_are None e = λ said. entities_says said ∙ ap (λ (o : Option Pair). under_entities o said) (sym e)

      tags_says : (said : Said) → en3_of (roots (tree p.nodes x) (tree p.nodes y)).0 (roots (tree p.nodes x) (tree p.nodes y)).1 said ≡ under_tags (tag_pairs m n) said
      tags_says said = ap (λ (r : Tree × Tree). en3_of r.0 r.1 said) roots_nodes ∙ en3_pairs m n said

      pub tags_are : (o : Option TagPairs) → o ≡ tag_pairs m n → AreTagsIf p x y o
      tags_are (Some q) e =
          let others = tags_other m n q (sym e) in
          let inside = tags_in m n q m_in n_in (sym e) in
          record {
            entities_in = inside.0;
            keys_in = inside.1;
            first_other = first_other others.0;
            second_other = last_other others.1;
            says = λ said. tags_says said ∙ ap (λ (o : Option TagPairs). under_tags o said) (sym e);
          }
      tags_are None e = λ said. tags_says said ∙ ap (λ (o : Option TagPairs). under_tags o said) (sym e)
