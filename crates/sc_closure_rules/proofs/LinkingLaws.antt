-- What two terms are places of, and whether two sets are linked, as their numbers in the table tell it.
use Rattle.std.proofs.Common.{◌≡◌, ◌<◌, ◌&&◌, ◌∙◌, ℕ, Bool, true, false, cond, List, length, Option, Some, None, refl, sym, ap, subst}
use Rattle.sc_laws.proofs.OptionLaws.{same_some}
use Rattle.sc_sorts.specs.declared.node.Node.{Node}
use Rattle.sc_sorts.specs.declared.node.Node.TheVariants as node
use Rattle.sc_sorts.specs.declared.node.UnaryOp.{UnaryOp}
use Rattle.sc_sorts.specs.declared.node.UnaryOp.TheVariants as unary
use Rattle.sc_sorts.specs.declared.node.BinaryOp.{BinaryOp}
use Rattle.sc_sorts.specs.declared.node.BinaryOp.TheVariants as binary
use Rattle.sc_terms.specs.Trees.{Tree, one}
use Rattle.sc_terms.specs.Tables.{tree, node_tree, PartsAreBelow}
use Rattle.sc_rule_laws.specs.Terms.{one_sort}
use Rattle.sc_rule_laws.specs.Places.{roots, same_step}
use Rattle.sc_closure_rules.specs.Closure.{own_sets, are_linked}
use Rattle.sc_closure_rules.specs.Linking.{node_step, AreRoots, own_nodes}

-- ---- one step

-- two nodes are one step into these parts, or none
abbrev AreStepped : List Node → Node → Node → Option (ℕ × ℕ) → Type 0
AreStepped xs m n (Some (a, b)) = roots (node_tree xs m) (node_tree xs n) ≡ roots (tree xs a) (tree xs b)
AreStepped xs m n None = roots (node_tree xs m) (node_tree xs n) ≡ (node_tree xs m, node_tree xs n)

abbrev root_by : Bool → Tree → Tree → Tree → Tree → Tree × Tree
root_by t a b x y = cond t (roots a b) (x, y)

stepped : (xs : List Node) (m n : Node) → AreStepped xs m n (node_step m n)
unfolding roots
stepped xs (node.One o a) (node.One q b) = by (same_step o q) refl
  where
    by : (t : Bool) → same_step o q ≡ t → AreStepped xs (node.One o a) (node.One q b) (cond t (Some (a, b)) None)
    by true e = ap (λ (c : Bool). root_by c (tree xs a) (tree xs b) (one o (tree xs a)) (one q (tree xs b))) e
    by false e = ap (λ (c : Bool). root_by c (tree xs a) (tree xs b) (one o (tree xs a)) (one q (tree xs b))) e
stepped xs (node.One o a) (node.Leaf l) = refl
stepped xs (node.One o a) (node.Two q b c) = refl
stepped xs (node.One o a) (node.Choice c b d) = refl
stepped xs (node.One o a) (node.Many q ps) = refl
stepped xs (node.Leaf l) n = refl
stepped xs (node.Two o a b) n = refl
stepped xs (node.Choice c a b) n = refl
stepped xs (node.Many o ps) n = refl

-- the parts of one step are below
parts_below : (k l : ℕ) (m n : Node) (a b : ℕ) → PartsAreBelow k m → PartsAreBelow l n → node_step m n ≡ Some (a, b) → (a < k) × (b < l)
parts_below k l (node.One o c) (node.One q d) a b h g = by (same_step o q)
  where
    pair_left : ◌≡◌ {A = Option (ℕ × ℕ)} (Some (c, d)) (Some (a, b)) → (c ≡ a) × (d ≡ b)
    pair_left e = let same = same_some e in (ap (λ (x : ℕ × ℕ). x.0) same, ap (λ (x : ℕ × ℕ). x.1) same)

    by : (t : Bool) → cond {A = Option (ℕ × ℕ)} t (Some (c, d)) None ≡ Some (a, b) → (a < k) × (b < l)
    by true e = let same = pair_left e in (subst (λ (i : ℕ). i < k) same.0 h, subst (λ (i : ℕ). i < l) same.1 g)
    by false e = absurd cc
parts_below k l (node.One o c) _ a b h g = λ e. absurd cc
parts_below k l _ n a b h g = λ e. absurd cc

module _ (xs : List Node) (x y : ℕ) where
  -- so far two terms are got by the same steps of these
  pub record AreReached (a b : ℕ) : Type 0 where
    pub first_in : a < length xs
    pub second_in : b < length xs
    pub same : roots (tree xs x) (tree xs y) ≡ roots (tree xs a) (tree xs b)

  pub reached_first : x < length xs → y < length xs → AreReached x y
  reached_first h g = record { first_in = h; second_in = g; same = refl }

  at_nodes : (a b : ℕ) (m n : Node) → tree xs a ≡ node_tree xs m → tree xs b ≡ node_tree xs n → roots (tree xs a) (tree xs b) ≡ roots (node_tree xs m) (node_tree xs n)
  at_nodes a b m n e f = λ i. roots (e i) (f i)

  pub reached_next : (a b c d : ℕ) (m n : Node) → AreReached a b → tree xs a ≡ node_tree xs m → tree xs b ≡ node_tree xs n → PartsAreBelow (length xs) m → PartsAreBelow (length xs) n → node_step m n ≡ Some (c, d) → AreReached c d
  reached_next a b c d m n so_far e f h g is =
      let below = parts_below (length xs) (length xs) m n c d h g is in
      record {
        first_in = below.0;
        second_in = below.1;
        same = so_far.same ∙ at_nodes a b m n e f ∙ subst (AreStepped xs m n) is (stepped xs m n);
      }

  pub reached_last : (a b : ℕ) (m n : Node) → AreReached a b → tree xs a ≡ node_tree xs m → tree xs b ≡ node_tree xs n → node_step m n ≡ None → AreRoots xs x y a b
  reached_last a b m n so_far e f is = record {
    first_in = so_far.first_in;
    second_in = so_far.second_in;
    are = so_far.same ∙ at_nodes a b m n e f ∙ subst (AreStepped xs m n) is (stepped xs m n) ∙ (λ i. (sym e i, sym f i));
  }

-- the first number falls
pub less_first : (k l a b : ℕ) (m n : Node) → PartsAreBelow k m → PartsAreBelow l n → node_step m n ≡ Some (a, b) → a < k
less_first k l a b m n h g is = (parts_below k l m n a b h g is).0

-- ---- linked sets

-- two terms are of one entity where two are equal
abbrev told_own : List Node → Option (ℕ × ℕ) → Bool
told_own xs (Some (e, f)) = one_sort (tree xs e) (tree xs f)
told_own xs None = false

own_one : (xs : List Node) (o : UnaryOp) (e : ℕ) (n : Node) → told_own xs (own_nodes (node.One o e) n) ≡ own_sets (node_tree xs (node.One o e)) (node_tree xs n)
own_one xs (unary.Attributes k) e (node.One (unary.Attributes l) f) = refl
own_one xs (unary.Attributes k) e (node.One _ f) = refl
own_one xs (unary.Attributes k) e _ = refl
own_one xs (unary.Ancestors k) e (node.One (unary.Ancestors l) f) = refl
own_one xs (unary.Ancestors k) e (node.One _ f) = refl
own_one xs (unary.Ancestors k) e _ = refl
own_one xs unary.Keys e (node.One unary.Keys f) = refl
own_one xs unary.Keys e (node.One _ f) = refl
own_one xs unary.Keys e _ = refl
own_one xs _ e (node.One q f) = refl
own_one xs _ e _ = refl

own_two : (xs : List Node) (o : BinaryOp) (e x : ℕ) (n : Node) → told_own xs (own_nodes (node.Two o e x) n) ≡ own_sets (node_tree xs (node.Two o e x)) (node_tree xs n)
own_two xs (binary.Tag k) e x (node.Two (binary.Tag l) f y) = refl
own_two xs (binary.Tag k) e x (node.Two _ f y) = refl
own_two xs (binary.Tag k) e x _ = refl
own_two xs _ e x (node.Two q f y) = refl
own_two xs _ e x _ = refl

own_at : (xs : List Node) (m n : Node) → told_own xs (own_nodes m n) ≡ own_sets (node_tree xs m) (node_tree xs n)
own_at xs (node.One o e) n = own_one xs o e n
own_at xs (node.Two o e x) n = own_two xs o e x n
own_at xs _ n = refl

module _ (xs : List Node) (a b : ℕ) (m n : Node) (o : Option (ℕ × ℕ)) (e : tree xs a ≡ node_tree xs m) (f : tree xs b ≡ node_tree xs n) (is : o ≡ own_nodes m n) where
  told_is : told_own xs o ≡ own_sets (tree xs a) (tree xs b)
  told_is = ap (told_own xs) is ∙ own_at xs m n ∙ (λ i. own_sets (sym e i) (sym f i))

  pub own_some : (c d : ℕ) (r : Bool) → o ≡ Some (c, d) → r ≡ one_sort (tree xs c) (tree xs d) → r ≡ own_sets (tree xs a) (tree xs b)
  own_some c d r g h = h ∙ sym (ap (told_own xs) g) ∙ told_is

  pub own_none : o ≡ None → false ≡ own_sets (tree xs a) (tree xs b)
  own_none g = sym (ap (told_own xs) g) ∙ told_is

pub linked_apart : (x y : Tree) (t : Bool) → t ≡ one_sort x y → t ≡ false → false ≡ are_linked x y
linked_apart x y t e f = sym (ap (λ (b : Bool). b && own_sets (roots x y).0 (roots x y).1) (sym e ∙ f))

pub linked_by : (x y a b : Tree) (t r : Bool) → t ≡ one_sort x y → t ≡ true → roots x y ≡ (a, b) → r ≡ own_sets a b → r ≡ are_linked x y
linked_by x y a b t r e f g h =
    h ∙ sym (ap (λ (p : Tree × Tree). own_sets p.0 p.1) g) ∙ sym (ap (λ (u : Bool). u && own_sets (roots x y).0 (roots x y).1) (sym e ∙ f))
