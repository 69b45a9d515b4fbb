-- Numbers that are put for what goes with a term, and the rule of a term.
use Rattle.std.proofs.Common.{◌≡◌, ℕ, ◌<◌, List, [], ◌∷◌, ◌++◌, map, length, refl, sym, ap, ◌∙◌, subst, arith}
use Rattle.std.specs.List.{AllByRecursion}
use Rattle.sc_schema.specs.Declarations.{Declarations}
use Rattle.sc_sorts.specs.declared.sort.Sort.{Sort, out-Sort}
use Rattle.sc_sorts.specs.declared.node.Node.{Node}
use Rattle.sc_sorts.specs.declared.node.Node.TheVariants as node
use Rattle.sc_sorts.specs.declared.node.UnaryOp.TheVariants as unary
use Rattle.sc_sorts.specs.declared.node.BinaryOp.TheVariants as binary
use Rattle.sc_terms.specs.Trees.{Tree, two}
use Rattle.sc_terms.proofs.TableLaws.{keeps_itself}
use Rattle.sc_terms.specs.TreeSorts.{tree_sort}
use Rattle.sc_terms.specs.Tables.{Places, tree, node_parts, node_tree, AreBelow, PartsAreBelow, Keeps, StandsFor}
use Rattle.sc_term_definitions.specs.Definitions.{inputs_of}
use Rattle.sc_term_definitions.specs.Making.{Puts, stood}
use Rattle.sc_term_definitions.proofs.MakingLaws.{puts_then, puts_same}
use Rattle.sc_closure_rules.specs.Closure.{branches, inside, choices, beside, parts, trees_in, follow}
use Rattle.sc_closure_rules.specs.declared.following.Beside.{Beside}
use Rattle.sc_closure_rules.specs.Beside.{IsBesideOf, rule}

-- two numbers
pub puts_two : (xs ys : List Node) (ns ms : List ℕ) (a b : ℕ) (t u : Tree) → Keeps xs ys → StandsFor ys a t → StandsFor ys b u → ms ≡ ns ++ a ∷ b ∷ [] → Puts xs ys ns ms (t ∷ u ∷ [])
puts_two xs ys ns ms a b t u k f g e = record { kept = k; more = a ∷ b ∷ []; is = e; within = (f.within, (g.within, tt)); stands = λ i. f.is i ∷ g.is i ∷ [] }

-- numbers that are there already
pub puts_stood : (xs : List Node) (ns ms more : List ℕ) → AllByRecursion (λ n. n < length xs) more → ms ≡ ns ++ more → Puts xs xs ns ms (stood xs more)
puts_stood xs ns ms more within e = record { kept = keeps_itself xs; more = more; is = e; within = within; stands = refl }

-- ---- parts

labelled_stand : (xs : List Node) (ps : Places) → stood xs (map (λ (p : List ℕ × ℕ). p.1) ps) ≡ trees_in (node_parts xs ps)
labelled_stand xs [] = refl
labelled_stand xs (p ∷ ps) = ap (λ (ts : List Tree). tree xs p.1 ∷ ts) (labelled_stand xs ps)

pub labelled_within : (l : ℕ) (ps : Places) → AreBelow l ps → AllByRecursion (λ n. n < l) (map (λ (p : List ℕ × ℕ). p.1) ps)
labelled_within l [] h = tt
labelled_within l (p ∷ ps) h = (h.0, labelled_within l ps h.1)

pub labelled_put : (xs : List Node) (ns ms : List ℕ) (ps : Places) → AreBelow (length xs) ps → ms ≡ ns ++ map (λ (p : List ℕ × ℕ). p.1) ps → Puts xs xs ns ms (trees_in (node_parts xs ps))
labelled_put xs ns ms ps below e =
    puts_same xs xs ns ms (stood xs (map (λ (p : List ℕ × ℕ). p.1) ps)) (trees_in (node_parts xs ps)) (labelled_stand xs ps)
    (puts_stood xs ns ms (map (λ (p : List ℕ × ℕ). p.1) ps) (labelled_within (length xs) ps below) e)

-- the parts of a term are those of its node
pub parts_put : (xs : List Node) (t : Tree) (x y : Node) (ns ms : List ℕ) → t ≡ node_tree xs x → x ≡ y → Puts xs xs ns ms (parts (node_tree xs y)) → Puts xs xs ns ms (parts t)
parts_put xs t x y ns ms stands e p = subst (λ (u : Tree). Puts xs xs ns ms (parts u)) (sym (stands ∙ ap (node_tree xs) e)) p

-- ---- the rule of a term

module _ (xs : List Node) (n : ℕ) where
  rule_at : (x : Node) → tree xs n ≡ node_tree xs x → PartsAreBelow (length xs) x → IsBesideOf xs n (rule x)
  unfolding tree_sort
  rule_at (node.Choice c a b) e h = (h.1, h.2, λ d. ap (beside d) e ∙ ap (λ (t : Tree). branches (out-Sort (tree_sort (tree xs a))) t (tree xs a) (tree xs b)) (sym e))
  rule_at (node.One (unary.Ancestors own) a) e h = (h, record { own = own; is = e })
  rule_at (node.Two binary.Equal a b) e h = (h.0, h.1, λ d. ap (beside d) e)
  rule_at (node.Two (binary.Tag own) a b) e h =
      let sort_is : tree_sort (tree xs n) ≡ own = ap tree_sort e in
      (h.0, h.1, e ∙ ap (λ (k : Sort). two (binary.Tag k) (tree xs a) (tree xs b)) (sym sort_is))
  rule_at (node.Two binary.Member a b) e h = (h.0, h.1, e)
  rule_at (node.Two binary.Subset a b) e h = (h.0, h.1, e)
  rule_at (node.Two binary.Common a b) e h = (h.0, h.1, e)
  rule_at _ e h = λ d. ap (beside d) e

  pub rule_is : (x : Node) (r : Beside) → tree xs n ≡ node_tree xs x → PartsAreBelow (length xs) x → r ≡ rule x → IsBesideOf xs n r
  rule_is x r e h is = subst (IsBesideOf xs n) (sym is) (rule_at x e h)

-- ---- what goes with a term is put in five steps

module _ (d : Declarations) (s0 s1 s2 s3 s4 : List Node) (n : ℕ) (below : n < length s0) (l0 l1 l2 l3 l4 l5 : List ℕ)
    (p1 : Puts s0 s1 l0 l1 (inputs_of (tree s0 n))) (p2 : Puts s1 s2 l1 l2 (inside (tree s1 n))) (p3 : Puts s2 s3 l2 l3 (choices (tree s2 n))) (p4 : Puts s3 s4 l3 l4 (beside d (tree s3 n)))
    (p5 : Puts s4 s4 l4 l5 (parts (tree s4 n))) where
  e1 : tree s1 n ≡ tree s0 n
  e1 = p1.kept.same n below

  e2 : tree s2 n ≡ tree s0 n
  e2 = p2.kept.same n (omega (arith, below, p1.kept.longer)) ∙ e1

  e3 : tree s3 n ≡ tree s0 n
  e3 = p3.kept.same n (omega (arith, below, p1.kept.longer, p2.kept.longer)) ∙ e2

  e4 : tree s4 n ≡ tree s0 n
  e4 = p4.kept.same n (omega (arith, below, p1.kept.longer, p2.kept.longer, p3.kept.longer)) ∙ e3

  last_two : Puts s3 s4 l3 l5 (beside d (tree s0 n) ++ parts (tree s0 n))
  last_two =
      puts_then s3 s4 s4 l3 l4 l5 (beside d (tree s0 n)) (parts (tree s0 n)) (subst (λ (t : Tree). Puts s3 s4 l3 l4 (beside d t)) e3 p4) (subst (λ (t : Tree). Puts s4 s4 l4 l5 (parts t)) e4 p5)

  last_three : Puts s2 s4 l2 l5 (choices (tree s0 n) ++ (beside d (tree s0 n) ++ parts (tree s0 n)))
  last_three =
      puts_then s2 s3 s4 l2 l3 l5 (choices (tree s0 n)) (beside d (tree s0 n) ++ parts (tree s0 n)) (subst (λ (t : Tree). Puts s2 s3 l2 l3 (choices t)) e2 p3) last_two

  last_four : Puts s1 s4 l1 l5 (inside (tree s0 n) ++ (choices (tree s0 n) ++ (beside d (tree s0 n) ++ parts (tree s0 n))))
  last_four =
      puts_then s1 s2 s4 l1 l2 l5 (inside (tree s0 n)) (choices (tree s0 n) ++ (beside d (tree s0 n) ++ parts (tree s0 n))) (subst (λ (t : Tree). Puts s1 s2 l1 l2 (inside t)) e1 p2) last_three

  pub all_put : Puts s0 s4 l0 l5 (follow d (tree s0 n))
  unfolding follow
  all_put = puts_then s0 s1 s4 l0 l1 l5 (inputs_of (tree s0 n)) (inside (tree s0 n) ++ (choices (tree s0 n) ++ (beside d (tree s0 n) ++ parts (tree s0 n)))) p1 last_four
