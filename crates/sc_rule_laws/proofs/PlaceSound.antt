-- Like places of what has one value have one value, and so are alike.
use Rattle.std.proofs.Common.{◌≡◌, ◌++◌, ℕ, zero, suc, nat_lt, Bool, true, false, List, [], ◌∷◌, Option, Some, None, is_some, refl, sym, ap, ◌∙◌, subst}
use Rattle.sc_lists.specs.Members.{Has}
use Rattle.sc_lists.proofs.TextLaws.{bytes_eq_true}
use Rattle.sc_world.specs.declared.world.World.{World}
use Rattle.sc_sorts.specs.declared.sort.Sort.{Sort, Sort-F, out-Sort}
use Rattle.sc_sorts.specs.declared.sort.Sort.TheOpen as s
use Rattle.sc_sorts.specs.Inside.{held_sort, field_sort}
use Rattle.sc_sorts.specs.declared.node.UnaryOp.{UnaryOp}
use Rattle.sc_sorts.specs.declared.node.UnaryOp.TheVariants as unary
use Rattle.sc_terms.specs.Trees.{Tree, one}
use Rattle.sc_terms.specs.TreeSorts.{tree_sort}
use Rattle.sc_terms.specs.Folds.{equal_term, present_term, bit_term}
use Rattle.sc_terms.specs.Values.{Val, yes, truth, val, level, bit_seen, members_in, option_in, held_value, field_value}
use Rattle.sc_terms.proofs.FoldValues.{one_is, bit_is}
use Rattle.sc_rule_laws.specs.Signed.{Signed, Said, so, unless, given, some_holds, Holds, is_true}
use Rattle.sc_rule_laws.specs.Terms.{member}
use Rattle.sc_rule_laws.specs.Places.{same_step, roots, half_by, half, under}
use Rattle.sc_rule_laws.proofs.ClauseLaws.{unless_else, so_holds, given_holds}
use Rattle.sc_rule_laws.proofs.EquationLaws.{equal_so}
use Rattle.sc_rule_laws.proofs.PlaceLaws.{places_kept, field_sorted, held_sorted}
use Rattle.sc_rule_laws.proofs.MemberTruths.{member_moves, present_truth}

-- two terms have one value in a world, and one sort
pub record AreOne (w : World) (x y : Tree) : Type 0 where
  pub value : val x w ≡ val y w
  pub sorted : tree_sort x ≡ tree_sort y

module _ (w : World) where
  field_one : (m n : List ℕ) (a b : Tree) → m ≡ n → AreOne w a b → AreOne w (one (unary.Field m) a) (one (unary.Field n) b)
  field_one m n a b e h = record {
    value = one_is (unary.Field m) a w
        ∙ (λ i. field_value (e i) (field_sort (e i) (h.sorted i)) (h.value i))
        ∙ sym (one_is (unary.Field n) b w);
    sorted = field_sorted m n a b e h.sorted;
  }

  held_one : (a b : Tree) → AreOne w a b → AreOne w (one unary.Held a) (one unary.Held b)
  held_one a b h = record {
    value = one_is unary.Held a w
        ∙ (λ i. held_value (held_sort (h.sorted i)) (option_in (h.value i)))
        ∙ sym (one_is unary.Held b w);
    sorted = held_sorted a b h.sorted;
  }

  step_one : (o q : UnaryOp) (a b : Tree) → same_step o q ≡ true → AreOne w a b → AreOne w (one o a) (one q b)
  step_one (unary.Field m) (unary.Field n) a b e h = field_one m n a b (bytes_eq_true m n e) h
  step_one unary.Held unary.Held a b e h = held_one a b h
  step_one (unary.Field m) _ a b e h = absurd cc
  step_one unary.Held _ a b e h = absurd cc
  step_one _ _ a b e h = absurd cc

  pub places_one : (x y : Tree) → AreOne w (roots x y).0 (roots x y).1 → AreOne w x y
  places_one x y h = places_kept (AreOne w) step_one x y h

  -- ---- what has one value is alike

  bit_truth : (x : Tree) (i : ℕ) → is_true (bit_term x i) w ≡ truth (yes (bit_seen (level (val x w)) i))
  bit_truth x i = ap truth (bit_is x i w ∙ one_is (unary.Bit i) x w)

  module _ (x y : Tree) (e : val x w ≡ val y w) where
    truths_alike : Holds w (Some (unless x ∷ so y ∷ []))
    truths_alike = unless_else w x (so y ∷ []) (λ t. so_holds w y [] (ap truth (sym e) ∙ t))

    equal_alike : Holds w (Some (so (equal_term x y) ∷ []))
    equal_alike = so_holds w (equal_term x y) [] (equal_so w x y e)

    present_alike : Holds w (Some (unless (present_term x) ∷ so (present_term y) ∷ []))
    present_alike =
        unless_else w (present_term x) (so (present_term y) ∷ []) (λ t. so_holds w (present_term y) []
        (present_truth w y ∙ ap (λ (v : Val). is_some (option_in v)) (sym e) ∙ sym (present_truth w x) ∙ t))

    bits_alike : (n i : ℕ) → Holds w (given (nat_lt i n) (unless (bit_term x i) ∷ so (bit_term y i) ∷ []))
    bits_alike n i = given_holds w (nat_lt i n) (unless (bit_term x i) ∷ so (bit_term y i) ∷ []) (λ g.
        unless_else w (bit_term x i) (so (bit_term y i) ∷ []) (λ t. so_holds w (bit_term y i) []
        (bit_truth y i ∙ ap (λ (v : Val). truth (yes (bit_seen (level v) i))) (sym e) ∙ sym (bit_truth x i) ∙ t)))

    members_alike : (z : Tree) → Holds w (Some (unless (member z x) ∷ so (member z y) ∷ []))
    members_alike z =
        unless_else w (member z x) (so (member z y) ∷ []) (λ t. so_holds w (member z y) []
        (member_moves w z z x y refl (λ v h. subst (λ (u : Val). Has (members_in u) v) e h) t))

    half_by_holds : (k : Sort-F Sort) (i : ℕ) (z : Option Tree) → Holds w (half_by k x y i z)
    half_by_holds s.Bool zero z = truths_alike
    half_by_holds s.Bool (suc i) z = tt
    half_by_holds s.String zero z = equal_alike
    half_by_holds s.String (suc i) z = tt
    half_by_holds (s.Entity name us) zero z = equal_alike
    half_by_holds (s.Entity name us) (suc i) z = tt
    half_by_holds (s.Option k) zero z = present_alike
    half_by_holds (s.Option k) (suc i) z = tt
    half_by_holds s.Long i z = bits_alike 64 i
    half_by_holds s.Decimal i z = bits_alike 64 i
    half_by_holds s.Ip i z = bits_alike 257 i
    half_by_holds (s.Set k) i (Some z) = members_alike z
    half_by_holds (s.Set k) i None = tt
    half_by_holds (s.Record fs) i z = tt

  pub half_holds : (x y : Tree) (i : ℕ) (z : Option Tree) → val x w ≡ val y w → Holds w (half x y i z)
  half_holds x y i z e = half_by_holds x y e (out-Sort (tree_sort x)) i z

  -- what is said under a guard holds where it does once the guard is met
  pub under_holds : (test : Bool) (guard : List Signed) (said : Said)
      → (test ≡ true → (parts : List Signed) → said ≡ Some parts → some_holds w (guard ++ parts) ≡ true) → Holds w (under test guard said)
  under_holds true guard (Some parts) h = h refl parts refl
  under_holds true guard None h = tt
  under_holds false guard said h = tt
