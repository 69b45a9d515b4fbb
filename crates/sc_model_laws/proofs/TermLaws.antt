-- Each closed term that is covered has its value, where variables and what is stored have theirs.
use Rattle.std.proofs.Common.{◌≡◌, ◌&&◌, inl, inr, Bool, true, false, List, [], refl, subst}
use Rattle.sc_laws.proofs.BoolLaws.{and_first, and_second}
use Rattle.sc_lists.specs.Members.{Has}
use Rattle.sc_names.specs.declared.uid.Uid.{Uid}
use Rattle.sc_schema.specs.declared.declarations.Env.{Env}
use Rattle.sc_schema.specs.Declarations.{Declarations}
use Rattle.sc_world.specs.declared.world.World.{World}
use Rattle.sc_sorts.specs.declared.sort.Sort.{Sort}
use Rattle.sc_sorts.specs.declared.sort.Sort.TheVariants as sort
use Rattle.sc_sorts.specs.Inside.{SortFields}
use Rattle.sc_sorts.specs.Entities.{entity_sort, choices_of}
use Rattle.sc_sorts.specs.OfTypes.{sort_of}
use Rattle.sc_sorts.specs.declared.node.Leaf.TheVariants as leafs
use Rattle.sc_sorts.specs.declared.node.Literal.TheVariants as literal
use Rattle.sc_sorts.specs.declared.node.UnaryOp.TheVariants as unary
use Rattle.sc_sorts.specs.declared.node.BinaryOp.{BinaryOp}
use Rattle.sc_sorts.specs.declared.node.BinaryOp.TheVariants as binary
use Rattle.sc_sorts.specs.declared.node.ManyOp.TheVariants as manys
use Rattle.sc_sorts.specs.Defaults.{default_uid}
use Rattle.sc_terms.specs.Trees.{Tree, one, two, choice, many, Trees}
use Rattle.sc_terms.specs.TreeSorts.{tree_sort}
use Rattle.sc_term_definitions.specs.Definitions.{product_row}
use Rattle.sc_term_laws.specs.Judging.{IsTermOf, HaveFields, HaveSort, IsPick}
use Rattle.sc_term_laws.specs.Judging as judged
use Rattle.sc_term_laws.proofs.JudgingLaws.{sort_is}
use Rattle.sc_closure_rules.specs.Closure.{Closed, trees_in}
use Rattle.sc_model_laws.specs.Vals.{Model}
use Rattle.sc_model_laws.specs.Models.{IsModel}
use Rattle.sc_model_laws.specs.Rows.{IsRight, HoldsModel, covers_two, is_covered, are_covered}
use Rattle.sc_model_laws.proofs.ClaimLaws.{AreTerms, AreAddresses}
use Rattle.sc_model_laws.proofs.ClosedLaws.{of_part}
use Rattle.sc_model_laws.proofs.RowLaws.{right_literal, right_none, right_not, right_and, right_or, right_choice, right_equal, right_bit, right_like, right_field, right_present, right_member, right_subset, right_common}
use Rattle.sc_model_laws.proofs.CarryRows.{right_carry, right_low}
use Rattle.sc_model_laws.proofs.ProductRows.{right_multiply, right_multiply_overflows, right_row, right_product_carry}
use Rattle.sc_model_laws.proofs.RangeRows.{right_in_range}
use Rattle.sc_model_laws.proofs.SumRows.{right_add, right_subtract, right_add_overflows, right_subtract_overflows, right_less}
use Rattle.sc_model_laws.proofs.ManyRows.{right_record, right_set, right_held}

no_pick : (o : BinaryOp) → IsPick o → covers_two o ≡ false
no_pick _ judged.difference = refl
no_pick _ judged.intersection = refl

not_covered : (b c : Bool) → b ≡ false → (b && c) ≡ true → ⊥
not_covered true c e h = absurd cc
not_covered false c e h = absurd cc

module _ (d : Declarations) (env : Env) (literals : List Uid) (goal : Tree) (addresses : AreAddresses) (terms : AreTerms d env literals goal) (m : Model) (is : IsModel d env goal m) (w : World) (holds : HoldsModel d env goal m w) where
  sorted : (k : Sort) (t : Tree) → IsTermOf d env literals k t → tree_sort t ≡ k
  sorted k t h = sort_is d env literals k t h

  left : (o : BinaryOp) (a b : Tree) → Closed d env goal (two o a b) → Closed d env goal a
  left o a b c = of_part d env goal (two o a b) a c (inl refl)

  right_part : (o : BinaryOp) (a b : Tree) → Closed d env goal (two o a b) → Closed d env goal b
  right_part o a b c = of_part d env goal (two o a b) b c (inr (inl refl))

  record AreOperands (a b : Tree) : Type 0 where
    first_sort : tree_sort a ≡ sort.Long
    second_sort : tree_sort b ≡ sort.Long
    first : IsRight m w a
    second : IsRight m w b

  mutual
    unfolding is_covered

    pub right : (k : Sort) (t : Tree) → IsTermOf d env literals k t → is_covered t ≡ true → Closed d env goal t → IsRight m w t
    right _ _ (judged.of_truth b) p c = right_literal d env literals goal addresses terms m is w (literal.Bool b) c
    right _ _ (judged.of_number n h) p c = right_literal d env literals goal addresses terms m is w (literal.Long n) c
    right _ _ (judged.of_text x h) p c = right_literal d env literals goal addresses terms m is w (literal.String x) c
    right _ _ (judged.of_decimal_number n h) p c = right_literal d env literals goal addresses terms m is w (literal.Decimal n) c
    right _ _ (judged.of_address ip h) p c = right_literal d env literals goal addresses terms m is w (literal.Ip ip) c
    right _ _ (judged.of_uid u h) p c = right_literal d env literals goal addresses terms m is w (literal.Entity u (choices_of d u.type_name)) c
    right _ _ (judged.of_default name h e) p c = right_literal d env literals goal addresses terms m is w (literal.Entity (default_uid name []) []) c
    right _ _ (judged.of_none k h) p c = right_none d env literals goal addresses terms m is w k
    right _ _ judged.of_principal p c = holds.variables (leafs.Principal (entity_sort d env.principal)) refl c
    right _ _ judged.of_resource p c = holds.variables (leafs.Resource (entity_sort d env.resource)) refl c
    right _ _ (judged.of_context t e) p c = holds.variables (leafs.Context (sort_of t)) refl c
    right _ _ (judged.of_not a h e) p c =
        right_not d env literals goal addresses terms m is w a (sorted sort.Bool a h)
        (right sort.Bool a h p (of_part d env goal (one unary.Not a) a c (inl refl)))
    right _ _ (judged.of_and a b g h e) p c =
        right_and d env literals goal addresses terms m is w a b (sorted sort.Bool a g) (sorted sort.Bool b h) c
        (right sort.Bool a g (and_first (is_covered a) (is_covered b) p) (left binary.And a b c))
        (right sort.Bool b h (and_second (is_covered a) (is_covered b) p) (right_part binary.And a b c))
    right _ _ (judged.of_or a b g h e) p c =
        right_or d env literals goal addresses terms m is w a b (sorted sort.Bool a g) (sorted sort.Bool b h) c
        (right sort.Bool a g (and_first (is_covered a) (is_covered b) p) (left binary.Or a b c))
        (right sort.Bool b h (and_second (is_covered a) (is_covered b) p) (right_part binary.Or a b c))
    right _ _ (judged.of_choice k i a b f g h e) p c =
        right_choice d env literals goal addresses terms m is w k i a b (sorted k a g) (sorted k b h) c (sorted sort.Bool i f)
        (right sort.Bool i f (and_first (is_covered i) (is_covered a && is_covered b) p) (of_part d env goal (choice i a b) i c (inl refl)))
        (right k a g (and_first (is_covered a) (is_covered b) (and_second (is_covered i) (is_covered a && is_covered b) p)) (of_part d env goal (choice i a b) a c (inr (inl refl))))
        (right k b h (and_second (is_covered a) (is_covered b) (and_second (is_covered i) (is_covered a && is_covered b) p)) (of_part d env goal (choice i a b) b c (inr (inr (inl refl)))))
    right _ _ (judged.of_equal k a b g h e) p c =
        right_equal d env literals goal addresses terms m is w k a b (sorted k a g) (sorted k b h) e c
        (right k a g (and_first (is_covered a) (is_covered b) p) (left binary.Equal a b c))
        (right k b h (and_second (is_covered a) (is_covered b) p) (right_part binary.Equal a b c))
    right _ _ (judged.of_arithmetic _ a b (judged.of_sum _ judged.addition) g h) p c =
        right_add d env literals goal addresses terms m is w a b (sorted sort.Long a g) (sorted sort.Long b h) c
        (right sort.Long a g (and_first (is_covered a) (is_covered b) p) (left binary.Add a b c))
        (right sort.Long b h (and_second (is_covered a) (is_covered b) p) (right_part binary.Add a b c))
    right _ _ (judged.of_arithmetic _ a b (judged.of_sum _ judged.subtraction) g h) p c =
        right_subtract d env literals goal addresses terms m is w a b (sorted sort.Long a g) (sorted sort.Long b h) c
        (right sort.Long a g (and_first (is_covered a) (is_covered b) p) (left binary.Subtract a b c))
        (right sort.Long b h (and_second (is_covered a) (is_covered b) p) (right_part binary.Subtract a b c))
    right _ _ (judged.of_overflow _ a b judged.addition_overflow g h) p c =
        right_add_overflows d env literals goal addresses terms m is w a b (sorted sort.Long a g) (sorted sort.Long b h) c
        (right sort.Long a g (and_first (is_covered a) (is_covered b) p) (left binary.AddOverflows a b c))
        (right sort.Long b h (and_second (is_covered a) (is_covered b) p) (right_part binary.AddOverflows a b c))
    right _ _ (judged.of_overflow _ a b judged.subtraction_overflow g h) p c =
        right_subtract_overflows d env literals goal addresses terms m is w a b (sorted sort.Long a g) (sorted sort.Long b h) c
        (right sort.Long a g (and_first (is_covered a) (is_covered b) p) (left binary.SubtractOverflows a b c))
        (right sort.Long b h (and_second (is_covered a) (is_covered b) p) (right_part binary.SubtractOverflows a b c))
    right _ _ (judged.of_arithmetic _ a b judged.multiplication g h) p c =
        right_multiply d env literals goal addresses terms m is w a b (sorted sort.Long a g) (sorted sort.Long b h)
        (right sort.Long a g (and_first (is_covered a) (is_covered b) p) (left binary.Multiply a b c))
        (right sort.Long b h (and_second (is_covered a) (is_covered b) p) (right_part binary.Multiply a b c)) c
    right _ _ (judged.of_overflow _ a b judged.multiplication_overflow g h) p c =
        right_multiply_overflows d env literals goal addresses terms m is w a b (sorted sort.Long a g) (sorted sort.Long b h)
        (right sort.Long a g (and_first (is_covered a) (is_covered b) p) (left binary.MultiplyOverflows a b c))
        (right sort.Long b h (and_second (is_covered a) (is_covered b) p) (right_part binary.MultiplyOverflows a b c)) c
    right _ _ (judged.of_less k a b i g h) p c =
        right_less d env literals goal addresses terms m is w k a b i (sorted k a g) (sorted k b h) c
        (right k a g (and_first (is_covered a) (is_covered b) p) (left binary.Less a b c))
        (right k b h (and_second (is_covered a) (is_covered b) p) (right_part binary.Less a b c))
    right _ _ (judged.of_bit k i a q g e) p c =
        let part = of_part d env goal (one (unary.Bit i) a) a c (inl refl) in
        right_bit d env literals goal addresses terms m is w k i a q (sorted k a g) e part (right k a g p part)
    right _ _ (judged.of_in_range a b g h) p c =
        right_in_range d env literals goal addresses terms m is w a b (sorted sort.Ip a g) (sorted sort.Ip b h) c
        (right sort.Ip a g (and_first (is_covered a) (is_covered b) p) (left binary.InRange a b c))
        (right sort.Ip b h (and_second (is_covered a) (is_covered b) p) (right_part binary.InRange a b c))
    right _ _ (judged.of_carry _ i a b judged.addition r g) p c =
        let both = sum_operands sort.Long a b g p (of_part d env goal (one (unary.CarryIn i) (two binary.Add a b)) (two binary.Add a b) c (inl refl)) in
        right_carry d env literals goal addresses terms m is w binary.Add i a b judged.addition r both.first_sort both.second_sort c both.first both.second
    right _ _ (judged.of_carry _ i a b judged.subtraction r g) p c =
        let both = difference_operands sort.Long a b g p (of_part d env goal (one (unary.CarryIn i) (two binary.Subtract a b)) (two binary.Subtract a b) c (inl refl)) in
        right_carry d env literals goal addresses terms m is w binary.Subtract i a b judged.subtraction r both.first_sort both.second_sort c both.first both.second
    right _ _ (judged.of_low k i a b q r g h) p c =
        right_low d env literals goal addresses terms m is w k i a b q r (sorted k a g) (sorted k b h) c
        (right k a g (and_first (is_covered a) (is_covered b) p) (left (binary.Low i) a b c))
        (right k b h (and_second (is_covered a) (is_covered b) p) (right_part (binary.Low i) a b c))
    right _ _ (judged.of_row i j a b q r g) p c =
        let both = product_operands sort.Long a b g p (of_part d env goal (product_row a b i j) (two binary.Multiply a b) c (inl refl)) in
        right_row d env literals goal addresses terms m is w a b both.first_sort both.second_sort both.first both.second i j q r c
    right _ _ (judged.of_product_carry i j a b q r g) p c =
        let both = product_operands sort.Long a b g p (of_part d env goal (one (unary.ProductCarry i j) (two binary.Multiply a b)) (two binary.Multiply a b) c (inl refl)) in
        right_product_carry d env literals goal addresses terms m is w a b both.first_sort both.second_sort both.first both.second i j q r c
    right _ _ (judged.of_attributes name t a e g) p c =
        holds.stored (unary.Attributes (sort_of t)) a refl c (right (entity_sort d name) a g p (of_part d env goal (one (unary.Attributes (sort_of t)) a) a c (inl refl)))
    right _ _ (judged.of_ancestors name above names a e i g) p c =
        holds.stored (unary.Ancestors (entity_sort d above)) a refl c (right (entity_sort d name) a g p (of_part d env goal (one (unary.Ancestors (entity_sort d above)) a) a c (inl refl)))
    right _ _ (judged.of_keys name t a e g) p c =
        holds.stored unary.Keys a refl c (right (entity_sort d name) a g p (of_part d env goal (one unary.Keys a) a c (inl refl)))
    right _ _ (judged.of_tag name t a k e g h) p c =
        holds.tags (sort_of t) a k c
        (right (entity_sort d name) a g (and_first (is_covered a) (is_covered k) p) (left (binary.Tag (sort_of t)) a k c))
        (right sort.String k h (and_second (is_covered a) (is_covered k) p) (right_part (binary.Tag (sort_of t)) a k c))
    right _ _ (judged.of_field fs name k a g l e) p c =
        let part = of_part d env goal (one (unary.Field name) a) a c (inl refl) in
        right_field d env literals goal addresses terms m is w fs name k a l e (sorted (sort.Record fs) a g) part (right (sort.Record fs) a g p part)
    right _ _ (judged.of_record fs ts names h) p c =
        right_record d env literals goal addresses terms m is w fs ts names.0 h (right_fields fs ts h p (λ t n. of_part d env goal (many manys.Record ts) t c n))
    right _ _ (judged.of_set k ts held h) p c =
        right_set d env literals goal addresses terms m is w k ts h (right_members k ts h p (λ t n. of_part d env goal (many (manys.Set k) ts) t c n))
    right _ _ (judged.of_present k a g e) p c =
        right_present d env literals goal addresses terms m is w k a e (sorted (sort.Option k) a g)
        (right (sort.Option k) a g p (of_part d env goal (one unary.Present a) a c (inl refl)))
    right _ _ (judged.of_held k a g e) p c =
        let part = of_part d env goal (one unary.Held a) a c (inl refl) in
        right_held d env literals goal addresses terms m is w k a e (sorted (sort.Option k) a g) part (right (sort.Option k) a g p part)
    right _ _ (judged.of_member k x a g h) p c =
        right_member d env literals goal addresses terms m is w k x a (sorted k x g) (sorted (sort.Set k) a h) c
        (right k x g (and_first (is_covered x) (is_covered a) p) (left binary.Member x a c))
        (right (sort.Set k) a h (and_second (is_covered x) (is_covered a) p) (right_part binary.Member x a c))
    right _ _ (judged.of_sets _ k a b judged.subset_test g h) p c =
        right_subset d env literals goal addresses terms m is w k a b (sorted (sort.Set k) a g) (sorted (sort.Set k) b h) c
        (right (sort.Set k) a g (and_first (is_covered a) (is_covered b) p) (left binary.Subset a b c))
        (right (sort.Set k) b h (and_second (is_covered a) (is_covered b) p) (right_part binary.Subset a b c))
    right _ _ (judged.of_sets _ k a b judged.common_test g h) p c =
        right_common d env literals goal addresses terms m is w k a b (sorted (sort.Set k) a g) (sorted (sort.Set k) b h) c
        (right (sort.Set k) a g (and_first (is_covered a) (is_covered b) p) (left binary.Common a b c))
        (right (sort.Set k) b h (and_second (is_covered a) (is_covered b) p) (right_part binary.Common a b c))
    right _ _ (judged.of_pick o k a b i g h) p c = absurd (not_covered (covers_two o) (is_covered a && is_covered b) (no_pick o i) p)
    right _ _ (judged.of_like q a g e) p c =
        right_like d env literals goal addresses terms m is w q a (sorted sort.String a g) e c
        (right sort.String a g p (of_part d env goal (one (unary.Like q) a) a c (inl refl)))

    -- the parts of a sum, a difference or a product, whose bits and carries are terms of their own
    sum_operands : (k : Sort) (a b : Tree) → IsTermOf d env literals k (two binary.Add a b) → (is_covered a && is_covered b) ≡ true → Closed d env goal (two binary.Add a b) → AreOperands a b
    sum_operands _ a b (judged.of_arithmetic _ _ _ _ g h) p c = record {
      first_sort = sorted sort.Long a g;
      second_sort = sorted sort.Long b h;
      first = right sort.Long a g (and_first (is_covered a) (is_covered b) p) (left binary.Add a b c);
      second = right sort.Long b h (and_second (is_covered a) (is_covered b) p) (right_part binary.Add a b c);
    }
    sum_operands _ a b (judged.of_overflow _ _ _ i g h) p c = elim i [ ]
    sum_operands _ a b (judged.of_sets _ k _ _ i g h) p c = elim i [ ]
    sum_operands _ a b (judged.of_pick _ k _ _ i g h) p c = elim i [ ]

    difference_operands : (k : Sort) (a b : Tree) → IsTermOf d env literals k (two binary.Subtract a b) → (is_covered a && is_covered b) ≡ true → Closed d env goal (two binary.Subtract a b) → AreOperands a b
    difference_operands _ a b (judged.of_arithmetic _ _ _ _ g h) p c = record {
      first_sort = sorted sort.Long a g;
      second_sort = sorted sort.Long b h;
      first = right sort.Long a g (and_first (is_covered a) (is_covered b) p) (left binary.Subtract a b c);
      second = right sort.Long b h (and_second (is_covered a) (is_covered b) p) (right_part binary.Subtract a b c);
    }
    difference_operands _ a b (judged.of_overflow _ _ _ i g h) p c = elim i [ ]
    difference_operands _ a b (judged.of_sets _ k _ _ i g h) p c = elim i [ ]
    difference_operands _ a b (judged.of_pick _ k _ _ i g h) p c = elim i [ ]

    product_operands : (k : Sort) (a b : Tree) → IsTermOf d env literals k (two binary.Multiply a b) → (is_covered a && is_covered b) ≡ true → Closed d env goal (two binary.Multiply a b) → AreOperands a b
    product_operands _ a b (judged.of_arithmetic _ _ _ _ g h) p c = record {
      first_sort = sorted sort.Long a g;
      second_sort = sorted sort.Long b h;
      first = right sort.Long a g (and_first (is_covered a) (is_covered b) p) (left binary.Multiply a b c);
      second = right sort.Long b h (and_second (is_covered a) (is_covered b) p) (right_part binary.Multiply a b c);
    }
    product_operands _ a b (judged.of_overflow _ _ _ i g h) p c = elim i [ ]
    product_operands _ a b (judged.of_sets _ k _ _ i g h) p c = elim i [ ]
    product_operands _ a b (judged.of_pick _ k _ _ i g h) p c = elim i [ ]

    right_fields : (fs : SortFields) (ts : Trees) → HaveFields d env literals fs ts → are_covered ts ≡ true → ((t : Tree) → Has (trees_in ts) t → Closed d env goal t) → (t : Tree) → Has (trees_in ts) t → IsRight m w t
    right_fields _ _ judged.no_field p c t n = absurd n
    right_fields _ _ (judged.with_field name k fs u ts h more) p c t (inl e) =
        subst (IsRight m w) e (right k u h (and_first (is_covered u) (are_covered ts) p) (c u (inl refl)))
    right_fields _ _ (judged.with_field name k fs u ts h more) p c t (inr later) =
        right_fields fs ts more (and_second (is_covered u) (are_covered ts) p) (λ z n. c z (inr n)) t later

    right_members : (k : Sort) (ts : Trees) → HaveSort d env literals k ts → are_covered ts ≡ true → ((t : Tree) → Has (trees_in ts) t → Closed d env goal t) → (t : Tree) → Has (trees_in ts) t → IsRight m w t
    right_members _ _ (judged.no_member k) p c t n = absurd n
    right_members _ _ (judged.with_member k u ts h more) p c t (inl e) =
        subst (IsRight m w) e (right k u h (and_first (is_covered u) (are_covered ts) p) (c u (inl refl)))
    right_members _ _ (judged.with_member k u ts h more) p c t (inr later) =
        right_members k ts more (and_second (is_covered u) (are_covered ts) p) (λ z n. c z (inr n)) t later
