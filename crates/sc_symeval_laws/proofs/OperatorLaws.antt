-- Operators: what they are compiled to agrees with what they come to, row by row of what typing asks of the operands.
use Rattle.std.proofs.Common.{◌≡◌, List, ℤ, neg_ℤ, true, false, not, Some, Ok, Err, ap, sym, subst, ◌∙◌}
use Rattle.sc_ast.specs.declared.expr.Expr.{Expr}
use Rattle.sc_ast.specs.declared.literal.Literal.{Literal}
use Rattle.sc_ast.specs.declared.literal.Literal.TheVariants as literal
use Rattle.sc_ast.specs.declared.place.Place.{Place}
use Rattle.sc_ast.specs.declared.operator.BinaryOperator.{BinaryOperator}
use Rattle.sc_ast.specs.declared.operator.BinaryOperator.TheVariants.{Less, LessOrEqual, Greater, GreaterOrEqual, Add, Subtract, Multiply, Contains, ContainsAll, ContainsAny, LessThan, LessThanOrEqual, GreaterThan, GreaterThanOrEqual, IsInRange}
use Rattle.sc_ast.specs.declared.operator.UnaryOperator.{UnaryOperator}
use Rattle.sc_ast.specs.declared.operator.UnaryOperator.TheVariants.{Negate, IsEmpty, IsIpv4, IsIpv6, IsLoopback, IsMulticast, Decimal, Ip}
use Rattle.sc_ip.specs.Addresses.{is_version_4, is_loopback, is_multicast}
use Rattle.sc_decimal.specs.DecimalValue.{decimal_of}
use Rattle.sc_ip.specs.IpValue.{ip_of}
use Rattle.sc_laws.proofs.BoolLaws.{never}
use Rattle.sc_names.specs.declared.uid.Uid.{Uid}
use Rattle.sc_schema.specs.declared.declarations.Env.{Env}
use Rattle.sc_schema.specs.declared.ty.Ty.{Ty}
use Rattle.sc_schema.specs.Declarations.{Declarations}
use Rattle.sc_values.specs.declared.value.Value.{Value, out-Value}
use Rattle.sc_values.specs.declared.value.Value.TheVariants as value
use Rattle.sc_values.proofs.OutLaws.{out_Entity, out_String}
use Rattle.sc_world.specs.declared.world.World.{World}
use Rattle.sc_world.specs.WellFormed.{IsWellFormed}
use Rattle.sc_eval.specs.Outcomes.{Outcome, ◌>>=◌, text_in, of_bool, of_long, of_text}
use Rattle.sc_eval.specs.Collections.{is_same, is_member}
use Rattle.sc_eval.specs.Operators.{literal_value, binary, unary, is_empty}
use Rattle.sc_typed.specs.declared.typed_expr.TypedExpr.{TypedExpr}
use Rattle.sc_typed.specs.Capabilities.{Capabilities}
use Rattle.sc_typed.specs.Literals.{literal_of}
use Rattle.sc_typed.specs.Outcomes.{ty}
use Rattle.sc_typed.specs.Types.{is_boolean, is_long, is_decimal, is_ip, member}
use Rattle.sc_typing_laws.specs.Operations.{IsComparison, less, less_or_equal, greater, greater_or_equal, IsArithmetic, addition, subtraction, multiplication, IsSetTest, all, any, IsDecimalComparison, decimal_less, decimal_less_or_equal, decimal_greater, decimal_greater_or_equal, IsOperation, of_comparison, of_arithmetic, of_literals, of_equal, of_apart, of_contains, of_sets, of_has_tag, of_get_tag, of_decimals, of_ranges, IsAddressTest, version_4, version_6, loopback, multicast, IsApplication, of_not, of_negate, of_is_empty, of_address_test, of_decimal, of_ip}
use Rattle.sc_soundness_laws.specs.Sound.{IsOf, OrOverflows}
use Rattle.sc_soundness_laws.proofs.EqualLaws.{same_value}
use Rattle.sc_soundness_laws.proofs.ValueLaws.{boolean, entity_of, set_of}
use Rattle.sc_typing_rules.specs.Rules.{literal_typed}
use Rattle.sc_sorts.specs.declared.node.Leaf.TheVariants as leafs
use Rattle.sc_sorts.specs.declared.node.Literal.TheVariants as nodes
use Rattle.sc_terms.specs.TreeSorts.{tree_sort}
use Rattle.sc_terms.specs.Folds.{literal_term}
use Rattle.sc_terms.proofs.FoldValues.{leaf_is}
use Rattle.sc_constructs.specs.Code.{Code, always, same_sort, equal_code, spelled_code}
use Rattle.sc_symeval.specs.Agreement.{Agrees}
use Rattle.sc_symeval.specs.Codes.{binary_code, unary_code}
use Rattle.sc_symeval_laws.proofs.AgreeLaws as agree
use Rattle.sc_symeval_laws.specs.TypeSorts.{sort_in}
use Rattle.sc_symeval_laws.proofs.AgreeLaws.{always_agrees, not_agrees}
use Rattle.sc_symeval_laws.proofs.DecidedLaws.{text_is, spelled_is}
use Rattle.sc_symeval_laws.proofs.EqualityLaws.{sorts_told, is_plain, literal_plain, plain_differ, equal_agrees}
use Rattle.sc_symeval_laws.proofs.TypeSortLaws.{joined_sorts}
use Rattle.sc_symeval_laws.proofs.KindLaws.{long_of, decimal_of as decimal_in, address_of, long_is, address_is, set_is, longs_are, decimals_are, addresses_are, sets_are}
use Rattle.sc_symeval_laws.proofs.TagLaws.{has_tag_agrees, get_tag_agrees}
use Rattle.sc_symeval_laws.proofs.RowLaws.{IsNumber, of_long_value, of_decimal_value, less_agrees, less_or_equal_agrees, greater_agrees, greater_or_equal_agrees, sum_agrees, difference_agrees, product_agrees, contains_agrees, contains_all_agrees, contains_any_agrees, in_range_agrees, negative_agrees, version_4_agrees, version_6_agrees, loopback_agrees, multicast_agrees, is_empty_agrees}

module _ (w : World) where
  -- a value that comes is of the type
  of_value : (type : Ty) (o : Outcome) (x : Value) → OrOverflows (IsOf w type) o → o ≡ Ok x → IsOf w type x
  of_value type o x h is = subst (OrOverflows (IsOf w type)) is h

  -- ---- two operands

  module _ (s : Declarations) (env : Env) (literals : List Uid) (well : IsWellFormed s env literals w) (known : Capabilities) (m n : Expr) (x y : TypedExpr) (a b : Code) (o p : Outcome) (h : Agrees w a o) (k : Agrees w b p)
      (first : OrOverflows (IsOf w (ty x)) o) (second : OrOverflows (IsOf w (ty y)) p) (left_sort : tree_sort a.val ≡ sort_in s (ty x)) (right_sort : tree_sort b.val ≡ sort_in s (ty y))
      (worth : (l : Literal) → literal_of m ≡ Some l → o ≡ Ok (literal_value l)) where
    abbrev Row : BinaryOperator → Ty → Type 0
    Row operator type = Agrees w (binary_code s operator type x y a b) (o >>= λ u. p >>= λ v. binary operator w u v)

    longs_of : (g : ℤ → ℤ → Outcome) (f : Value → Value → Outcome) → is_long (ty x) ≡ true → is_long (ty y) ≡ true
        → ((u v : Value) (i j : ℤ) → u ≡ value.Long i → v ≡ value.Long j → f u v ≡ g i j)
        → (u v : Value) → o ≡ Ok u → p ≡ Ok v → (i : ℤ) × (j : ℤ) × IsNumber u i × IsNumber v j × (f u v ≡ g i j)
    longs_of g f c d is u v e r =
        let i = long_of w (ty x) u c (of_value (ty x) o u first e) in
        let j = long_of w (ty y) v d (of_value (ty y) p v second r) in
        (i.0, j.0, of_long_value u i.0 i.1, of_long_value v j.0 j.1, is u v i.0 j.0 i.1 j.1)

    decimals_of : (g : ℤ → ℤ → Outcome) (f : Value → Value → Outcome) → is_decimal (ty x) ≡ true → is_decimal (ty y) ≡ true
        → ((u v : Value) (i j : ℤ) → u ≡ value.Decimal i → v ≡ value.Decimal j → f u v ≡ g i j)
        → (u v : Value) → o ≡ Ok u → p ≡ Ok v → (i : ℤ) × (j : ℤ) × IsNumber u i × IsNumber v j × (f u v ≡ g i j)
    decimals_of g f c d is u v e r =
        let i = decimal_in w (ty x) u c (of_value (ty x) o u first e) in
        let j = decimal_in w (ty y) v d (of_value (ty y) p v second r) in
        (i.0, j.0, of_decimal_value u i.0 i.1, of_decimal_value v j.0 j.1, is u v i.0 j.0 i.1 j.1)

    comparison_agrees : (operator : BinaryOperator) (type : Ty) → IsComparison operator → is_long (ty x) ≡ true → is_long (ty y) ≡ true → Row operator type
    comparison_agrees _ type less c d = less_agrees w a b o p (binary Less w) h k (longs_of _ _ c d (λ u v i j e r. longs_are u v i j _ e r))
    comparison_agrees _ type less_or_equal c d = less_or_equal_agrees w a b o p (binary LessOrEqual w) h k (longs_of _ _ c d (λ u v i j e r. longs_are u v i j _ e r))
    comparison_agrees _ type greater c d = greater_agrees w a b o p (binary Greater w) h k (longs_of _ _ c d (λ u v i j e r. longs_are u v i j _ e r))
    comparison_agrees _ type greater_or_equal c d = greater_or_equal_agrees w a b o p (binary GreaterOrEqual w) h k (longs_of _ _ c d (λ u v i j e r. longs_are u v i j _ e r))

    arithmetic_agrees : (operator : BinaryOperator) (type : Ty) → IsArithmetic operator → is_long (ty x) ≡ true → is_long (ty y) ≡ true → Row operator type
    arithmetic_agrees _ type addition c d = sum_agrees w a b o p (binary Add w) h k (longs_of _ _ c d (λ u v i j e r. longs_are u v i j _ e r))
    arithmetic_agrees _ type subtraction c d = difference_agrees w a b o p (binary Subtract w) h k (longs_of _ _ c d (λ u v i j e r. longs_are u v i j _ e r))
    arithmetic_agrees _ type multiplication c d = product_agrees w a b o p (binary Multiply w) h k (longs_of _ _ c d (λ u v i j e r. longs_are u v i j _ e r))

    decimal_agrees : (operator : BinaryOperator) (type : Ty) → IsDecimalComparison operator → is_decimal (ty x) ≡ true → is_decimal (ty y) ≡ true → Row operator type
    decimal_agrees _ type decimal_less c d = less_agrees w a b o p (binary LessThan w) h k (decimals_of _ _ c d (λ u v i j e r. decimals_are u v i j _ e r))
    decimal_agrees _ type decimal_less_or_equal c d = less_or_equal_agrees w a b o p (binary LessThanOrEqual w) h k (decimals_of _ _ c d (λ u v i j e r. decimals_are u v i j _ e r))
    decimal_agrees _ type decimal_greater c d = greater_agrees w a b o p (binary GreaterThan w) h k (decimals_of _ _ c d (λ u v i j e r. decimals_are u v i j _ e r))
    decimal_agrees _ type decimal_greater_or_equal c d = greater_or_equal_agrees w a b o p (binary GreaterThanOrEqual w) h k (decimals_of _ _ c d (λ u v i j e r. decimals_are u v i j _ e r))

    set_agrees : (operator : BinaryOperator) (type first_type second_type : Ty) → IsSetTest operator → member (ty x) ≡ Some first_type → member (ty y) ≡ Some second_type → Row operator type
    set_agrees _ type f g all c d = contains_all_agrees w a b o p (binary ContainsAll w) h k λ u v e r.
        let i = set_of w f (ty x) u c (of_value (ty x) o u first e) in
        let j = set_of w g (ty y) v d (of_value (ty y) p v second r) in
        (i.0, j.0, i.1.set, j.1.set, sets_are u v i.0 j.0 _ i.1.set j.1.set)
    set_agrees _ type f g any c d = contains_any_agrees w a b o p (binary ContainsAny w) h k λ u v e r.
        let i = set_of w f (ty x) u c (of_value (ty x) o u first e) in
        let j = set_of w g (ty y) v d (of_value (ty y) p v second r) in
        (i.0, j.0, i.1.set, j.1.set, sets_are u v i.0 j.0 _ i.1.set j.1.set)

    -- values of two sorts differ
    abbrev AreApart : Type 0
    AreApart = (u v : Value) → o ≡ Ok u → p ≡ Ok v → IsOf w (ty x) u → IsOf w (ty y) v → same_sort (sort_in s (ty x)) (sort_in s (ty y)) ≡ false → is_same u v ≡ false

    compared : AreApart → Agrees w (equal_code a b) (o >>= λ u. p >>= λ v. of_bool (is_same u v))
    compared differ = equal_agrees s w (ty x) (ty y) a b o p h k left_sort right_sort first second differ

    pub operation_agrees : (operator : BinaryOperator) (type : Ty) → IsOperation s known m n x y operator type → Row operator type
    operation_agrees _ _ (of_comparison o i c d) = comparison_agrees o _ i c d
    operation_agrees _ _ (of_arithmetic o i c d) = arithmetic_agrees o _ i c d
    operation_agrees _ _ (of_literals l r e f) = compared λ u v i j hu hv apart. plain_differ s w (ty x) (ty y) u v hu hv (ap (λ z. is_plain (out-Value z)) (same_value u (literal_value l) (sym i ∙ worth l e)) ∙ literal_plain l) apart
    operation_agrees _ _ (of_equal both g j) = compared λ u v i f hu hv apart.
        let q = joined_sorts s (ty x) (ty y) both j in
        never _ (sym (sorts_told _ _ (q.0 ∙ sym q.1)) ∙ apart)
    operation_agrees _ _ (of_apart i j l e f named g) = compared λ u v c d hu hv apart.
        let q = entity_of w i (ty x) u e hu in
        plain_differ s w (ty x) (ty y) u v hu hv (ap is_plain (ap out-Value q.1.entity ∙ out_Entity q.0)) apart
    operation_agrees _ _ (of_contains element both c j) = contains_agrees w a b o p (binary Contains w) h k λ u v e r.
        let i = set_of w element (ty x) u c (of_value (ty x) o u first e) in
        (i.0, i.1.set, ap (λ z. z >>= λ t. of_bool (is_member t v)) (set_is u i.0 i.1.set))
    operation_agrees _ _ (of_sets o f g both i c d j) = set_agrees o _ f g i c d
    operation_agrees _ _ (of_has_tag i e c) = has_tag_agrees s env literals w well (ty x) (ty y) i a b o p h k e c first second
    operation_agrees _ _ (of_get_tag i tag e c d g) = get_tag_agrees s env literals w well (ty x) (ty y) tag i a b o p h k e c d first second
    operation_agrees _ _ (of_decimals o i c d) = decimal_agrees o _ i c d
    operation_agrees _ _ (of_ranges c d) = in_range_agrees w a b o p (binary IsInRange w) h k λ u v e r.
        let i = address_of w (ty x) u c (of_value (ty x) o u first e) in
        let j = address_of w (ty y) v d (of_value (ty y) p v second r) in
        (i.0, j.0, i.1, j.1, addresses_are u v i.0 j.0 _ i.1 j.1)

  -- ---- one operand

  module _ (s : Declarations) (m : Expr) (x : TypedExpr) (a : Code) (o : Outcome) (h : Agrees w a o) (first : OrOverflows (IsOf w (ty x)) o) (written_as : (l : Literal) → literal_of m ≡ Some l → (p : Place) × (x ≡ literal_typed s p l))
      (worth : (l : Literal) → literal_of m ≡ Some l → o ≡ Ok (literal_value l)) where
    truth_of : is_boolean (ty x) ≡ true → (r : Outcome) → OrOverflows (IsOf w (ty x)) r → agree.IsTruth w r
    truth_of b (Ok v) k = boolean (ty x) v b k.conforming
    truth_of b (Err e) k = tt

    address_agrees : (operator : UnaryOperator) → IsAddressTest operator → is_ip (ty x) ≡ true → Agrees w (unary_code operator x a) (o >>= unary operator)
    address_agrees _ version_4 c = version_4_agrees w a o (unary IsIpv4) h λ v e.
        let i = address_of w (ty x) v c (of_value (ty x) o v first e) in (i.0, i.1, ap (λ z. z >>= λ b. of_bool (is_version_4 b)) (address_is v i.0 i.1))
    address_agrees _ version_6 c = version_6_agrees w a o (unary IsIpv6) h λ v e.
        let i = address_of w (ty x) v c (of_value (ty x) o v first e) in (i.0, i.1, ap (λ z. z >>= λ b. of_bool (not (is_version_4 b))) (address_is v i.0 i.1))
    address_agrees _ loopback c = loopback_agrees w a o (unary IsLoopback) h λ v e.
        let i = address_of w (ty x) v c (of_value (ty x) o v first e) in (i.0, i.1, ap (λ z. z >>= λ b. of_bool (is_loopback b)) (address_is v i.0 i.1))
    address_agrees _ multicast c = multicast_agrees w a o (unary IsMulticast) h λ v e.
        let i = address_of w (ty x) v c (of_value (ty x) o v first e) in (i.0, i.1, ap (λ z. z >>= λ b. of_bool (is_multicast b)) (address_is v i.0 i.1))

    pub application_agrees : (operator : UnaryOperator) (type : Ty) → IsApplication m x operator type → Agrees w (unary_code operator x a) (o >>= unary operator)
    application_agrees _ _ (of_not b) = not_agrees w a o h (truth_of b o first)
    application_agrees _ _ (of_negate c) = negative_agrees w a o (unary Negate) h λ v e.
        let i = long_of w (ty x) v c (of_value (ty x) o v first e) in (i.0, of_long_value v i.0 i.1, ap (λ z. z >>= λ n. of_long (neg_ℤ n)) (long_is v i.0 i.1))
    application_agrees _ _ (of_is_empty element c) = is_empty_agrees w a o (unary IsEmpty) h λ v e.
        let i = set_of w element (ty x) v c (of_value (ty x) o v first e) in (i.0, i.1.set, ap (λ z. z >>= λ t. of_bool (is_empty t)) (set_is v i.0 i.1.set))
    application_agrees _ _ (of_address_test o i c) = address_agrees o i c
    application_agrees _ _ (of_decimal text n e r) =
        let q = written_as (literal.String text) (text_is m text e) in
        let value_is : (o >>= unary Decimal) ≡ Ok (value.Decimal n) =
        ap (λ (z : Outcome). z >>= unary Decimal) (worth (literal.String text) (text_is m text e)) ∙ ap (λ z. text_in z >>= λ t. of_text value.Decimal (decimal_of t)) (out_String text) ∙ ap (of_text value.Decimal) r in
        subst (λ (c : Code). Agrees w c (o >>= unary Decimal)) (sym (ap spelled_code (spelled_is nodes.Decimal decimal_of s x q.0 text n q.1 r)))
        (subst (Agrees w (always (literal_term (nodes.Decimal n)))) (sym value_is) (always_agrees w _ (value.Decimal n) (leaf_is (leafs.Literal (nodes.Decimal n)) w)))
    application_agrees _ _ (of_ip text ip e r) =
        let q = written_as (literal.String text) (text_is m text e) in
        let value_is : (o >>= unary Ip) ≡ Ok (value.Ip ip) =
        ap (λ (z : Outcome). z >>= unary Ip) (worth (literal.String text) (text_is m text e)) ∙ ap (λ z. text_in z >>= λ t. of_text value.Ip (ip_of t)) (out_String text) ∙ ap (of_text value.Ip) r in
        subst (λ (c : Code). Agrees w c (o >>= unary Ip)) (sym (ap spelled_code (spelled_is nodes.Ip ip_of s x q.0 text ip q.1 r)))
        (subst (Agrees w (always (literal_term (nodes.Ip ip)))) (sym value_is) (always_agrees w _ (value.Ip ip) (leaf_is (leafs.Literal (nodes.Ip ip)) w)))
