-- The types that operators are given are those of their rows.
use Rattle.std.proofs.Common.{◌≡◌, ℕ, List, Bool, true, false, ◌&&◌, Option, Some, None, IfOk, is_some, refl, subst}
use Rattle.std.specs.Option.{option_and_then}
use Rattle.std.specs.Str.{bytes_eq}
use Rattle.sc_laws.proofs.BoolLaws.{not_is_true}
use Rattle.sc_laws.proofs.OptionLaws.{some_is}
use Rattle.sc_ast.specs.declared.expr.Expr.{Expr}
use Rattle.sc_ast.specs.declared.literal.Literal.{Literal}
use Rattle.sc_ast.specs.declared.operator.BinaryOperator.{BinaryOperator}
use Rattle.sc_ast.specs.declared.operator.BinaryOperator.TheVariants.{Less, LessOrEqual, Greater, GreaterOrEqual, Equal, In, Add, Subtract, Multiply, Contains, ContainsAll, ContainsAny, HasTag, GetTag, LessThan, LessThanOrEqual, GreaterThan, GreaterThanOrEqual, IsInRange}
use Rattle.sc_ast.specs.declared.operator.UnaryOperator.{UnaryOperator}
use Rattle.sc_ast.specs.declared.operator.UnaryOperator.TheVariants.{Not, Negate, IsEmpty, IsIpv4, IsIpv6, IsLoopback, IsMulticast, Decimal, Ip}
use Rattle.sc_ast.specs.declared.place.Place.{Place}
use Rattle.sc_decimal.specs.DecimalValue.{decimal_of}
use Rattle.sc_ip.specs.IpValue.{ip_of}
use Rattle.sc_schema.specs.declared.ty.Ty.{Ty}
use Rattle.sc_schema.specs.declared.ty.Ty.TheVariants as types
use Rattle.sc_schema.specs.Declarations.{Declarations, tags_of}
use Rattle.sc_typed.specs.declared.typed_expr.TypedExpr.{TypedExpr}
use Rattle.sc_typed.specs.Types.{is_boolean, is_long, is_string, is_decimal, is_ip, entity_name, member, join}
use Rattle.sc_typed.specs.Capabilities.{Capabilities, tag_of, is_known}
use Rattle.sc_typed.specs.Literals.{literal_of, text_of}
use Rattle.sc_typed.specs.Outcomes.{ty}
use Rattle.sc_typed.proofs.OutcomeLaws.{through, in_either, checked, found}
use Rattle.sc_typing_rules.specs.Operators.{longs, decimals, addresses, contained, sets, are_apart, compared, equal_by, tags, has_tag, get_tag, binary, address, read_as, reads, unary}
use Rattle.sc_typing_laws.specs.Operations.{are_literals, less, less_or_equal, greater, greater_or_equal, addition, subtraction, multiplication, IsSetTest, all, any, IsDecimalComparison, decimal_less, decimal_less_or_equal, decimal_greater, decimal_greater_or_equal, IsOperation, of_comparison, of_arithmetic, of_literals, of_equal, of_apart, of_contains, of_sets, of_has_tag, of_get_tag, of_decimals, of_ranges, IsAddressTest, version_4, version_6, loopback, multicast, IsApplication, of_not, of_negate, of_is_empty, of_address_test, of_decimal, of_ip}

not_some : {A : Type 0} (o : Option A) → is_some o ≡ false → o ≡ None
not_some None h = refl
not_some (Some x) h = absurd cc

-- `in` has rows of its own
abbrev pub is_membership : BinaryOperator → Bool
is_membership In = true
is_membership o = false

module _ (s : Declarations) (known : Capabilities) (a b : Expr) (x y : TypedExpr) where
  abbrev Is : BinaryOperator → Ty → Type 0
  Is o type = IsOperation s known a b x y o type

  longs_are : (o : BinaryOperator) (type : Ty) → (is_long (ty x) ≡ true → is_long (ty y) ≡ true → Is o type) → IfOk (longs x y type) (Is o)
  longs_are o type h = checked (is_long (ty x)) _ _ _ (Is o) λ c. checked (is_long (ty y)) _ _ _ (Is o) λ d. h c d

  decimals_are : (o : BinaryOperator) → IsDecimalComparison o → IfOk (decimals x y) (Is o)
  decimals_are o h = checked (is_decimal (ty x)) _ _ _ (Is o) λ c. checked (is_decimal (ty y)) _ _ _ (Is o) λ d. of_decimals o h c d

  ranges_are : IfOk (addresses x y) (Is IsInRange)
  ranges_are = checked (is_ip (ty x)) _ _ _ (Is IsInRange) λ c. checked (is_ip (ty y)) _ _ _ (Is IsInRange) λ d. of_ranges c d

  contains_are : (place : Place) → IfOk (contained place x y) (Is Contains)
  contains_are place = found (member (ty x)) _ _ _ (Is Contains) λ element e. found (join element (ty y)) _ _ _ (Is Contains) λ both j. of_contains element both e j

  sets_are : (o : BinaryOperator) (place : Place) → IsSetTest o → IfOk (sets place x y) (Is o)
  sets_are o place h =
      found (member (ty x)) _ _ _ (Is o) λ first e. found (member (ty y)) _ _ _ (Is o) λ second f. found (join first second) _ _ _ (Is o) λ both j. of_sets o first second both h e f j

  -- ---- `==`

  joined_is : (o : Option Ty) → are_literals a b ≡ false → join (ty x) (ty y) ≡ o → is_some o ≡ true → Is Equal types.Bool
  joined_is (Some both) l j h = of_equal both l j
  joined_is None l j h = absurd cc

  apart_is : (n m : Option (List ℕ)) → are_literals a b ≡ false → entity_name (ty x) ≡ n → entity_name (ty y) ≡ m → are_apart n m ≡ true → join (ty x) (ty y) ≡ None → Is Equal types.False
  apart_is (Some n) (Some m) l e f h j = of_apart n m l e f (not_is_true (bytes_eq n m) h) j
  apart_is (Some n) None l e f h j = absurd cc
  apart_is None m l e f h j = absurd cc

  compared_is : (place : Place) → are_literals a b ≡ false → IfOk (compared place (ty x) (ty y)) (Is Equal)
  compared_is place l =
      in_either (is_some (join (ty x) (ty y))) _ _ (Is Equal) (λ h. joined_is (join (ty x) (ty y)) l refl h) λ h.
      in_either (are_apart (entity_name (ty x)) (entity_name (ty y))) _ _ (Is Equal) (λ g. apart_is (entity_name (ty x)) (entity_name (ty y)) l refl refl g (not_some (join (ty x) (ty y)) h)) λ g. tt

  equal_is : (place : Place) (l m : Option Literal) → literal_of a ≡ l → literal_of b ≡ m → IfOk (equal_by place l m (ty x) (ty y)) (Is Equal)
  equal_is place (Some l) (Some m) p q = of_literals l m p q
  equal_is place (Some l) None p q = compared_is place (λ i. is_some (p i) && is_some (q i))
  equal_is place None m p q = compared_is place (λ i. is_some (p i) && is_some (q i))

  -- ---- tags

  abbrev AreTags : Option Ty → Type 0
  AreTags o = (n : List ℕ) × (entity_name (ty x) ≡ Some n) × (is_string (ty y) ≡ true) × (tags_of s n ≡ o)

  tags_are : IfOk (tags s x y) AreTags
  tags_are = found (entity_name (ty x)) _ _ _ AreTags λ n e. checked (is_string (ty y)) _ _ _ AreTags λ c. (n, e, c, refl)

  test_is : (o : Option Ty) → AreTags o → Is HasTag (has_tag o (is_known known (tag_of a b)))
  test_is o h = subst (λ (t : Option Ty). Is HasTag (has_tag t (is_known known (tag_of a b)))) h.3 (of_has_tag h.0 h.1 h.2)

  read_is : (place : Place) (o : Option Ty) (k : Bool) → AreTags o → is_known known (tag_of a b) ≡ k → IfOk (get_tag place o k) (Is GetTag)
  read_is place None k h q = tt
  read_is place (Some type) true h q = of_get_tag h.0 type h.1 h.2 h.3 q
  read_is place (Some type) false h q = tt

  -- ---- all

  pub operation_is : (o : BinaryOperator) (place : Place) → is_membership o ≡ false → IfOk (binary s known place o a b x y) (Is o)
  operation_is Less place h = longs_are Less types.Bool (of_comparison Less less)
  operation_is LessOrEqual place h = longs_are LessOrEqual types.Bool (of_comparison LessOrEqual less_or_equal)
  operation_is Greater place h = longs_are Greater types.Bool (of_comparison Greater greater)
  operation_is GreaterOrEqual place h = longs_are GreaterOrEqual types.Bool (of_comparison GreaterOrEqual greater_or_equal)
  operation_is Equal place h = equal_is place (literal_of a) (literal_of b) refl refl
  operation_is In place h = absurd cc
  operation_is Add place h = longs_are Add types.Long (of_arithmetic Add addition)
  operation_is Subtract place h = longs_are Subtract types.Long (of_arithmetic Subtract subtraction)
  operation_is Multiply place h = longs_are Multiply types.Long (of_arithmetic Multiply multiplication)
  operation_is Contains place h = contains_are place
  operation_is ContainsAll place h = sets_are ContainsAll place all
  operation_is ContainsAny place h = sets_are ContainsAny place any
  operation_is HasTag place h = through AreTags (tags s x y) _ (Is HasTag) tags_are λ o t. test_is o t
  operation_is GetTag place h = through AreTags (tags s x y) _ (Is GetTag) tags_are λ o t. read_is place o (is_known known (tag_of a b)) t refl
  operation_is LessThan place h = decimals_are LessThan decimal_less
  operation_is LessThanOrEqual place h = decimals_are LessThanOrEqual decimal_less_or_equal
  operation_is GreaterThan place h = decimals_are GreaterThan decimal_greater
  operation_is GreaterThanOrEqual place h = decimals_are GreaterThanOrEqual decimal_greater_or_equal
  operation_is IsInRange place h = ranges_are

-- ---- one operand

module _ (a : Expr) (x : TypedExpr) where
  abbrev Has : UnaryOperator → Ty → Type 0
  Has o type = IsApplication a x o type

  address_is : (o : UnaryOperator) → IsAddressTest o → IfOk (address x) (Has o)
  address_is o h = checked (is_ip (ty x)) _ _ _ (Has o) λ c. of_address_test o h c

  -- a text that reads
  text_reads : {A : Type 0} (read : List ℕ → Option A) (t : Option (List ℕ)) → text_of a ≡ t → is_some (option_and_then read t) ≡ true
      → (text : List ℕ) × (value : A) × (text_of a ≡ Some text) × (read text ≡ Some value)
  text_reads read None e h = absurd cc
  text_reads read (Some text) e h = let v = some_is (read text) h in (text, v.0, e, v.1)

  decimal_is : (place : Place) → IfOk (read_as (reads decimal_of a) place types.Decimal) (Has Decimal)
  decimal_is place =
      checked (reads decimal_of a) _ _ _ (Has Decimal) λ h. let t = text_reads decimal_of (text_of a) refl h in of_decimal t.0 t.1 t.2 t.3

  ip_is : (place : Place) → IfOk (read_as (reads ip_of a) place types.Ip) (Has Ip)
  ip_is place = checked (reads ip_of a) _ _ _ (Has Ip) λ h. let t = text_reads ip_of (text_of a) refl h in of_ip t.0 t.1 t.2 t.3

  pub application_is : (o : UnaryOperator) (place : Place) → IfOk (unary place o a x) (Has o)
  application_is Not place = checked (is_boolean (ty x)) _ _ _ (Has Not) λ c. of_not c
  application_is Negate place = checked (is_long (ty x)) _ _ _ (Has Negate) λ c. of_negate c
  application_is IsEmpty place = found (member (ty x)) _ _ _ (Has IsEmpty) λ element e. of_is_empty element e
  application_is IsIpv4 place = address_is IsIpv4 version_4
  application_is IsIpv6 place = address_is IsIpv6 version_6
  application_is IsLoopback place = address_is IsLoopback loopback
  application_is IsMulticast place = address_is IsMulticast multicast
  application_is Decimal place = decimal_is place
  application_is Ip place = ip_is place
