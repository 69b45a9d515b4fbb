-- Operators with one and with two operands, of operands that are of their types.
use Rattle.std.proofs.Common.{◌≡◌, ◌&&◌, ℕ, ℤ, ◌+ℤ◌, ◌-ℤ◌, ◌*ℤ◌, neg_ℤ, List, [], ◌∷◌, Bool, true, false, not, if◌then◌else◌, Option, Some, None, is_some, IsTrue, MatchOption, Result, Ok, Err, IfOk, int_lt, int_le, refl, sym, ap, subst, ◌∙◌}
use Rattle.std.specs.List.{AllByRecursion, list_any, list_all}
use Rattle.std.specs.Option.{option_and_then}
use Rattle.std.specs.Str.{bytes_eq}
use Rattle.sc_laws.proofs.BoolLaws.{not_is_true}
use Rattle.sc_ast.specs.declared.expr.Expr.{Expr}
use Rattle.sc_ast.specs.declared.literal.Literal.{Literal}
use Rattle.sc_ast.specs.declared.literal.Literal.TheVariants as literal
use Rattle.sc_ast.specs.declared.operator.BinaryOperator.{BinaryOperator}
use Rattle.sc_ast.specs.declared.operator.BinaryOperator.TheVariants.{Less, LessOrEqual, Greater, GreaterOrEqual, Equal, In, Add, Subtract, Multiply, Contains, ContainsAll, ContainsAny, HasTag, GetTag, LessThan, LessThanOrEqual, GreaterThan, GreaterThanOrEqual, IsInRange}
use Rattle.sc_ast.specs.declared.operator.UnaryOperator.{UnaryOperator}
use Rattle.sc_ast.specs.declared.operator.UnaryOperator.TheVariants.{Not, Negate, IsEmpty, IsIpv4, IsIpv6, IsLoopback, IsMulticast, Decimal, Ip}
use Rattle.sc_ast.specs.declared.place.Place.{Place}
use Rattle.sc_decimal.specs.DecimalValue.{decimal_of}
use Rattle.sc_ip.specs.declared.ip.Ip as ip
use Rattle.sc_ip.specs.Addresses.{is_version_4, is_in_range, is_loopback, is_multicast}
use Rattle.sc_ip.specs.IpValue.{ip_of}
use Rattle.sc_names.specs.declared.uid.Uid.{Uid}
use Rattle.sc_schema.specs.declared.declarations.Env.{Env}
use Rattle.sc_schema.specs.declared.ty.Ty.{Ty}
use Rattle.sc_schema.specs.declared.ty.Ty.TheVariants as types
use Rattle.sc_schema.specs.Declarations.{Declarations, tags_of}
use Rattle.sc_schema.specs.Lawful.{IsLawful}
use Rattle.sc_values.specs.declared.value.Value.{Value}
use Rattle.sc_values.specs.declared.value.Value.TheVariants as value
use Rattle.sc_values.specs.Records.{Fields, field}
use Rattle.sc_values.proofs.EveryLaws as every
use Rattle.sc_values.proofs.OutLaws.{out_Bool, out_String}
use Rattle.sc_world.specs.declared.entity.EntityData.{EntityData}
use Rattle.sc_world.specs.declared.world.World.{World}
use Rattle.sc_world.specs.Conforms.{conforms}
use Rattle.sc_world.specs.Stores.{stored}
use Rattle.sc_world.specs.WellFormed.{HasTags, NamesStored, NamesStoredLevel, EntryNamesStored, IsStored, IsWellFormed}
use Rattle.sc_eval.specs.declared.error.EvalError.{EvalError}
use Rattle.sc_eval.specs.declared.error.EvalError.TheVariants.{Overflow}
use Rattle.sc_eval.specs.Outcomes.{Outcome, ◌>>=◌, bool_in, text_in, as_bool, as_text, of_bool, of_long, of_text, fits}
use Rattle.sc_eval.specs.Entities.{has_tag, tag_of as tag_value, tag_or_missing, is_in}
use Rattle.sc_eval.specs.Collections.{is_same, is_member}
use Rattle.sc_eval.specs.Operators.{tagged, is_empty}
use Rattle.sc_eval.specs.Operators as evaluated
use Rattle.sc_eval.specs.Eval.{eval}
use Rattle.sc_typed.specs.declared.fault.TypeFault.{TypeFault}
use Rattle.sc_typed.specs.declared.typed_expr.TypedExpr.{TypedExpr}
use Rattle.sc_typed.specs.Types.{is_true, is_false, is_either, is_boolean, is_long, is_string, is_decimal, is_ip, entity_name, member, truth, join}
use Rattle.sc_typed.specs.Capabilities.{Capabilities, tag_of, is_known}
use Rattle.sc_typed.specs.Outcomes.{ty}
use Rattle.sc_typed.specs.Literals.{literal_of, text_of, text_in as text_of_literal, same_literal}
use Rattle.sc_typing_rules.specs.Operators.{are_apart, compared, equal_by, given_by, given_tag, negated, reads}
use Rattle.sc_typing_rules.specs.Operators as ops
use Rattle.sc_typed.proofs.OutcomeLaws.{through, in_either, checked, found}
use Rattle.sc_soundness_laws.specs.Sound.{IsOf, OrOverflows, AllHold}
use Rattle.sc_soundness_laws.proofs.ValueLaws.{by_test, Fits, true_fits, false_fits, bool_fits, truth_fits, fits-true, fits-false, boolean, of_Bool, of_Long, of_Decimal, of_Ip, long, decimal, address, set_asked, IsEntityOf, entity_of, as_entity-is, string_of}
use Rattle.sc_soundness_laws.proofs.LiteralLaws.{literals-same}
use Rattle.sc_soundness_laws.proofs.EqualLaws.{literal-eval, same_value, entities-differ}
use Rattle.sc_soundness_laws.proofs.ObjectLaws.{of_stored, data_of, of_field}
use Rattle.sc_soundness_laws.proofs.HoldingLaws.{is_true as is_true_value, known_holds, tag-holds, holds-tag}
use Rattle.sc_soundness_laws.proofs.LogicLaws.{given_by_test}
use Rattle.sc_soundness_laws.proofs.MembershipLaws.{within_sound, InType}

module _ (w : World) where
  -- ---- results

  any_bool : (b : Bool) → IsOf w types.Bool (value.Bool b)
  any_bool b = of_Bool w types.Bool b (bool_fits b)

  in_range : (n : ℤ) (b : Bool) → OrOverflows (IsOf w types.Long) (if b then Ok (value.Long n) else Err Overflow)
  in_range n true = of_Long w n
  in_range n false = refl

  any_long : (n : ℤ) → OrOverflows (IsOf w types.Long) (of_long n)
  any_long n = in_range n (fits n)

  -- ---- one operand

  abbrev pub OneSound : UnaryOperator → Expr → TypedExpr → Ty → Type 0
  OneSound operator a x type = (m : Value) → eval a w ≡ Ok m → IsOf w (ty x) m → OrOverflows (IsOf w type) (evaluated.unary operator m)

  negated_fits : (type : Ty) (b : Bool) → Fits type b → Fits (negated type) (not b)
  negated_fits type b h =
      by_test (λ u. Fits u (not b)) (is_false type) types.True (if is_true type then types.False else types.Bool) (λ f. subst (λ c. Fits types.True (not c)) (sym (fits-false type b f h)) true_fits) λ f.
      by_test (λ u. Fits u (not b)) (is_true type) types.False types.Bool (λ t. subst (λ c. Fits types.False (not c)) (sym (fits-true type b t h)) false_fits) λ t. bool_fits (not b)

  not_sound : (x : TypedExpr) (m : Value) → is_boolean (ty x) ≡ true → IsOf w (ty x) m → OrOverflows (IsOf w (negated (ty x))) (evaluated.unary Not m)
  not_sound x m c h =
      let p = boolean (ty x) m c h.conforming in
      let fit : Fits (ty x) p.0 = subst (λ z. IsTrue (conforms (ty x) z)) p.1 h.conforming in
      let asked : as_bool m ≡ Ok p.0 = ap as_bool p.1 ∙ ap bool_in (out_Bool p.0) in
      subst (λ (o : Result Bool EvalError). OrOverflows (IsOf w (negated (ty x))) (o >>= λ b. of_bool (not b))) (sym asked)
      (of_Bool w (negated (ty x)) (not p.0) (negated_fits (ty x) p.0 fit))

  -- a literal text that reads
  record Reads {A : Type 0} (read : List ℕ → Option A) (a : Expr) (text : List ℕ) (z : A) : Type 0 where
    worth : eval a w ≡ Ok (value.String text)
    value_is : read text ≡ Some z

  some_of : {A : Type 0} (r : Option A) → is_some r ≡ true → (z : A) × (r ≡ Some z)
  some_of (Some z) h = (z, refl)
  some_of None h = absurd cc

  reads_in : {A : Type 0} (read : List ℕ → Option A) (a : Expr) (o : Option Literal) → literal_of a ≡ o → is_some (option_and_then read (option_and_then text_of_literal o)) ≡ true → (text : List ℕ) × ((z : A) × Reads read a text z)
  reads_in read a (Some (literal.String text)) at h = let p = some_of (read text) h in (text, (p.0, record { worth = literal-eval a (literal.String text) w at; value_is = p.1 }))
  reads_in read a (Some (literal.Bool b)) at h = absurd cc
  reads_in read a (Some (literal.Long n)) at h = absurd cc
  reads_in read a (Some (literal.Entity u)) at h = absurd cc
  reads_in read a None at h = absurd cc

  read_sound : {A : Type 0} (read : List ℕ → Option A) (kind : A → Value) (type : Ty) (a : Expr) (m : Value) → ((z : A) → IsOf w type (kind z)) → is_some (option_and_then read (text_of a)) ≡ true → eval a w ≡ Ok m
      → OrOverflows (IsOf w type) (as_text m >>= λ text. of_text kind (read text))
  read_sound read kind type a m of_kind h at =
      let p = reads_in read a (literal_of a) refl h in
      let is : m ≡ value.String p.0 = same_value m (value.String p.0) (sym at ∙ p.1.1.worth) in
      let asked : as_text m ≡ Ok p.0 = ap as_text is ∙ ap text_in (out_String p.0) in
      subst (λ (o : Result (List ℕ) EvalError). OrOverflows (IsOf w type) (o >>= λ text. of_text kind (read text))) (sym asked)
      (subst (λ o. OrOverflows (IsOf w type) (of_text kind o)) (sym p.1.1.value_is) (of_kind p.1.0))

  pub unary_sound : (place : Place) (operator : UnaryOperator) (a : Expr) (x : TypedExpr) → IfOk (ops.unary place operator a x) (OneSound operator a x)
  unary_sound place Not a x = checked (is_boolean (ty x)) _ _ _ (OneSound Not a x) λ c m at h. not_sound x m c h
  unary_sound place Negate a x = checked (is_long (ty x)) _ _ _ (OneSound Negate a x) λ c m at h. long w (IsOf w types.Long) (ty x) m (λ n. of_long (neg_ℤ n)) c h (λ n. any_long (neg_ℤ n))
  unary_sound place IsEmpty a x = found (member (ty x)) _ _ _ (OneSound IsEmpty a x) λ t mt m at h. set_asked w (IsOf w types.Bool) t (ty x) m (λ xs. of_bool (is_empty xs)) mt h (λ xs k. any_bool (is_empty xs))
  unary_sound place IsIpv4 a x = checked (is_ip (ty x)) _ _ _ (OneSound IsIpv4 a x) λ c m at h. address w (IsOf w types.Bool) (ty x) m (λ z. of_bool (is_version_4 z)) c h (λ z. any_bool (is_version_4 z))
  unary_sound place IsIpv6 a x = checked (is_ip (ty x)) _ _ _ (OneSound IsIpv6 a x) λ c m at h. address w (IsOf w types.Bool) (ty x) m (λ z. of_bool (not (is_version_4 z))) c h (λ z. any_bool (not (is_version_4 z)))
  unary_sound place IsLoopback a x = checked (is_ip (ty x)) _ _ _ (OneSound IsLoopback a x) λ c m at h. address w (IsOf w types.Bool) (ty x) m (λ z. of_bool (is_loopback z)) c h (λ z. any_bool (is_loopback z))
  unary_sound place IsMulticast a x = checked (is_ip (ty x)) _ _ _ (OneSound IsMulticast a x) λ c m at h. address w (IsOf w types.Bool) (ty x) m (λ z. of_bool (is_multicast z)) c h (λ z. any_bool (is_multicast z))
  unary_sound place Decimal a x = checked (reads decimal_of a) _ _ _ (OneSound Decimal a x) λ c m at h. read_sound decimal_of value.Decimal types.Decimal a m (of_Decimal w) c at
  unary_sound place Ip a x = checked (reads ip_of a) _ _ _ (OneSound Ip a x) λ c m at h. read_sound ip_of value.Ip types.Ip a m (of_Ip w) c at

  -- ---- two operands, of which their kinds tell all

  abbrev TwoSound : BinaryOperator → TypedExpr → TypedExpr → Ty → Type 0
  TwoSound operator x y type = (m n : Value) → IsOf w (ty x) m → IsOf w (ty y) n → OrOverflows (IsOf w type) (evaluated.binary operator w m n)

  abbrev Two : TypedExpr → TypedExpr → (Value → Value → Outcome) → Ty → Type 0
  Two x y f type = (m n : Value) → IsOf w (ty x) m → IsOf w (ty y) n → OrOverflows (IsOf w type) (f m n)

  two_longs : (x y : TypedExpr) (type : Ty) (f : ℤ → ℤ → Outcome) → ((i j : ℤ) → OrOverflows (IsOf w type) (f i j)) → IfOk (ops.longs x y type) (Two x y (λ m n. evaluated.longs m n f))
  two_longs x y type f k =
      checked (is_long (ty x)) _ _ _ (Two x y (λ m n. evaluated.longs m n f)) λ c.
      checked (is_long (ty y)) _ _ _ (Two x y (λ m n. evaluated.longs m n f)) λ d m n h g.
      long w (IsOf w type) (ty x) m _ c h λ i. long w (IsOf w type) (ty y) n (f i) d g (k i)

  two_decimals : (x y : TypedExpr) (f : ℤ → ℤ → Bool) → IfOk (ops.decimals x y) (Two x y (λ m n. evaluated.decimals m n (λ i j. of_bool (f i j))))
  two_decimals x y f =
      let Q : Ty → Type 0 = Two x y (λ m n. evaluated.decimals m n (λ i j. of_bool (f i j))) in
      checked (is_decimal (ty x)) _ _ _ Q λ c.
      checked (is_decimal (ty y)) _ _ _ Q λ d m n h g.
      decimal w (IsOf w types.Bool) (ty x) m _ c h λ i. decimal w (IsOf w types.Bool) (ty y) n (λ j. of_bool (f i j)) d g (λ j. any_bool (f i j))

  two_addresses : (x y : TypedExpr) (f : ip.Ip → ip.Ip → Bool) → IfOk (ops.addresses x y) (Two x y (λ m n. evaluated.addresses m n (λ i j. of_bool (f i j))))
  two_addresses x y f =
      let Q : Ty → Type 0 = Two x y (λ m n. evaluated.addresses m n (λ i j. of_bool (f i j))) in
      checked (is_ip (ty x)) _ _ _ Q λ c.
      checked (is_ip (ty y)) _ _ _ Q λ d m n h g.
      address w (IsOf w types.Bool) (ty x) m _ c h λ i. address w (IsOf w types.Bool) (ty y) n (λ j. of_bool (f i j)) d g (λ j. any_bool (f i j))

  two_contained : (place : Place) (x y : TypedExpr) → IfOk (ops.contained place x y) (Two x y evaluated.contained)
  two_contained place x y =
      found (member (ty x)) _ _ _ (Two x y evaluated.contained) λ t mt.
      found (join t (ty y)) _ _ _ (Two x y evaluated.contained) λ u j m n h g.
      set_asked w (IsOf w types.Bool) t (ty x) m (λ xs. of_bool (is_member xs n)) mt h (λ xs k. any_bool (is_member xs n))

  two_sets : (place : Place) (x y : TypedExpr) (f : List Value → List Value → Bool) → IfOk (ops.sets place x y) (Two x y (λ m n. evaluated.sets m n (λ i j. of_bool (f i j))))
  two_sets place x y f =
      let Q : Ty → Type 0 = Two x y (λ m n. evaluated.sets m n (λ i j. of_bool (f i j))) in
      found (member (ty x)) _ _ _ Q λ t mt.
      found (member (ty y)) _ _ _ Q λ u mu.
      found (join t u) _ _ _ Q λ both j m n h g.
      set_asked w (IsOf w types.Bool) t (ty x) m _ mt h λ xs k. set_asked w (IsOf w types.Bool) u (ty y) n (λ ys. of_bool (f xs ys)) mu g (λ ys l. any_bool (f xs ys))

module _ (s : Declarations) (env : Env) (literals : List Uid) (w : World) (lawful : IsLawful s) (well : IsWellFormed s env literals w) where
  -- an operator's value is of its type, and what the operator gives holds where it is true
  pub record IsBinarySound (operator : BinaryOperator) (a b : Expr) (type : Ty) (m n : Value) : Type 0 where
    pub outcome : OrOverflows (IsOf w type) (evaluated.binary operator w m n)
    pub given : evaluated.binary operator w m n ≡ Ok (value.Bool true) → AllHold w (given_by operator a b type)

  abbrev pub BinarySound : Capabilities → BinaryOperator → Expr → Expr → TypedExpr → TypedExpr → Ty → Type 0
  BinarySound known operator a b x y type = (m n : Value) → eval a w ≡ Ok m → eval b w ≡ Ok n → IsOf w (ty x) m → IsOf w (ty y) n → AllHold w known → IsBinarySound operator a b type m n

  -- an operator that gives nothing
  plain : (known : Capabilities) (operator : BinaryOperator) (a b : Expr) (x y : TypedExpr) (r : Result Ty TypeFault) → ((type : Ty) → given_by operator a b type ≡ []) → IfOk r (TwoSound w operator x y) → IfOk r (BinarySound known operator a b x y)
  plain known operator a b x y (Ok type) none h = λ m n at bt mt nt held. record { outcome = h m n mt nt; given = λ k. subst (AllHold w) (sym (none type)) tt }
  plain known operator a b x y (Err e) none h = tt

  -- ---- `in`

  in_bool : (type : Ty) (r : Result Bool EvalError) → OrOverflows (Fits type) r → OrOverflows (IsOf w type) (r >>= of_bool)
  in_bool type (Ok b) h = of_Bool w type b h
  in_bool type (Err e) h = h

  two_in : (x y : TypedExpr) (r : Result Ty TypeFault) → IfOk r (InType s env literals w lawful well x y) → IfOk r (TwoSound w In x y)
  two_in x y (Ok type) h = λ m n mt nt. in_bool type (is_in w m n) (h m n mt nt)
  two_in x y (Err e) h = tt

  -- ---- `==`

  differ_by : (x y : TypedExpr) (o r : Option (List ℕ)) → entity_name (ty x) ≡ o → entity_name (ty y) ≡ r → are_apart o r ≡ true → (m n : Value) → IsOf w (ty x) m → IsOf w (ty y) n → is_same m n ≡ false
  differ_by x y (Some t) (Some u) xt yu apart m n h g =
      let p = entity_of w t (ty x) m xt h in
      let q = entity_of w u (ty y) n yu g in
      entities-differ t u m n p.0 q.0 (not_is_true (bytes_eq t u) apart) p.1.entity p.1.named q.1.entity q.1.named (is_same m n) refl
  differ_by x y (Some t) None xt yu apart m n h g = absurd cc
  differ_by x y None r xt yu apart m n h g = absurd cc

  two_compared : (place : Place) (x y : TypedExpr) → IfOk (compared place (ty x) (ty y)) (TwoSound w Equal x y)
  two_compared place x y =
      in_either (is_some (join (ty x) (ty y))) _ _ (TwoSound w Equal x y)
      (λ j m n h g. any_bool w (is_same m n))
      (λ j. in_either (are_apart (entity_name (ty x)) (entity_name (ty y))) _ _ (TwoSound w Equal x y)
      (λ e m n h g. of_Bool w types.False (is_same m n) (subst (Fits types.False) (sym (differ_by x y (entity_name (ty x)) (entity_name (ty y)) refl refl e m n h g)) false_fits))
      (λ e. tt))

  equal_sound : (known : Capabilities) (place : Place) (a b : Expr) (x y : TypedExpr) (l k : Option Literal) → literal_of a ≡ l → literal_of b ≡ k → IfOk (equal_by place l k (ty x) (ty y)) (BinarySound known Equal a b x y)
  equal_sound known place a b x y (Some l) (Some k) al bk = λ m n at bt mt nt held.
      let first : m ≡ evaluated.literal_value l = same_value m (evaluated.literal_value l) (sym at ∙ literal-eval a l w al) in
      let second : n ≡ evaluated.literal_value k = same_value n (evaluated.literal_value k) (sym bt ∙ literal-eval b k w bk) in
      let same : is_same m n ≡ same_literal l k = (λ i. is_same (first i) (second i)) ∙ literals-same l k in
      record { outcome = of_Bool w (truth (same_literal l k)) (is_same m n) (subst (Fits (truth (same_literal l k))) (sym same) (truth_fits (same_literal l k))); given = λ e. tt }
  equal_sound known place a b x y (Some l) None al bk = plain known Equal a b x y (compared place (ty x) (ty y)) (λ type. refl) (two_compared place x y)
  equal_sound known place a b x y None k al bk = plain known Equal a b x y (compared place (ty x) (ty y)) (λ type. refl) (two_compared place x y)

  -- ---- tags

  -- operands of a tag's test: an entity's type, with its tags, and a text
  record AreTagged (x y : TypedExpr) (o : Option Ty) : Type 0 where
    name : List ℕ
    named : entity_name (ty x) ≡ Some name
    key : is_string (ty y) ≡ true
    tags : tags_of s name ≡ o

  tags_found : (x y : TypedExpr) → IfOk (ops.tags s x y) (AreTagged x y)
  tags_found x y =
      found (entity_name (ty x)) _ _ _ (AreTagged x y) λ name xt.
      checked (is_string (ty y)) _ _ _ (AreTagged x y) λ c. record { name = name; named = xt; key = c; tags = refl }

  -- what is stored of an entity that has tags of a type, or none
  tags_declared : (name : List ℕ) (o : Option Ty) (u : Uid) (d : EntityData) → tags_of s name ≡ o → u.type_name ≡ name → stored u w.store ≡ Some d
      → MatchOption o (d.tags ≡ []) (λ type. AllByRecursion (λ (f : List ℕ × Value). IsTrue (conforms type f.1)) d.tags)
  tags_declared name o u d ot at there =
      let h : HasTags s (u, d) = of_stored (HasTags s) u w.store d there well.tags in
      subst (λ (p : Option Ty). MatchOption p (d.tags ≡ []) (λ type. AllByRecursion (λ (f : List ℕ × Value). IsTrue (conforms type f.1)) d.tags)) (ap (tags_of s) at ∙ ot) h

  no_tag : (name : List ℕ) (u : Uid) (key : List ℕ) → tags_of s name ≡ None → u.type_name ≡ name → IsStored w.store u → has_tag key (stored u w.store) ≡ false
  no_tag name u key none at there =
      let d = data_of u w.store there in
      let empty : d.0.tags ≡ [] = tags_declared name None u d.0 none at d.1 in
      ap (has_tag key) d.1 ∙ ap (λ (fs : Fields). is_some (field key fs)) empty

  tagged_is : (m n : Value) (u : Uid) (key : List ℕ) (f : Uid → List ℕ → Outcome) → m ≡ value.Entity u → n ≡ value.String key → tagged m n f ≡ f u key
  tagged_is m n u key f mu nk =
      ap (λ (o : Result Uid EvalError). o >>= λ v. as_text n >>= λ k. f v k) (as_entity-is w m u mu)
      ∙ ap (λ (o : Result (List ℕ) EvalError). o >>= λ k. f u k) (ap as_text nk ∙ ap text_in (out_String key))

  has_tag-is : (m n : Value) (u : Uid) (key : List ℕ) → m ≡ value.Entity u → n ≡ value.String key → evaluated.binary HasTag w m n ≡ of_bool (has_tag key (stored u w.store))
  has_tag-is m n u key mu nk = tagged_is m n u key (λ v k. of_bool (has_tag k (stored v w.store))) mu nk

  get_tag-is : (m n : Value) (u : Uid) (key : List ℕ) → m ≡ value.Entity u → n ≡ value.String key → evaluated.binary GetTag w m n ≡ tag_value key (stored u w.store)
  get_tag-is m n u key mu nk = tagged_is m n u key (λ v k. tag_value k (stored v w.store)) mu nk

  -- a tag that is known to be there is there
  known_tag : (known : Capabilities) (a b : Expr) (m n : Value) (u : Uid) (key : List ℕ) → is_known known (tag_of a b) ≡ true → AllHold w known → eval a w ≡ Ok m → eval b w ≡ Ok n → m ≡ value.Entity u → n ≡ value.String key
      → has_tag key (stored u w.store) ≡ true
  known_tag known a b m n u key k held at bt mu nk =
      is_true_value (has_tag key (stored u w.store)) (sym (has_tag-is m n u key mu nk) ∙ holds-tag w a b m n at bt (known_holds w known (tag_of a b) k held))

  -- what a test that is true gives
  given_holds : (a b : Expr) (type : Ty) (m n : Value) → eval a w ≡ Ok m → eval b w ≡ Ok n → evaluated.binary HasTag w m n ≡ Ok (value.Bool true) → AllHold w (given_tag a b type)
  given_holds a b type m n at bt h = given_by_test (AllHold w) (is_either type) (tag_of a b ∷ []) [] (λ e. (tag-holds w a b m n at bt h, tt)) (λ e. tt)

  has_tag_fits : (known : Capabilities) (a b : Expr) (m n : Value) (name : List ℕ) (u : Uid) (key : List ℕ) (o : Option Ty) → tags_of s name ≡ o → (k : Bool) → is_known known (tag_of a b) ≡ k → AllHold w known → eval a w ≡ Ok m → eval b w ≡ Ok n
      → IsEntityOf w name m u → n ≡ value.String key → Fits (ops.has_tag o k) (has_tag key (stored u w.store))
  has_tag_fits known a b m n name u key None none k kt held at bt h nk = subst (Fits types.False) (sym (no_tag name u key none h.named h.stored)) false_fits
  has_tag_fits known a b m n name u key (Some t) some true kt held at bt h nk = subst (Fits types.True) (sym (known_tag known a b m n u key kt held at bt h.entity nk)) true_fits
  has_tag_fits known a b m n name u key (Some t) some false kt held at bt h nk = bool_fits (has_tag key (stored u w.store))

  tag_test_sound : (known : Capabilities) (a b : Expr) (x y : TypedExpr) → IfOk (ops.tag_test s known a b x y) (BinarySound known HasTag a b x y)
  tag_test_sound known a b x y =
      through (AreTagged x y) (ops.tags s x y) _ (BinarySound known HasTag a b x y) (tags_found x y) λ o tagged m n at bt mt nt held.
      let p = entity_of w tagged.name (ty x) m tagged.named mt in
      let q = string_of w (ty y) n tagged.key nt in
      let type : Ty = ops.has_tag o (is_known known (tag_of a b)) in
      record {
        outcome = subst (OrOverflows (IsOf w type)) (sym (has_tag-is m n p.0 q.0 p.1.entity q.1))
            (of_Bool w type (has_tag q.0 (stored p.0 w.store)) (has_tag_fits known a b m n tagged.name p.0 q.0 o tagged.tags (is_known known (tag_of a b)) refl held at bt p.1 q.1));
        given = given_holds a b type m n at bt;
      }

  tag_there : (type : Ty) (u : Uid) (key : List ℕ) (d : EntityData) (o : Option Value) → stored u w.store ≡ Some d → AllByRecursion (λ (f : List ℕ × Value). IsTrue (conforms type f.1)) d.tags → field key d.tags ≡ o → is_some o ≡ true
      → OrOverflows (IsOf w type) (tag_or_missing o)
  tag_there type u key d (Some y) there typed at h =
      let named : EntryNamesStored w.store (u, d) = of_stored (EntryNamesStored w.store) u w.store d there well.closed.entries in
      record {
        conforming = of_field (λ z. IsTrue (conforms type z)) key d.tags y typed at;
        stored = of_field (NamesStored w.store) key d.tags y (every.every_fields (NamesStoredLevel w.store) d.tags named.tags) at;
      }
  tag_there type u key d None there typed at h = absurd cc

  tag_value_sound : (type : Ty) (name : List ℕ) (u : Uid) (key : List ℕ) → tags_of s name ≡ Some type → u.type_name ≡ name → IsStored w.store u → has_tag key (stored u w.store) ≡ true → OrOverflows (IsOf w type) (tag_value key (stored u w.store))
  tag_value_sound type name u key some at there has =
      let d = data_of u w.store there in
      let typed : AllByRecursion (λ (f : List ℕ × Value). IsTrue (conforms type f.1)) d.0.tags = tags_declared name (Some type) u d.0 some at d.1 in
      let it_is : is_some (field key d.0.tags) ≡ true = sym (ap (has_tag key) d.1) ∙ has in
      subst (λ (o : Option EntityData). OrOverflows (IsOf w type) (tag_value key o)) (sym d.1) (tag_there type u key d.0 (field key d.0.tags) d.1 typed refl it_is)

  get_tag_sound : (known : Capabilities) (place : Place) (a b : Expr) (x y : TypedExpr) (o : Option Ty) (k : Bool) → AreTagged x y o → is_known known (tag_of a b) ≡ k → IfOk (ops.get_tag place o k) (BinarySound known GetTag a b x y)
  get_tag_sound known place a b x y None k tagged kt = tt
  get_tag_sound known place a b x y (Some t) false tagged kt = tt
  get_tag_sound known place a b x y (Some t) true tagged kt = λ m n at bt mt nt held.
      let p = entity_of w tagged.name (ty x) m tagged.named mt in
      let q = string_of w (ty y) n tagged.key nt in
      record {
        outcome = subst (OrOverflows (IsOf w t)) (sym (get_tag-is m n p.0 q.0 p.1.entity q.1))
            (tag_value_sound t tagged.name p.0 q.0 tagged.tags p.1.named p.1.stored (known_tag known a b m n p.0 q.0 kt held at bt p.1.entity q.1));
        given = λ e. tt;
      }

  tag_read_sound : (known : Capabilities) (place : Place) (a b : Expr) (x y : TypedExpr) → IfOk (ops.tag_read s known place a b x y) (BinarySound known GetTag a b x y)
  tag_read_sound known place a b x y =
      through (AreTagged x y) (ops.tags s x y) _ (BinarySound known GetTag a b x y) (tags_found x y) λ o tagged. get_tag_sound known place a b x y o (is_known known (tag_of a b)) tagged refl

  -- ---- all operators

  pub binary_sound : (known : Capabilities) (place : Place) (operator : BinaryOperator) (a b : Expr) (x y : TypedExpr) → IfOk (ops.binary s known place operator a b x y) (BinarySound known operator a b x y)
  binary_sound known place Less a b x y = plain known Less a b x y (ops.longs x y types.Bool) (λ t. refl) (two_longs w x y types.Bool (λ i j. of_bool (int_lt i j)) (λ i j. any_bool w (int_lt i j)))
  binary_sound known place LessOrEqual a b x y = plain known LessOrEqual a b x y (ops.longs x y types.Bool) (λ t. refl) (two_longs w x y types.Bool (λ i j. of_bool (int_le i j)) (λ i j. any_bool w (int_le i j)))
  binary_sound known place Greater a b x y = plain known Greater a b x y (ops.longs x y types.Bool) (λ t. refl) (two_longs w x y types.Bool (λ i j. of_bool (int_lt j i)) (λ i j. any_bool w (int_lt j i)))
  binary_sound known place GreaterOrEqual a b x y = plain known GreaterOrEqual a b x y (ops.longs x y types.Bool) (λ t. refl) (two_longs w x y types.Bool (λ i j. of_bool (int_le j i)) (λ i j. any_bool w (int_le j i)))
  binary_sound known place Equal a b x y = equal_sound known place a b x y (literal_of a) (literal_of b) refl refl
  binary_sound known place In a b x y = plain known In a b x y (ops.within s x y) (λ t. refl) (two_in x y (ops.within s x y) (within_sound s env literals w lawful well x y))
  binary_sound known place Add a b x y = plain known Add a b x y (ops.longs x y types.Long) (λ t. refl) (two_longs w x y types.Long (λ i j. of_long (i +ℤ j)) (λ i j. any_long w (i +ℤ j)))
  binary_sound known place Subtract a b x y = plain known Subtract a b x y (ops.longs x y types.Long) (λ t. refl) (two_longs w x y types.Long (λ i j. of_long (i -ℤ j)) (λ i j. any_long w (i -ℤ j)))
  binary_sound known place Multiply a b x y = plain known Multiply a b x y (ops.longs x y types.Long) (λ t. refl) (two_longs w x y types.Long (λ i j. of_long (i *ℤ j)) (λ i j. any_long w (i *ℤ j)))
  binary_sound known place Contains a b x y = plain known Contains a b x y (ops.contained place x y) (λ t. refl) (two_contained w place x y)
  binary_sound known place ContainsAll a b x y = plain known ContainsAll a b x y (ops.sets place x y) (λ t. refl) (two_sets w place x y (λ xs ys. list_all (is_member xs) ys))
  binary_sound known place ContainsAny a b x y = plain known ContainsAny a b x y (ops.sets place x y) (λ t. refl) (two_sets w place x y (λ xs ys. list_any (is_member xs) ys))
  binary_sound known place HasTag a b x y = tag_test_sound known a b x y
  binary_sound known place GetTag a b x y = tag_read_sound known place a b x y
  binary_sound known place LessThan a b x y = plain known LessThan a b x y (ops.decimals x y) (λ t. refl) (two_decimals w x y int_lt)
  binary_sound known place LessThanOrEqual a b x y = plain known LessThanOrEqual a b x y (ops.decimals x y) (λ t. refl) (two_decimals w x y int_le)
  binary_sound known place GreaterThan a b x y = plain known GreaterThan a b x y (ops.decimals x y) (λ t. refl) (two_decimals w x y (λ i j. int_lt j i))
  binary_sound known place GreaterThanOrEqual a b x y = plain known GreaterThanOrEqual a b x y (ops.decimals x y) (λ t. refl) (two_decimals w x y (λ i j. int_le j i))
  binary_sound known place IsInRange a b x y = plain known IsInRange a b x y (ops.addresses x y) (λ t. refl) (two_addresses w x y is_in_range)
