-- Where a world and the constants of an expression are made of values, so is what the expression comes to.
use Rattle.std.proofs.Common.{◌≡◌, ℕ, ◌-◌, ◌^◌, ℤ, pos, negsuc, ◌≤ℤ◌, ◌+ℤ◌, ◌-ℤ◌, ◌*ℤ◌, neg_ℤ, int_le, List, [], ◌∷◌, ◌++◌, map, fold, Bool, true, false, if◌then◌else◌, Option, Some, None, Result, Ok, Err, IfOk, IfSome, All, FitsSigned, w64, refl, sym, ap, subst, arith}
use Rattle.std.specs.List.{AllByRecursion, flat_map}
use Rattle.std.specs.Map.{keys_of, values_of}
use Rattle.std.specs.BTreeMap.{is_at}
use Rattle.std.specs.Str.{IsUtf8, bytes_eq}
use Rattle.std.proofs.lemmas.Bool.{and_parts}
use Rattle.std.proofs.lemmas.Int.{ints}
use Rattle.std.proofs.lemmas.List.Elements.{All-from_recursion, recursion_from_All}
use Rattle.std.proofs.lemmas.Map.Entries.{All-lookup}
use Rattle.std.proofs.lemmas.Map.Views.{All-keys-insert_entry, All-values-insert_entry}
use Rattle.sc_lists.proofs.ListLaws.{all_of_elements, all_element, all_weaker}
use Rattle.sc_names.specs.declared.uid.Uid.{Uid}
use Rattle.sc_names.specs.Uids.{text_cmp, uid_cmp}
use Rattle.sc_decimal.specs.DecimalValue.{decimal_of}
use Rattle.sc_decimal.proofs.ValueLaws.{decimal_of_decides}
use Rattle.sc_ip.specs.declared.ip.Ip.{Ip}
use Rattle.sc_ip.specs.IpValue.{ip_of}
use Rattle.sc_ip.proofs.ValueLaws.{ip_of_decides}
use Rattle.sc_values.specs.declared.value.Value.{Value, Value-F, out-Value, roll-Value, roll-out-Value}
use Rattle.sc_values.specs.declared.value.Value.TheOpen as v
use Rattle.sc_values.specs.declared.value.Value.TheVariants as value
use Rattle.sc_values.specs.declared.value.Value.TheVariants.{rolls-Record}
use Rattle.sc_values.specs.Records.{Fields, field}
use Rattle.sc_values.specs.Proper.{IsProperLevel, IsProper, IsProperRecord}
use Rattle.sc_values.proofs.LevelLaws as level
use Rattle.sc_world.specs.declared.entity.EntityData.{EntityData}
use Rattle.sc_world.specs.declared.world.World.{World}
use Rattle.sc_world.specs.Stores.{stored}
use Rattle.sc_world.specs.WellFormed.{Entry, IsProperEntry, IsProperWorld}
use Rattle.sc_ast.specs.declared.expr.Expr.{Expr, Expr-F, roll-Expr, map-Expr, ind-Expr, fold-roll-Expr}
use Rattle.sc_ast.specs.declared.expr.Expr.TheOpen as e
use Rattle.sc_ast.specs.declared.expr.Variable.{Variable}
use Rattle.sc_ast.specs.declared.expr.Variable.TheVariants.{Principal, Action, Resource, Context}
use Rattle.sc_ast.specs.declared.operator.BinaryOperator.{BinaryOperator}
use Rattle.sc_ast.specs.declared.operator.BinaryOperator.TheVariants as two
use Rattle.sc_ast.specs.declared.operator.UnaryOperator.{UnaryOperator}
use Rattle.sc_ast.specs.declared.operator.UnaryOperator.TheVariants as one
use Rattle.sc_eval.specs.declared.error.EvalError.{EvalError}
use Rattle.sc_eval.specs.declared.error.EvalError.TheVariants.{Overflow}
use Rattle.sc_eval.specs.Outcomes.{Outcome, ◌>>=◌, as_bool, as_long, as_text, as_entity, as_set, as_decimal, as_address, decide, of_bool, fits, of_long, of_text}
use Rattle.sc_eval.specs.Entities.{or_missing, attr_of, access_in, access, has_path, tag_or_missing, tag_of, is_of, is_in}
use Rattle.sc_eval.specs.Collections.{members_of, set_value, with_field, fields_of, record_value}
use Rattle.sc_eval.specs.Operators.{binary, unary, is_like, variable_value}
use Rattle.sc_eval.specs.Eval.{Meaning, all_values, all_fields, eval_step, eval}
use Rattle.sc_eval.specs.Written.{constants_step, constants, HasProperConstants}
use Rattle.sc_eval.proofs.TestLaws.{le-decides}
use Rattle.sc_eval.proofs.AddressLaws.{text_is_ip}
use Rattle.sc_eval.specs.CollectionLaws.{members_of-set, fields_of-ascends}

abbrev IsProperOutcome : Outcome → Type 0
IsProperOutcome o = IfOk o IsProper

-- ---- what follows from what

follows : {A : Type 0} (r : Result A EvalError) (f : A → Outcome) → ((x : A) → r ≡ Ok x → IsProperOutcome (f x)) → IsProperOutcome (r >>= f)
follows (Ok x) f h = h x refl
follows (Err e) f h = tt

bool_is : (b : Bool) → IsProper (value.Bool b)
bool_is b = (level.in_Bool IsProperLevel b).1 tt

bools : (r : Result Bool EvalError) → IsProperOutcome (r >>= of_bool)
bools r = follows r of_bool (λ b is. bool_is b)

decides : (o : Outcome) (f : Bool → Outcome) → ((b : Bool) → IsProperOutcome (f b)) → IsProperOutcome (decide o f)
decides o f h = follows o (λ x. as_bool x >>= f) (λ x is. follows (as_bool x) f (λ b same. h b))

branch : (p : Bool) (x y : Outcome) → IsProperOutcome x → IsProperOutcome y → IsProperOutcome (if p then x else y)
branch true x y h k = h
branch false x y h k = k

-- ---- numbers, and what texts spell

fits_is : (n : ℤ) → fits n ≡ true → FitsSigned w64 n
fits_is (pos n) h =
    let parts = and_parts (int_le (negsuc (2 ^ 63 - 1)) (pos n)) (int_le (pos n) (pos (2 ^ 63 - 1))) h in
    let high : pos n ≤ℤ pos (2 ^ 63 - 1) = (le-decides (pos n) (pos (2 ^ 63 - 1))).0 parts.1 in
    record { sfits = grind (arith, ints) }
fits_is (negsuc n) h =
    let parts = and_parts (int_le (negsuc (2 ^ 63 - 1)) (negsuc n)) (int_le (negsuc n) (pos (2 ^ 63 - 1))) h in
    let low : negsuc (2 ^ 63 - 1) ≤ℤ negsuc n = (le-decides (negsuc (2 ^ 63 - 1)) (negsuc n)).0 parts.0 in
    record { sfits = grind (arith, ints) }

long_on : (b : Bool) (n : ℤ) → fits n ≡ b → IsProperOutcome (if b then Ok (value.Long n) else Err Overflow)
long_on true n h = (level.in_Long IsProperLevel n).1 (fits_is n h)
long_on false n h = tt

long_is : (n : ℤ) → IsProperOutcome (of_long n)
long_is n = long_on (fits n) n refl

decimal_is : (text : List ℕ) (o : Option ℤ) → decimal_of text ≡ o → IsProperOutcome (of_text value.Decimal o)
decimal_is text None h = tt
decimal_is text (Some z) h = (level.in_Decimal IsProperLevel z).1 ((decimal_of_decides text z).0 h).in_range

ip_is : (text : List ℕ) (o : Option Ip) → ip_of text ≡ o → IsProperOutcome (of_text value.Ip o)
ip_is text None h = tt
ip_is text (Some a) h = (level.in_Ip IsProperLevel a).1 (text_is_ip text a ((ip_of_decides text a).0 h))

-- ---- fields

field_is : (name : List ℕ) (fields : Fields) (z : Value) → AllByRecursion (λ (f : List ℕ × Value). IsProper f.1) fields → field name fields ≡ Some z → IsProper z
field_is name fields z h is = subst (λ (o : Option Value). IfSome o IsProper) is (All-lookup IsProper (bytes_eq name) fields (All-from_recursion (λ (f : List ℕ × Value). IsProper f.1) fields h))

in_record : (name : List ℕ) (fields : Fields) (z : Value) → IsProperRecord fields → field name fields ≡ Some z → IsProper z
in_record name fields z h is = field_is name fields z ((level.in_Record IsProperLevel fields).0 h).1 is

there : (o : Option Value) → ((z : Value) → o ≡ Some z → IsProper z) → IsProperOutcome (or_missing o)
there None h = tt
there (Some z) h = h z refl

tag_there : (o : Option Value) → ((z : Value) → o ≡ Some z → IsProper z) → IsProperOutcome (tag_or_missing o)
tag_there None h = tt
tag_there (Some z) h = h z refl

-- ---- lists

all_parts : (xs ys : List Value) → AllByRecursion IsProper (xs ++ ys) → AllByRecursion IsProper xs × AllByRecursion IsProper ys
all_parts [] ys h = (tt, h)
all_parts (x ∷ xs) ys h = let rest = all_parts xs ys h.1 in ((h.0, rest.0), rest.1)

values_on : (o : Outcome) (r : Result (List Value) EvalError) (ys : List Value) → IsProperOutcome o → ((zs : List Value) → r ≡ Ok zs → AllByRecursion IsProper zs)
    → (o >>= λ x. r >>= λ zs. Ok (x ∷ zs)) ≡ Ok ys → AllByRecursion IsProper ys
values_on (Err e) r ys h rest is = absurd cc
values_on (Ok x) (Err e) ys h rest is = absurd cc
values_on (Ok x) (Ok zs) ys h rest is = let same : x ∷ zs ≡ ys = cc in subst (AllByRecursion IsProper) same (h, rest zs refl)

set_is_proper : (ys : List Value) → AllByRecursion IsProper ys → IsProper (set_value ys)
set_is_proper ys h =
    let set = members_of-set ys in
    (level.in_Set IsProperLevel (members_of ys)).1 (set.ascending, all_of_elements IsProper (members_of ys) (λ x has. all_element IsProper ys x h ((set.just x).0 has)))

abbrev IsProperField : List ℕ × Value → Type 0
IsProperField f = IsUtf8 f.0 × IsProper f.1

fields_on : (name : List ℕ) (o : Outcome) (r : Result Fields EvalError) (gs : Fields) → IsUtf8 name → IsProperOutcome o → ((hs : Fields) → r ≡ Ok hs → AllByRecursion IsProperField hs)
    → (o >>= λ x. r >>= λ hs. Ok ((name, x) ∷ hs)) ≡ Ok gs → AllByRecursion IsProperField gs
fields_on name (Err e) r gs text h rest is = absurd cc
fields_on name (Ok x) (Err e) gs text h rest is = absurd cc
fields_on name (Ok x) (Ok hs) gs text h rest is = let same : (name, x) ∷ hs ≡ gs = cc in subst (AllByRecursion IsProperField) same ((text, h), rest hs refl)

names_are : (so_far pairs : Fields) → All IsUtf8 (keys_of so_far) → AllByRecursion IsProperField pairs → All IsUtf8 (keys_of (fold with_field so_far pairs))
names_are so_far [] h more = h
names_are so_far (f ∷ fs) h more = names_are (with_field so_far f) fs (All-keys-insert_entry text_cmp f.0 f.1 IsUtf8 so_far h more.0.0) more.1

held_are : (so_far pairs : Fields) → All IsProper (values_of so_far) → AllByRecursion IsProperField pairs → All IsProper (values_of (fold with_field so_far pairs))
held_are so_far [] h more = h
held_are so_far (f ∷ fs) h more = held_are (with_field so_far f) fs (All-values-insert_entry text_cmp f.0 f.1 IsProper so_far h more.0.1) more.1

each_field : (fields : Fields) → AllByRecursion IsProper (values_of fields) → AllByRecursion (λ (f : List ℕ × Value). IsProper f.1) fields
each_field [] h = tt
each_field (f ∷ fields) h = (h.0, each_field fields h.1)

record_is_proper : (gs : Fields) → AllByRecursion IsProperField gs → IsProper (record_value gs)
record_is_proper gs h =
    let names = recursion_from_All IsUtf8 (keys_of (fields_of gs)) (names_are [] gs (All-from_recursion IsUtf8 [] tt) h) in
    let held = recursion_from_All IsProper (values_of (fields_of gs)) (held_are [] gs (All-from_recursion IsProper [] tt) h) in
    (level.in_Record IsProperLevel (fields_of gs)).1 ((fields_of-ascends gs, names), each_field (fields_of gs) held)

module _ (w : World) (world : IsProperWorld w) where
  abbrev IsMade : EntityData → Type 0
  IsMade d = IsProperRecord d.attrs × IsProperRecord d.tags

  entry_is : (u : Uid) (d : EntityData) → stored u w.store ≡ Some d → IsMade d
  unfolding stored
  entry_is u d is =
      let made = all_weaker IsProperEntry (λ (x : Entry). IsMade x.1) (λ x h. (h.attrs, h.tags)) w.store world.entries in
      subst (λ (o : Option EntityData). IfSome o IsMade) is (All-lookup IsMade (is_at (uid_cmp u)) w.store (All-from_recursion (λ (x : Entry). IsMade x.1) w.store made))

  attr_is : (name : List ℕ) (u : Uid) (o : Option EntityData) → stored u w.store ≡ o → IsProperOutcome (attr_of name o)
  attr_is name u None is = tt
  attr_is name u (Some d) is = there (field name d.attrs) (λ z found. in_record name d.attrs z (entry_is u d is).0 found)

  tag_is : (key : List ℕ) (u : Uid) (o : Option EntityData) → stored u w.store ≡ o → IsProperOutcome (tag_of key o)
  tag_is key u None is = tt
  tag_is key u (Some d) is = tag_there (field key d.tags) (λ z found. in_record key d.tags z (entry_is u d is).1 found)

  access_at : (name : List ℕ) (x : Value-F Value) → IsProper (roll-Value x) → IsProperOutcome (access_in name w x)
  access_at name (v.Bool b) h = tt
  access_at name (v.Long n) h = tt
  access_at name (v.String text) h = tt
  access_at name (v.Entity u) h = attr_is name u (stored u w.store) refl
  access_at name (v.Set members) h = tt
  access_at name (v.Record fields) h = there (field name fields) (λ z found. in_record name fields z (subst IsProper (rolls-Record fields) h) found)
  access_at name (v.Decimal n) h = tt
  access_at name (v.Ip a) h = tt

  access_is : (name : List ℕ) (x : Value) → IsProper x → IsProperOutcome (access name w x)
  access_is name x h = access_at name (out-Value x) (subst IsProper (sym (roll-out-Value x)) h)

  -- ---- operators

  binary_is : (operator : BinaryOperator) (x y : Value) → IsProperOutcome (binary operator w x y)
  binary_is two.Less x y = follows (as_long x) _ (λ m i. follows (as_long y) _ (λ n j. bool_is _))
  binary_is two.LessOrEqual x y = follows (as_long x) _ (λ m i. follows (as_long y) _ (λ n j. bool_is _))
  binary_is two.Greater x y = follows (as_long x) _ (λ m i. follows (as_long y) _ (λ n j. bool_is _))
  binary_is two.GreaterOrEqual x y = follows (as_long x) _ (λ m i. follows (as_long y) _ (λ n j. bool_is _))
  binary_is two.Equal x y = bool_is _
  binary_is two.In x y = bools (is_in w x y)
  binary_is two.Add x y = follows (as_long x) _ (λ m i. follows (as_long y) _ (λ n j. long_is (m +ℤ n)))
  binary_is two.Subtract x y = follows (as_long x) _ (λ m i. follows (as_long y) _ (λ n j. long_is (m -ℤ n)))
  binary_is two.Multiply x y = follows (as_long x) _ (λ m i. follows (as_long y) _ (λ n j. long_is (m *ℤ n)))
  binary_is two.Contains x y = follows (as_set x) _ (λ s i. bool_is _)
  binary_is two.ContainsAll x y = follows (as_set x) _ (λ s i. follows (as_set y) _ (λ t j. bool_is _))
  binary_is two.ContainsAny x y = follows (as_set x) _ (λ s i. follows (as_set y) _ (λ t j. bool_is _))
  binary_is two.HasTag x y = follows (as_entity x) _ (λ u i. follows (as_text y) _ (λ key j. bool_is _))
  binary_is two.GetTag x y = follows (as_entity x) _ (λ u i. follows (as_text y) _ (λ key j. tag_is key u (stored u w.store) refl))
  binary_is two.LessThan x y = follows (as_decimal x) _ (λ m i. follows (as_decimal y) _ (λ n j. bool_is _))
  binary_is two.LessThanOrEqual x y = follows (as_decimal x) _ (λ m i. follows (as_decimal y) _ (λ n j. bool_is _))
  binary_is two.GreaterThan x y = follows (as_decimal x) _ (λ m i. follows (as_decimal y) _ (λ n j. bool_is _))
  binary_is two.GreaterThanOrEqual x y = follows (as_decimal x) _ (λ m i. follows (as_decimal y) _ (λ n j. bool_is _))
  binary_is two.IsInRange x y = follows (as_address x) _ (λ a i. follows (as_address y) _ (λ b j. bool_is _))

  unary_is : (operator : UnaryOperator) (x : Value) → IsProperOutcome (unary operator x)
  unary_is one.Not x = follows (as_bool x) _ (λ b i. bool_is _)
  unary_is one.Negate x = follows (as_long x) _ (λ n i. long_is (neg_ℤ n))
  unary_is one.IsEmpty x = follows (as_set x) _ (λ s i. bool_is _)
  unary_is one.IsIpv4 x = follows (as_address x) _ (λ a i. bool_is _)
  unary_is one.IsIpv6 x = follows (as_address x) _ (λ a i. bool_is _)
  unary_is one.IsLoopback x = follows (as_address x) _ (λ a i. bool_is _)
  unary_is one.IsMulticast x = follows (as_address x) _ (λ a i. bool_is _)
  unary_is one.Decimal x = follows (as_text x) _ (λ text i. decimal_is text (decimal_of text) refl)
  unary_is one.Ip x = follows (as_text x) _ (λ text i. ip_is text (ip_of text) refl)

  variable_is : (x : Variable) → IsProper (variable_value x w.request)
  variable_is Principal = (level.in_Entity IsProperLevel w.request.principal).1 world.principal
  variable_is Action = (level.in_Entity IsProperLevel w.request.action).1 world.action
  variable_is Resource = (level.in_Entity IsProperLevel w.request.resource).1 world.resource
  variable_is Context = world.context

  -- ---- all expressions

  abbrev Goal : Expr → Type 0
  Goal x = HasProperConstants x → IsProperOutcome (eval x w)

  abbrev Known : Type 0
  Known = (x : Expr) × Goal x

  abbrev forget : Expr-F Known → Expr-F Expr
  forget = map-Expr Known Expr (λ k. k.0)

  values_are : (ks : List Known) (ys : List Value) → AllByRecursion IsProper (flat_map (λ (m : List Value). m) (map constants (map (λ (k : Known). k.0) ks)))
      → all_values (map eval (map (λ (k : Known). k.0) ks)) w ≡ Ok ys → AllByRecursion IsProper ys
  values_are [] ys h is = let same : [] ≡ ys = cc in subst (AllByRecursion IsProper) same tt
  values_are (k ∷ ks) ys h is =
      let parts = all_parts (constants k.0) _ h in
      values_on (eval k.0 w) (all_values (map eval (map (λ (z : Known). z.0) ks)) w) ys (k.1 parts.0) (λ zs. values_are ks zs parts.1) is

  abbrev fields : List (List ℕ × Known) → List (List ℕ × Expr)
  fields ks = map (λ (f : List ℕ × Known). (f.0, f.1.0)) ks

  abbrev meanings : List (List ℕ × Expr) → List (List ℕ × Meaning)
  meanings fs = map (λ (f : List ℕ × Expr). (f.0, eval f.1)) fs

  abbrev written : List (List ℕ × Expr) → List (List ℕ × List Value)
  written fs = map (λ (f : List ℕ × Expr). (f.0, constants f.1)) fs

  fields_are : (ks : List (List ℕ × Known)) (gs : Fields) → AllByRecursion IsProper (flat_map (λ (f : List ℕ × List Value). value.String f.0 ∷ f.1) (written (fields ks)))
      → all_fields (meanings (fields ks)) w ≡ Ok gs → AllByRecursion IsProperField gs
  fields_are [] gs h is = let same : [] ≡ gs = cc in subst (AllByRecursion IsProperField) same tt
  fields_are (k ∷ ks) gs h is =
      let parts = all_parts (constants k.1.0) _ h.1 in
      fields_on k.0 (eval k.1.0 w) (all_fields (meanings (fields ks)) w) gs ((level.in_String IsProperLevel k.0).0 h.0) (k.1.1 parts.0) (λ hs. fields_are ks hs parts.1) is

  row : (y : Expr-F Known) → AllByRecursion IsProper (constants_step (map-Expr Expr (List Value) constants (forget y))) → IsProperOutcome (eval_step (map-Expr Expr Meaning eval (forget y)) w)
  row (e.If place c a b) h =
      let first = all_parts (constants c.0) _ h in let rest = all_parts (constants a.0) _ first.1 in
      decides (eval c.0 w) (λ p. if p then eval a.0 w else eval b.0 w) (λ p. branch p (eval a.0 w) (eval b.0 w) (a.1 rest.0) (b.1 rest.1))
  row (e.Or place a b) h =
      decides (eval a.0 w) (λ p. if p then of_bool true else decide (eval b.0 w) of_bool)
      (λ p. branch p (of_bool true) (decide (eval b.0 w) of_bool) (bool_is true) (decides (eval b.0 w) of_bool bool_is))
  row (e.And place a b) h =
      decides (eval a.0 w) (λ p. if p then decide (eval b.0 w) of_bool else of_bool false)
      (λ p. branch p (decide (eval b.0 w) of_bool) (of_bool false) (decides (eval b.0 w) of_bool bool_is) (bool_is false))
  row (e.Binary place operator a b) h =
      follows (eval a.0 w) (λ x. eval b.0 w >>= λ y. binary operator w x y) (λ x i. follows (eval b.0 w) (λ y. binary operator w x y) (λ y j. binary_is operator x y))
  row (e.Has place a names) h = bools (eval a.0 w >>= has_path names w)
  row (e.Like place a pattern) h = bools (eval a.0 w >>= is_like pattern)
  row (e.Is place a t) h = bools (eval a.0 w >>= is_of t.name)
  row (e.IsIn place a t in_place b) h =
      follows (eval a.0 w) (λ x. is_of t.name x >>= λ p. if p then (eval b.0 w >>= is_in w x >>= of_bool) else of_bool false)
      (λ x i. follows (is_of t.name x) (λ p. if p then (eval b.0 w >>= is_in w x >>= of_bool) else of_bool false)
      (λ p j. branch p (eval b.0 w >>= is_in w x >>= of_bool) (of_bool false) (bools (eval b.0 w >>= is_in w x)) (bool_is false)))
  row (e.Unary place operator a) h = follows (eval a.0 w) (unary operator) (λ x i. unary_is operator x)
  row (e.Access place a name) h = follows (eval a.0 w) (access name w) (λ x i. access_is name x (subst IsProperOutcome i (a.1 h)))
  row (e.Literal place l) h = h.0
  row (e.Variable place x) h = variable_is x
  row (e.Set place ks) h =
      follows (all_values (map eval (map (λ (k : Known). k.0) ks)) w) (λ (ys : List Value). Ok (set_value ys)) (λ ys i. set_is_proper ys (values_are ks ys h i))
  row (e.Record place ks) h =
      follows (all_fields (meanings (fields ks)) w) (λ (gs : Fields). Ok (record_value gs)) (λ gs i. record_is_proper gs (fields_are ks gs h i))

  inner : (y : Expr-F Known) → Goal (roll-Expr (forget y))
  unfolding constants eval
  inner y h =
      subst IsProperOutcome (sym (ap (λ f. f w) (fold-roll-Expr Meaning eval_step (forget y))))
      (row y (subst (AllByRecursion IsProper) (fold-roll-Expr (List Value) constants_step (forget y)) h))

  pub eval-proper : (x : Expr) → Goal x
  eval-proper = ind-Expr Goal (λ x y at. subst (λ z. Goal (roll-Expr z)) at (inner y))
