-- `==`: what it is compiled to agrees with whether two values are one.
use Rattle.std.proofs.Common.{◌≡◌, ℕ, List, Bool, true, false, None, Ok, IsTrue, refl, ap, sym, subst, ◌∙◌}
use Rattle.std.proofs.lemmas.Bool.{false_from_ne_true}
use Rattle.std.specs.Str.{bytes_eq}
use Rattle.std.proofs.lemmas.Slice.Eq.{bytes_eq-Decides}
use Rattle.sc_laws.proofs.BoolLaws.{and_first}
use Rattle.sc_ast.specs.declared.literal.Literal.{Literal}
use Rattle.sc_ast.specs.declared.literal.Literal.TheVariants as literal
use Rattle.sc_schema.specs.declared.ty.Ty.{Ty, Ty-F, out-Ty}
use Rattle.sc_schema.specs.declared.ty.Ty.TheOpen as t
use Rattle.sc_schema.specs.declared.ty.EntityKind.{EntityKind}
use Rattle.sc_schema.specs.Declarations.{Declarations}
use Rattle.sc_values.specs.declared.value.Value.{Value, Value-F, out-Value}
use Rattle.sc_values.specs.declared.value.Value.TheOpen as v
use Rattle.sc_values.proofs.OutLaws.{out_Bool, out_Long, out_String, out_Entity}
use Rattle.sc_world.specs.declared.world.World.{World}
use Rattle.sc_world.specs.Choices.{is_choice}
use Rattle.sc_world.specs.Conforms.{Test, Shape, is_truth}
use Rattle.sc_world.specs.Conforms as conform
use Rattle.sc_eval.specs.Outcomes.{Outcome, ◌>>=◌, of_bool}
use Rattle.sc_eval.specs.Collections.{is_same}
use Rattle.sc_eval.specs.Operators.{literal_value}
use Rattle.sc_eval.specs.CollectionLaws.{is_same-decides}
use Rattle.sc_typed.specs.Types.{is_boolean, is_boolean_in}
use Rattle.sc_sorts.specs.declared.sort.Sort.{Sort}
use Rattle.sc_sorts.specs.declared.sort.Sort.TheVariants as sort
use Rattle.sc_sorts.specs.Entities.{entity_sort}
use Rattle.sc_terms.specs.TreeSorts.{tree_sort}
use Rattle.sc_terms.specs.Folds.{equal_term}
use Rattle.sc_terms.specs.Values.{it, yes, val, bool_seen, equal_value}
use Rattle.sc_terms.proofs.FoldValues.{truth_is}
use Rattle.sc_terms.proofs.EqualValues.{equal_is, equal_bools, equal_others}
use Rattle.sc_term_laws.proofs.TestLaws.{same_sorts, same_told}
use Rattle.sc_soundness_laws.specs.Sound.{IsOf, OrOverflows}
use Rattle.sc_soundness_laws.proofs.ValueLaws.{boolean, fits, conforms-out}
use Rattle.sc_constructs.specs.Code.{Code, same_sort, only_where, equal_code}
use Rattle.sc_symeval.specs.Agreement.{Agrees}
use Rattle.sc_symeval_laws.specs.TypeSorts.{sort_in}
use Rattle.sc_symeval_laws.proofs.AgreeLaws.{both_agree}
use Rattle.sc_symeval_laws.proofs.TypeSortLaws.{step, sort_out, same_truths}

-- ---- sorts that are one

sorts_one : (k l : Sort) → same_sort k l ≡ true → k ≡ l
unfolding same_sort
sorts_one k l h = same_sorts k l h

pub sorts_told : (k l : Sort) → k ≡ l → same_sort k l ≡ true
unfolding same_sort
sorts_told k l h = same_told k l h

-- ---- values that are no truth values

long_unseen : (z : Value-F Value) → IsTrue (conform.is_long z) → bool_seen z ≡ None
long_unseen (v.Bool b) h = absurd cc
long_unseen (v.Long n) h = refl
long_unseen _ h = absurd cc

string_unseen : (z : Value-F Value) → IsTrue (conform.is_string z) → bool_seen z ≡ None
string_unseen (v.Bool b) h = absurd cc
string_unseen (v.String n) h = refl
string_unseen _ h = absurd cc

decimal_unseen : (z : Value-F Value) → IsTrue (conform.is_decimal z) → bool_seen z ≡ None
decimal_unseen (v.Decimal n) h = refl
decimal_unseen _ h = absurd cc

ip_unseen : (z : Value-F Value) → IsTrue (conform.is_ip z) → bool_seen z ≡ None
ip_unseen (v.Ip n) h = refl
ip_unseen _ h = absurd cc

entity_unseen : (kind : EntityKind) (z : Value-F Value) → IsTrue (conform.is_entity_of kind z) → bool_seen z ≡ None
entity_unseen kind (v.Entity u) h = refl
entity_unseen kind _ h = absurd cc

set_unseen : (test : Test) (z : Value-F Value) → IsTrue (conform.is_set_of test z) → bool_seen z ≡ None
set_unseen test (v.Set xs) h = refl
set_unseen test _ h = absurd cc

record_unseen : (shape : Shape) (z : Value-F Value) → IsTrue (conform.is_record_of shape z) → bool_seen z ≡ None
record_unseen shape (v.Record fs) h = refl
record_unseen shape _ h = absurd cc

unseen_at : (y : Ty-F Ty) (x : Value) → is_boolean_in y ≡ false → IsTrue (fits y x) → bool_seen (out-Value x) ≡ None
unseen_at t.True x e h = absurd cc
unseen_at t.False x e h = absurd cc
unseen_at t.Bool x e h = absurd cc
unseen_at t.Long x e h = long_unseen (out-Value x) h
unseen_at t.String x e h = string_unseen (out-Value x) h
unseen_at t.Decimal x e h = decimal_unseen (out-Value x) h
unseen_at t.Ip x e h = ip_unseen (out-Value x) h
unseen_at (t.Entity kind) x e h = entity_unseen kind (out-Value x) h
unseen_at (t.Set m) x e h = set_unseen _ (out-Value x) h
unseen_at (t.Record fields) x e h = record_unseen _ (out-Value x) h

-- ---- values whose sort can be told

-- a truth value, a number, a text or an entity
abbrev pub is_plain : Value-F Value → Bool
is_plain (v.Bool b) = true
is_plain (v.Long n) = true
is_plain (v.String text) = true
is_plain (v.Entity u) = true
is_plain _ = false

pub literal_plain : (l : Literal) → is_plain (out-Value (literal_value l)) ≡ true
literal_plain (literal.Bool b) = ap is_plain (out_Bool b)
literal_plain (literal.Long n) = ap is_plain (out_Long n)
literal_plain (literal.String text) = ap is_plain (out_String text)
literal_plain (literal.Entity u) = ap is_plain (out_Entity u)

module _ (s : Declarations) where
  abbrev told_sort : Value-F Value → Sort
  told_sort (v.Bool b) = sort.Bool
  told_sort (v.Long n) = sort.Long
  told_sort (v.String text) = sort.String
  told_sort (v.Entity u) = entity_sort s u.type_name
  told_sort _ = sort.Bool

  truth_told : (p : Bool) (z : Value-F Value) → IsTrue (is_truth p z) → sort.Bool ≡ told_sort z
  truth_told true (v.Bool b) h = refl
  truth_told false (v.Bool b) h = refl
  truth_told true _ h = absurd cc
  truth_told false _ h = absurd cc

  bool_told : (z : Value-F Value) → IsTrue (conform.is_bool z) → sort.Bool ≡ told_sort z
  bool_told (v.Bool b) h = refl
  bool_told _ h = absurd cc

  long_told : (z : Value-F Value) → IsTrue (conform.is_long z) → sort.Long ≡ told_sort z
  long_told (v.Long n) h = refl
  long_told _ h = absurd cc

  string_told : (z : Value-F Value) → IsTrue (conform.is_string z) → sort.String ≡ told_sort z
  string_told (v.String n) h = refl
  string_told _ h = absurd cc

  entity_told : (kind : EntityKind) (z : Value-F Value) → IsTrue (conform.is_entity_of kind z) → entity_sort s kind.name ≡ told_sort z
  entity_told kind (v.Entity u) h =
      ap (entity_sort s) (sym ((bytes_eq-Decides u.type_name kind.name).0 (and_first (bytes_eq u.type_name kind.name) (is_choice kind.choices u.id) h)))
  entity_told kind _ h = absurd cc

  no_decimal : (Q : Type 0) (z : Value-F Value) → IsTrue (conform.is_decimal z) → is_plain z ≡ true → Q
  no_decimal Q (v.Decimal n) h p = absurd cc
  no_decimal Q _ h p = absurd cc

  no_ip : (Q : Type 0) (z : Value-F Value) → IsTrue (conform.is_ip z) → is_plain z ≡ true → Q
  no_ip Q (v.Ip n) h p = absurd cc
  no_ip Q _ h p = absurd cc

  no_set : (Q : Type 0) (test : Test) (z : Value-F Value) → IsTrue (conform.is_set_of test z) → is_plain z ≡ true → Q
  no_set Q test (v.Set xs) h p = absurd cc
  no_set Q test _ h p = absurd cc

  no_record : (Q : Type 0) (shape : Shape) (z : Value-F Value) → IsTrue (conform.is_record_of shape z) → is_plain z ≡ true → Q
  no_record Q shape (v.Record fs) h p = absurd cc
  no_record Q shape _ h p = absurd cc

  sort_told : (y : Ty-F Ty) (x : Value) → IsTrue (fits y x) → is_plain (out-Value x) ≡ true → step s y ≡ told_sort (out-Value x)
  sort_told t.True x h p = truth_told true (out-Value x) h
  sort_told t.False x h p = truth_told false (out-Value x) h
  sort_told t.Bool x h p = bool_told (out-Value x) h
  sort_told t.Long x h p = long_told (out-Value x) h
  sort_told t.String x h p = string_told (out-Value x) h
  sort_told t.Decimal x h p = no_decimal _ (out-Value x) h p
  sort_told t.Ip x h p = no_ip _ (out-Value x) h p
  sort_told (t.Entity kind) x h p = entity_told kind (out-Value x) h
  sort_told (t.Set m) x h p = no_set _ _ (out-Value x) h p
  sort_told (t.Record fields) x h p = no_record _ _ (out-Value x) h p

  module _ (w : World) where
    sort_of_value : (type : Ty) (x : Value) → IsOf w type x → is_plain (out-Value x) ≡ true → sort_in s type ≡ told_sort (out-Value x)
    sort_of_value type x h p = sort_out s type ∙ sort_told (out-Ty type) x (sym (conforms-out type x) ∙ h.conforming) p

    -- of values of types of two sorts, one of which is plain, none is the other
    pub plain_differ : (a b : Ty) (x y : Value) → IsOf w a x → IsOf w b y → is_plain (out-Value x) ≡ true → same_sort (sort_in s a) (sort_in s b) ≡ false → is_same x y ≡ false
    plain_differ a b x y h k p apart = false_from_ne_true (is_same x y) λ same.
        let one : x ≡ y = (is_same-decides x y).0 same in
        let sorts : sort_in s a ≡ sort_in s b =
        sort_of_value a x h p ∙ ap (λ (z : Value). told_sort (out-Value z)) one ∙ sym (sort_of_value b y k (subst (λ (z : Value). is_plain (out-Value z) ≡ true) one p)) in
        let clash : true ≡ false = sym (sorts_told _ _ sorts) ∙ apart in
        cc

    -- values of types of one sort
    equal_val : (a b : Ty) (x y : Value) → IsOf w a x → IsOf w b y → sort_in s a ≡ sort_in s b → equal_value (it x) (it y) ≡ yes (is_same x y)
    equal_val a b x y h k sorts = by (is_boolean a) refl
      where
        by : (c : Bool) → is_boolean a ≡ c → equal_value (it x) (it y) ≡ yes (is_same x y)
        by true e =
            let p = boolean a x e h.conforming in
            let q = boolean b y (sym (same_truths s a b sorts) ∙ e) k.conforming in
            let both = equal_bools p.0 q.0 in
            (λ i. equal_value (it (p.1 i)) (it (q.1 i))) ∙ both ∙ (λ i. yes (is_same (sym p.1 i) (sym q.1 i)))
        by false e =
            equal_others (it x) (it y) (unseen_at (out-Ty a) x e (sym (conforms-out a x) ∙ h.conforming))
            (unseen_at (out-Ty b) y (sym (same_truths s a b sorts) ∙ e) (sym (conforms-out b y) ∙ k.conforming))

    module _ (a b : Ty) (c d : Code) (o p : Outcome) (h : Agrees w c o) (k : Agrees w d p) (first : tree_sort c.val ≡ sort_in s a) (second : tree_sort d.val ≡ sort_in s b) (left : OrOverflows (IsOf w a) o)
        (right : OrOverflows (IsOf w b) p) where
      of_value : (type : Ty) (r : Outcome) (x : Value) → OrOverflows (IsOf w type) r → r ≡ Ok x → IsOf w type x
      of_value type r x g is = subst (OrOverflows (IsOf w type)) is g

      -- where the sorts are two, the values differ
      pub equal_agrees : ((x y : Value) → o ≡ Ok x → p ≡ Ok y → IsOf w a x → IsOf w b y → same_sort (sort_in s a) (sort_in s b) ≡ false → is_same x y ≡ false)
          → Agrees w (equal_code c d) (o >>= λ x. p >>= λ y. of_bool (is_same x y))
      equal_agrees differ = both_agree w c d _ o p (λ x y. of_bool (is_same x y)) h k λ x y e f i j.
          (refl, by (same_sort (tree_sort c.val) (tree_sort d.val)) refl x y e f i j)
        where
          by : (r : Bool) → same_sort (tree_sort c.val) (tree_sort d.val) ≡ r → (x y : Value) → o ≡ Ok x → p ≡ Ok y → val c.val w ≡ it x → val d.val w ≡ it y → val (only_where r (equal_term c.val d.val)) w ≡ yes (is_same x y)
          by true same x y e f i j =
              let sorts : sort_in s a ≡ sort_in s b = sym first ∙ sorts_one _ _ same ∙ second in
              equal_is c.val d.val w ∙ (λ l. equal_value (i l) (j l)) ∙ equal_val a b x y (of_value a o x left e) (of_value b p y right f) sorts
          by false same x y e f i j =
              let apart : same_sort (sort_in s a) (sort_in s b) ≡ false = (λ l. same_sort (sym first l) (sym second l)) ∙ same in
              truth_is false w ∙ ap yes (sym (differ x y e f (of_value a o x left e) (of_value b p y right f) apart))
