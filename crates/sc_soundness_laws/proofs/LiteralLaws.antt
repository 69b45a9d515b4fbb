-- Uids and literals that are equal, as values.
use Rattle.std.proofs.Common.{◌≡◌, ◌↔◌, Bool, true, false, IsTrue, Equal, is_eq, refl, sym, ap, subst, ◌∙◌}
use Rattle.std.proofs.lemmas.Cmp.{tied_itself}
use Rattle.std.specs.Cmp.Lexicographic.{texts_ties}
use Rattle.sc_laws.proofs.BoolLaws.{same_truth as one_truth}
use Rattle.sc_lists.proofs.OrderingLaws.{is_eq_true}
use Rattle.sc_ast.specs.declared.literal.Literal.{Literal}
use Rattle.sc_ast.specs.declared.literal.Literal.TheVariants as literal
use Rattle.sc_names.specs.declared.uid.Uid.{Uid}
use Rattle.sc_names.specs.Uids.{uid_cmp}
use Rattle.sc_names.proofs.UidLaws.{uid_cmp_total, uid_cmp_level}
use Rattle.sc_schema.specs.Declarations.{uid_eq}
use Rattle.sc_schema.proofs.PlaceLaws.{uid_eq-Decides}
use Rattle.sc_values.specs.declared.value.Value.{Value, Value-F, out-Value}
use Rattle.sc_values.specs.declared.value.Value.TheOpen as v
use Rattle.sc_values.specs.Order.{by_kind}
use Rattle.sc_values.proofs.OrderLaws.{value_cmp_by_kind}
use Rattle.sc_values.proofs.OutLaws.{out_Bool, out_Long, out_String, out_Entity}
use Rattle.sc_eval.specs.Entities.{same_uid}
use Rattle.sc_eval.specs.Collections.{is_same}
use Rattle.sc_eval.specs.Operators.{literal_value}
use Rattle.sc_typed.specs.Literals.{same_truth, same_literal}

-- ---- uids

uid-decides : (a b : Uid) → IsTrue (is_eq (uid_cmp a b)) ↔ a ≡ b
uid-decides a b = (
  λ h. uid_cmp_level a b (is_eq_true (uid_cmp a b) h),
  λ is. ap is_eq (subst (λ (c : Uid). uid_cmp a c ≡ Equal) is (tied_itself uid_cmp_total a)),
)

pub same_uid-decides : (a b : Uid) → IsTrue (same_uid a b) ↔ a ≡ b
same_uid-decides a b = uid-decides a b

-- the two tests of uids are one
pub same_uid-eq : (a b : Uid) → same_uid a b ≡ uid_eq a b
same_uid-eq a b = one_truth (same_uid a b) (uid_eq a b) (uid-decides a b) (uid_eq-Decides a b)

-- ---- literals

by_kinds : (x y : Value) (z u : Value-F Value) → out-Value x ≡ z → out-Value y ≡ u → is_same x y ≡ is_eq (by_kind z u)
by_kinds x y z u at to = ap is_eq (value_cmp_by_kind x y) ∙ λ i. is_eq (by_kind (at i) (to i))

same_bools : (a b : Bool) → is_eq (by_kind (v.Bool a) (v.Bool b)) ≡ same_truth a b
same_bools true true = refl
same_bools true false = refl
same_bools false true = refl
same_bools false false = refl

-- two literals are compared by value
pub literals-same : (l m : Literal) → is_same (literal_value l) (literal_value m) ≡ same_literal l m
literals-same (literal.Bool a) (literal.Bool b) = by_kinds _ _ _ _ (out_Bool a) (out_Bool b) ∙ same_bools a b
literals-same (literal.Bool a) (literal.Long n) = by_kinds _ _ _ _ (out_Bool a) (out_Long n)
literals-same (literal.Bool a) (literal.String text) = by_kinds _ _ _ _ (out_Bool a) (out_String text)
literals-same (literal.Bool a) (literal.Entity u) = by_kinds _ _ _ _ (out_Bool a) (out_Entity u)
literals-same (literal.Long m) (literal.Bool b) = by_kinds _ _ _ _ (out_Long m) (out_Bool b)
literals-same (literal.Long m) (literal.Long n) = by_kinds _ _ _ _ (out_Long m) (out_Long n)
literals-same (literal.Long m) (literal.String text) = by_kinds _ _ _ _ (out_Long m) (out_String text)
literals-same (literal.Long m) (literal.Entity u) = by_kinds _ _ _ _ (out_Long m) (out_Entity u)
literals-same (literal.String s) (literal.Bool b) = by_kinds _ _ _ _ (out_String s) (out_Bool b)
literals-same (literal.String s) (literal.Long n) = by_kinds _ _ _ _ (out_String s) (out_Long n)
literals-same (literal.String s) (literal.String text) = by_kinds _ _ _ _ (out_String s) (out_String text) ∙ sym (texts_ties s text)
literals-same (literal.String s) (literal.Entity u) = by_kinds _ _ _ _ (out_String s) (out_Entity u)
literals-same (literal.Entity u) (literal.Bool b) = by_kinds _ _ _ _ (out_Entity u) (out_Bool b)
literals-same (literal.Entity u) (literal.Long n) = by_kinds _ _ _ _ (out_Entity u) (out_Long n)
literals-same (literal.Entity u) (literal.String text) = by_kinds _ _ _ _ (out_Entity u) (out_String text)
literals-same (literal.Entity a) (literal.Entity b) = by_kinds _ _ _ _ (out_Entity a) (out_Entity b) ∙ same_uid-eq a b
