-- What says that like places are alike speaks of truth values.
use Rattle.std.proofs.Common.{◌≡◌, ℕ, zero, suc, Bool, true, false, cond, nat_lt, List, [], ◌∷◌, Option, Some, None, refl, sym, ap, ◌∙◌, subst}
use Rattle.sc_laws.proofs.OptionLaws.{same_some}
use Rattle.sc_laws.proofs.BoolLaws.{never}
use Rattle.sc_lists.proofs.ListLaws.{all_append}
use Rattle.sc_sorts.specs.declared.sort.Sort.{Sort, Sort-F, out-Sort}
use Rattle.sc_sorts.specs.declared.sort.Sort.TheOpen as s
use Rattle.sc_sorts.proofs.OutLaws.{out_Bool}
use Rattle.sc_sorts.specs.declared.node.Literal.{Literal as AnyLiteral}
use Rattle.sc_sorts.specs.Literals.{literal_bit}
use Rattle.sc_sorts.specs.declared.node.UnaryOp.{UnaryOp}
use Rattle.sc_terms.specs.Trees.{Tree, leaf, one, two, choice, many}
use Rattle.sc_terms.specs.TreeSorts.{tree_sort}
use Rattle.sc_terms.specs.Folds.{absent, present_by, present_term, literal_of, bit_by, bit_term, equal_term}
use Rattle.sc_footprint.specs.Atoms.{is_bool, is_bool_in}
use Rattle.sc_footprint.proofs.TruthLaws.{truth_sort}
use Rattle.sc_rule_laws.specs.Signed.{Signed, Said, so, unless, given}
use Rattle.sc_rule_laws.specs.Terms.{member}
use Rattle.sc_rule_laws.specs.Places.{same_step, roots, half_by, half, under}
use Rattle.sc_model_values.proofs.PartSorts.{plain_at, plain_equal, member_bool, AreTruths, IsOfTruths}

bit_bool : (x : Tree) (i : ℕ) → is_bool (bit_term x i) ≡ true
unfolding bit_term tree_sort
bit_bool x i = by (literal_of x) where
  by : (o : Option AnyLiteral) → is_bool (bit_by o x i) ≡ true
  by (Some l) = truth_sort (literal_bit l i)
  by None = ap is_bool_in out_Bool

present_bool : (x : Tree) → is_bool (present_term x) ≡ true
unfolding present_term tree_sort
present_bool x = by (absent x) where
  by : (o : Option Sort) → is_bool (present_by o x) ≡ true
  by (Some k) = truth_sort false
  by None = ap is_bool_in out_Bool

-- what is said is of truth values
abbrev IsTruths : Said → Type 0
IsTruths said = (parts : List Signed) → said ≡ Some parts → AreTruths parts

some_truths : (parts : List Signed) → AreTruths parts → IsTruths (Some parts)
some_truths parts h all e = subst AreTruths (same_some e) h

no_truths : IsTruths None
no_truths parts e = absurd cc

given_all : (test : Bool) (parts : List Signed) → AreTruths parts → IsTruths (given test parts)
given_all true parts h = some_truths parts h
given_all false parts h = no_truths

module _ (x y : Tree) (same : tree_sort x ≡ tree_sort y) where
  bits_truths : (n i : ℕ) → IsTruths (given (nat_lt i n) (unless (bit_term x i) ∷ so (bit_term y i) ∷ []))
  bits_truths n i = given_all (nat_lt i n) (unless (bit_term x i) ∷ so (bit_term y i) ∷ []) (bit_bool x i, (bit_bool y i, tt))

  equal_truths : (k : Sort-F Sort) → out-Sort (tree_sort x) ≡ k → is_bool_in k ≡ false → IsTruths (Some (so (equal_term x y) ∷ []))
  equal_truths k e n =
      some_truths (so (equal_term x y) ∷ []) (plain_equal x y (plain_at x k e n) (plain_at y k (ap out-Sort (sym same) ∙ e) n), tt)

  half_by_truths : (k : Sort-F Sort) → out-Sort (tree_sort x) ≡ k → (i : ℕ) (z : Option Tree) → IsTruths (half_by k x y i z)
  half_by_truths s.Bool e zero z =
      some_truths (unless x ∷ so y ∷ []) (ap is_bool_in e, (ap is_bool_in (ap out-Sort (sym same) ∙ e), tt))
  half_by_truths s.Bool e (suc i) z = no_truths
  half_by_truths s.String e zero z = equal_truths s.String e refl
  half_by_truths s.String e (suc i) z = no_truths
  half_by_truths (s.Entity name us) e zero z = equal_truths (s.Entity name us) e refl
  half_by_truths (s.Entity name us) e (suc i) z = no_truths
  half_by_truths (s.Option k) e zero z =
      some_truths (unless (present_term x) ∷ so (present_term y) ∷ []) (present_bool x, (present_bool y, tt))
  half_by_truths (s.Option k) e (suc i) z = no_truths
  half_by_truths s.Long e i z = bits_truths 64 i
  half_by_truths s.Decimal e i z = bits_truths 64 i
  half_by_truths s.Ip e i z = bits_truths 257 i
  half_by_truths (s.Set k) e i (Some z) = some_truths (unless (member z x) ∷ so (member z y) ∷ []) (member_bool z x, (member_bool z y, tt))
  half_by_truths (s.Set k) e i None = no_truths
  half_by_truths (s.Record fs) e i z = no_truths

  pub half_truths : (i : ℕ) (z : Option Tree) (parts : List Signed) → half x y i z ≡ Some parts → AreTruths parts
  half_truths i z = half_by_truths (out-Sort (tree_sort x)) refl i z

-- what is said under a guard
pub under_truths : (Is : Tree → Type 0) (test : Bool) (guard : List Signed) (said : Said) → (test ≡ true → AreTruths guard)
    → (test ≡ true → (parts : List Signed) → said ≡ Some parts → AreTruths parts) → IsOfTruths Is (under test guard said)
under_truths Is true guard (Some parts) g h = λ all. all_append (λ (p : Signed). is_bool p.1 ≡ true) guard parts (g refl) (h refl parts refl)
under_truths Is true guard None g h = tt
under_truths Is false guard said g h = tt

-- ---- of sets a candidate is told and no place, of the others a place and no candidate

abbrev pub is_set_in : Sort-F Sort → Bool
is_set_in (s.Set k) = true
is_set_in _ = false

pub half_place : (k : Sort-F Sort) (x y : Tree) (i : ℕ) (z w : Option Tree) → is_set_in k ≡ false → half_by k x y i z ≡ half_by k x y i w
half_place s.Bool x y zero z w n = refl
half_place s.Bool x y (suc i) z w n = refl
half_place s.String x y zero z w n = refl
half_place s.String x y (suc i) z w n = refl
half_place (s.Entity name us) x y zero z w n = refl
half_place (s.Entity name us) x y (suc i) z w n = refl
half_place (s.Option k) x y zero z w n = refl
half_place (s.Option k) x y (suc i) z w n = refl
half_place s.Long x y i z w n = refl
half_place s.Decimal x y i z w n = refl
half_place s.Ip x y i z w n = refl
half_place (s.Record fs) x y i z w n = refl
half_place (s.Set k) x y i z w n = never _ n

-- ---- what is kept by what an operator is on holds of roots

module _ (P : Tree → Type 0) (down : (o : UnaryOp) (a : Tree) → P (one o a) → P a) where
  first_by : (t : Bool) (o q : UnaryOp) (a b : Tree) → P (one o a) → (P a → P (roots a b).0) → P (cond t (roots a b) (one o a, one q b)).0
  first_by true o q a b h next = next (down o a h)
  first_by false o q a b h next = h

  pub first_root : (x y : Tree) → P x → P (roots x y).0
  unfolding roots
  first_root (one o a) (one q b) h = first_by (same_step o q) o q a b h (first_root a b)
  first_root (one o a) (leaf l) h = h
  first_root (one o a) (two q b c) h = h
  first_root (one o a) (choice b c e) h = h
  first_root (one o a) (many q ts) h = h
  first_root (leaf l) y h = h
  first_root (two o a b) y h = h
  first_root (choice a b c) y h = h
  first_root (many o ts) y h = h

  second_by : (t : Bool) (o q : UnaryOp) (a b : Tree) → P (one q b) → (P b → P (roots a b).1) → P (cond t (roots a b) (one o a, one q b)).1
  second_by true o q a b h next = next (down q b h)
  second_by false o q a b h next = h

  pub second_root : (x y : Tree) → P y → P (roots x y).1
  unfolding roots
  second_root (one o a) (one q b) h = second_by (same_step o q) o q a b h (second_root a b)
  second_root (one o a) (leaf l) h = h
  second_root (one o a) (two q b c) h = h
  second_root (one o a) (choice b c e) h = h
  second_root (one o a) (many q ts) h = h
  second_root (leaf l) y h = h
  second_root (two o a b) y h = h
  second_root (choice a b c) y h = h
  second_root (many o ts) y h = h
