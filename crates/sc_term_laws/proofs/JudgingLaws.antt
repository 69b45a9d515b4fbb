-- The sort that a table keeps of a term is the sort that it is judged to have.
use Rattle.std.proofs.Common.{◌≡◌, ℕ, List, ◌∷◌, Option, Some, unwrap_or, refl, ap, ◌∙◌}
use Rattle.std.specs.Map.{lookup}
use Rattle.std.specs.Str.{bytes_eq}
use Rattle.sc_names.specs.declared.uid.Uid.{Uid}
use Rattle.sc_schema.specs.declared.declarations.Env.{Env}
use Rattle.sc_schema.specs.Declarations.{Declarations}
use Rattle.sc_sorts.specs.declared.sort.Sort.{Sort, Sort-F}
use Rattle.sc_sorts.specs.declared.sort.Sort.TheVariants as sort
use Rattle.sc_sorts.proofs.OutLaws.{out_Set, out_Record, out_Option}
use Rattle.sc_sorts.specs.declared.node.BinaryOp.{BinaryOp}
use Rattle.sc_terms.specs.Trees.{Tree, Trees}
use Rattle.sc_sorts.specs.Inside.{SortFields, fields_in, held_in, member_in, field_sort, held_sort, member_sort}
use Rattle.sc_sorts.specs.NodeSorts.{binary_sort}
use Rattle.sc_terms.specs.TreeSorts.{tree_sort, sorts_of}
use Rattle.sc_term_laws.specs.Judging.{IsTermOf, HaveFields, IsArithmetic, IsOverflow, IsTestOfSets, IsPick}
use Rattle.sc_term_laws.specs.Judging as judged

pub arithmetic_sort : (o : BinaryOp) (x : Sort) → IsArithmetic o → binary_sort o x ≡ sort.Long
arithmetic_sort _ x (judged.of_sum _ judged.addition) = refl
arithmetic_sort _ x (judged.of_sum _ judged.subtraction) = refl
arithmetic_sort _ x judged.multiplication = refl

overflow_sort : (o : BinaryOp) (x : Sort) → IsOverflow o → binary_sort o x ≡ sort.Bool
overflow_sort _ x judged.addition_overflow = refl
overflow_sort _ x judged.subtraction_overflow = refl
overflow_sort _ x judged.multiplication_overflow = refl

test_sort : (o : BinaryOp) (x : Sort) → IsTestOfSets o → binary_sort o x ≡ sort.Bool
test_sort _ x judged.subset_test = refl
test_sort _ x judged.common_test = refl

pick_sort : (o : BinaryOp) (x : Sort) → IsPick o → binary_sort o x ≡ member_sort x
pick_sort _ x judged.difference = refl
pick_sort _ x judged.intersection = refl

pub member_of : (k : Sort) → member_sort (sort.Set k) ≡ k
member_of k = ap member_in (out_Set k)

pub held_of : (k : Sort) → held_sort (sort.Option k) ≡ k
held_of k = ap held_in (out_Option k)

pub field_of_record : (fs : SortFields) (name : List ℕ) (k : Sort) → lookup (bytes_eq name) fs ≡ Some k → field_sort name (sort.Record fs) ≡ k
field_of_record fs name k e = ap (λ (z : Sort-F Sort). unwrap_or (lookup (bytes_eq name) (fields_in z)) sort.Bool) (out_Record fs) ∙ ap (λ (o : Option Sort). unwrap_or o sort.Bool) e

module _ (d : Declarations) (env : Env) (written : List Uid) where
  mutual
    unfolding tree_sort

    pub sort_is : (k : Sort) (t : Tree) → IsTermOf d env written k t → tree_sort t ≡ k
    sort_is _ _ (judged.of_truth b) = refl
    sort_is _ _ (judged.of_number n h) = refl
    sort_is _ _ (judged.of_text x h) = refl
    sort_is _ _ (judged.of_decimal_number n h) = refl
    sort_is _ _ (judged.of_address ip h) = refl
    sort_is _ _ (judged.of_uid u h) = refl
    sort_is _ _ (judged.of_default name h e) = refl
    sort_is _ _ (judged.of_none held h) = refl
    sort_is _ _ judged.of_principal = refl
    sort_is _ _ judged.of_resource = refl
    sort_is _ _ (judged.of_context type e) = refl
    sort_is _ _ (judged.of_not a h e) = refl
    sort_is _ _ (judged.of_and a b g h e) = refl
    sort_is _ _ (judged.of_or a b g h e) = refl
    sort_is _ _ (judged.of_choice k c a b f g h e) = sort_is k a g
    sort_is _ _ (judged.of_equal j a b g h e) = refl
    sort_is _ _ (judged.of_arithmetic o a b i g h) = arithmetic_sort o (tree_sort a) i
    sort_is _ _ (judged.of_overflow o a b i g h) = overflow_sort o (tree_sort a) i
    sort_is _ _ (judged.of_less j a b i g h) = refl
    sort_is _ _ (judged.of_bit j i a p g e) = refl
    sort_is _ _ (judged.of_in_range a b g h) = refl
    sort_is _ _ (judged.of_carry o i a b p q g) = refl
    sort_is _ _ (judged.of_low j i a b p q g h) = refl
    sort_is _ _ (judged.of_row i j a b p q g) = refl
    sort_is _ _ (judged.of_product_carry i j a b p q g) = refl
    sort_is _ _ (judged.of_attributes name type a e g) = refl
    sort_is _ _ (judged.of_ancestors name above names a e c g) = refl
    sort_is _ _ (judged.of_keys name type a e g) = refl
    sort_is _ _ (judged.of_tag name type a x e g h) = refl
    sort_is _ _ (judged.of_field fs name k a g l e) = ap (field_sort name) (sort_is (sort.Record fs) a g) ∙ field_of_record fs name k l
    sort_is _ _ (judged.of_record fs ts i h) = ap sort.Record (fields_are fs ts h)
    sort_is _ _ (judged.of_set j ts i h) = refl
    sort_is _ _ (judged.of_present j a g e) = refl
    sort_is _ _ (judged.of_held k a g e) = ap held_sort (sort_is (sort.Option k) a g) ∙ held_of k
    sort_is _ _ (judged.of_member j x a g h) = refl
    sort_is _ _ (judged.of_sets o j a b p g h) = test_sort o (tree_sort a) p
    sort_is _ _ (judged.of_pick o k a b p g h) = pick_sort o (tree_sort a) p ∙ ap member_sort (sort_is (sort.Set k) a g) ∙ member_of k
    sort_is _ _ (judged.of_like p a g e) = refl

    pub fields_are : (fs : SortFields) (ts : Trees) → HaveFields d env written fs ts → sorts_of ts ≡ fs
    fields_are _ _ judged.no_field = refl
    fields_are _ _ (judged.with_field name k gs t us h more) =
        let first = sort_is k t h in
        let rest = fields_are gs us more in
        λ i. (name, first i) ∷ rest i
