-- An operator on a term makes a term just where its test passes.
use Rattle.std.proofs.Common.{◌≡◌, ◌&&◌, ℕ, List, Bool, true, Option, Some, nat_le, nat_lt, is_some, refl, sym, ap, ◌∙◌, subst}
use Rattle.sc_laws.proofs.BoolLaws.{and_first, and_second}
use Rattle.sc_names.specs.declared.uid.Uid.{Uid}
use Rattle.sc_schema.specs.declared.declarations.Env.{Env}
use Rattle.sc_schema.specs.declared.ty.Ty.{Ty}
use Rattle.sc_schema.specs.Declarations.{Declarations, attrs_of, tags_of, ancestor_types}
use Rattle.sc_sorts.specs.declared.sort.Sort.{Sort}
use Rattle.sc_sorts.specs.declared.sort.Sort.TheVariants as sort
use Rattle.sc_sorts.specs.Defaults.{is_option}
use Rattle.sc_sorts.specs.Entities.{entity_sort}
use Rattle.sc_sorts.specs.Inside.{field_sort, held_sort}
use Rattle.sc_sorts.specs.OfTypes.{sort_of}
use Rattle.sc_sorts.specs.declared.node.BinaryOp.{BinaryOp}
use Rattle.sc_sorts.specs.declared.node.BinaryOp.TheVariants as binary
use Rattle.sc_sorts.specs.declared.node.UnaryOp.{UnaryOp}
use Rattle.sc_sorts.specs.declared.node.UnaryOp.TheVariants as unary
use Rattle.sc_sorts.specs.NodeSorts.{unary_sort}
use Rattle.sc_terms.specs.Trees.{Tree, one, two}
use Rattle.sc_terms.specs.TreeSorts.{tree_sort}
use Rattle.sc_term_laws.specs.Judging.{IsTermOf, IsSum}
use Rattle.sc_term_laws.specs.Judging as judged
use Rattle.sc_term_laws.specs.Tests.{is_string, is_bool, has_place, is_sum, is_product, has_field, name_of, is_above, is_entity_sort, attributes_test, ancestors_test, keys_test, unary_test}
use Rattle.sc_term_laws.specs.Unfolded.{stays_field}
use Rattle.sc_term_laws.proofs.JudgingLaws.{sort_is, arithmetic_sort, field_of_record}
use Rattle.sc_term_laws.proofs.TestLaws as test
use Rattle.std.specs.Cmp.Derive.{both_true}
use Rattle.sc_laws.proofs.OptionLaws.{some_is}
use Rattle.sc_laws.proofs.NumberLaws.{at_most, nat_lt_true}

module _ (d : Declarations) (env : Env) (written : List Uid) where
  abbrev Is : Sort → Tree → Type 0
  Is k t = IsTermOf d env written k t

  -- a term of the sort that the table keeps of it
  abbrev IsTerm : Tree → Type 0
  IsTerm t = Is (tree_sort t) t

  pub at_its_sort : (k : Sort) (t : Tree) → Is k t → IsTerm t
  at_its_sort k t h = subst (λ (z : Sort). Is z t) (sym (sort_is d env written k t h)) h

  pub of_sort : (k l : Sort) (t : Tree) → k ≡ l → Is k t → Is l t
  of_sort k l t e h = subst (λ (z : Sort). Is z t) e h

  -- ---- what passes the test is a term

  sum_term : (o : BinaryOp) (x y a : Tree) → IsSum o → a ≡ two o x y → IsTerm a → Is sort.Long (two o x y)
  unfolding tree_sort
  sum_term o x y a i e h = of_sort (tree_sort (two o x y)) sort.Long (two o x y) (arithmetic_sort o (tree_sort x) (judged.of_sum o i)) (subst IsTerm e h)

  product_term : (x y a : Tree) → a ≡ two binary.Multiply x y → IsTerm a → Is sort.Long (two binary.Multiply x y)
  unfolding tree_sort
  product_term x y a e h = subst IsTerm e h

  carry_made : (i : ℕ) (a : Tree) → IsTerm a → (is_sum a && nat_le i 64) ≡ true → Is sort.Bool (one (unary.CarryIn i) a)
  carry_made i a h t =
      let p = test.sum_is a (and_first _ _ t) in
      subst (λ (z : Tree). Is sort.Bool (one (unary.CarryIn i) z)) (sym p.4)
      (judged.of_carry p.0 i p.1 p.2 p.3 (at_most i 64 (and_second _ _ t)) (sum_term p.0 p.1 p.2 a p.3 p.4 h))

  row_made : (i j : ℕ) (a : Tree) → IsTerm a → (is_product a && (nat_le i 128 && nat_lt j 128)) ≡ true → Is sort.Bool (one (unary.ProductRow i j) a)
  row_made i j a h t =
      let p = test.product_is a (and_first _ _ t) in
      let rest = and_second (is_product a) _ t in
      subst (λ (z : Tree). Is sort.Bool (one (unary.ProductRow i j) z)) (sym p.2)
      (judged.of_row i j p.0 p.1 (at_most i 128 (and_first _ _ rest)) (test.below j 128 (and_second _ _ rest)) (product_term p.0 p.1 a p.2 h))

  product_carry_made : (i j : ℕ) (a : Tree) → IsTerm a → (is_product a && (nat_lt i 128 && nat_le j 128)) ≡ true → Is sort.Bool (one (unary.ProductCarry i j) a)
  product_carry_made i j a h t =
      let p = test.product_is a (and_first _ _ t) in
      let rest = and_second (is_product a) _ t in
      subst (λ (z : Tree). Is sort.Bool (one (unary.ProductCarry i j) z)) (sym p.2)
      (judged.of_product_carry i j p.0 p.1 (test.below i 128 (and_first _ _ rest)) (at_most j 128 (and_second _ _ rest)) (product_term p.0 p.1 a p.2 h))

  attributes_made : (own : Sort) (a : Tree) → IsTerm a → attributes_test d own (tree_sort a) ≡ true → Is own (one (unary.Attributes own) a)
  attributes_made own a h t =
      let k = tree_sort a in
      let e = test.entity_is d k (and_first _ _ t) in
      let p = test.type_is (attrs_of d (name_of k)) own (and_second (is_entity_sort d k) _ t) in
      subst (λ (z : Sort). Is z (one (unary.Attributes z) a)) (sym p.2) (judged.of_attributes (name_of k) p.0 a p.1 (of_sort k _ a e h))

  ancestors_made : (own : Sort) (a : Tree) → IsTerm a → ancestors_test d own (tree_sort a) ≡ true → Is (sort.Set own) (one (unary.Ancestors own) a)
  ancestors_made own a h t =
      let k = tree_sort a in
      let e = test.entity_is d k (and_first _ _ t) in
      let rest = and_second (is_entity_sort d k) _ t in
      let f = test.entity_is d own (and_first _ _ rest) in
      let p = test.above_is d (name_of k) (name_of own) (and_second (is_entity_sort d own) _ rest) in
      subst (λ (z : Sort). Is (sort.Set z) (one (unary.Ancestors z) a)) (sym f)
      (judged.of_ancestors (name_of k) (name_of own) p.names a p.declared p.among (of_sort k _ a e h))

  keys_made : (a : Tree) → IsTerm a → keys_test d (tree_sort a) ≡ true → Is (sort.Set sort.String) (one unary.Keys a)
  keys_made a h t =
      let k = tree_sort a in
      let e = test.entity_is d k (and_first _ _ t) in
      let p = some_is (tags_of d (name_of k)) (and_second (is_entity_sort d k) _ t) in
      judged.of_keys (name_of k) p.0 a p.1 (of_sort k _ a e h)

  field_made : (name : List ℕ) (a : Tree) → IsTerm a → (has_field name (tree_sort a) && stays_field name a) ≡ true → Is (field_sort name (tree_sort a)) (one (unary.Field name) a)
  field_made name a h t =
      let k = tree_sort a in
      let p = test.field_sort_of name k (and_first _ _ t) in
      let same : field_sort name k ≡ p.field = ap (field_sort name) p.of_record ∙ field_of_record p.fields name p.field p.found in
      of_sort p.field (field_sort name k) (one (unary.Field name) a) (sym same)
      (judged.of_field p.fields name p.field a (of_sort k (sort.Record p.fields) a p.of_record h) p.found (and_second (has_field name k) _ t))

  pub unary_made : (o : UnaryOp) (a : Tree) → IsTerm a → unary_test d o (tree_sort a) a ≡ true → Is (unary_sort o (tree_sort a)) (one o a)
  unary_made unary.Not a h t = judged.of_not a (of_sort _ sort.Bool a (test.bool_sort (tree_sort a) (and_first _ _ t)) h) (and_second (is_bool (tree_sort a)) _ t)
  unary_made (unary.Bit i) a h t = judged.of_bit (tree_sort a) i a (test.place_sort (tree_sort a) i (and_first _ _ t)) h (and_second (has_place (tree_sort a) i) _ t)
  unary_made (unary.CarryIn i) a h t = carry_made i a h t
  unary_made (unary.ProductRow i j) a h t = row_made i j a h t
  unary_made (unary.ProductCarry i j) a h t = product_carry_made i j a h t
  unary_made (unary.Attributes own) a h t = attributes_made own a h t
  unary_made (unary.Ancestors own) a h t = ancestors_made own a h t
  unary_made unary.Keys a h t = keys_made a h t
  unary_made (unary.Field name) a h t = field_made name a h t
  unary_made unary.Present a h t = judged.of_present (held_sort (tree_sort a)) a (of_sort _ _ a (test.option_sort (tree_sort a) (and_first _ _ t)) h) (and_second (is_option (tree_sort a)) _ t)
  unary_made unary.Held a h t = judged.of_held (held_sort (tree_sort a)) a (of_sort _ _ a (test.option_sort (tree_sort a) (and_first _ _ t)) h) (and_second (is_option (tree_sort a)) _ t)
  unary_made (unary.Like p) a h t = judged.of_like p a (of_sort _ sort.String a (test.string_sort (tree_sort a) (and_first _ _ t)) h) (and_second (is_string (tree_sort a)) _ t)

  -- ---- what is a term passes the test, and so does its part

  abbrev Kept : UnaryOp → Tree → Type 0
  Kept o a = IsTerm a × (unary_test d o (tree_sort a) a ≡ true)

  its : (k : Sort) (a : Tree) → Is k a → tree_sort a ≡ k
  its k a h = sort_is d env written k a h

  sum_told : (o : BinaryOp) (a b : Tree) → IsSum o → is_sum (two o a b) ≡ true
  sum_told _ a b judged.addition = refl
  sum_told _ a b judged.subtraction = refl

  attributes_kept : (name : List ℕ) (t : Ty) (a : Tree) → attrs_of d name ≡ Some t → Is (entity_sort d name) a → attributes_test d (sort_of t) (tree_sort a) ≡ true
  attributes_kept name t a e h =
      let same = its (entity_sort d name) a h in
      both_true (test.entity_told d (tree_sort a) name same) (test.type_told _ t (ap (attrs_of d) (test.name_told d (tree_sort a) name same) ∙ e))

  ancestors_kept : (name above : List ℕ) (names : List (List ℕ)) (a : Tree) → ancestor_types d name ≡ Some names → is_above d name above ≡ true → Is (entity_sort d name) a → ancestors_test d (entity_sort d above) (tree_sort a) ≡ true
  ancestors_kept name above names a e up h =
      let same = its (entity_sort d name) a h in
      let first = test.name_told d (tree_sort a) name same in
      let second = test.name_told d (entity_sort d above) above refl in
      both_true (test.entity_told d (tree_sort a) name same)
      (both_true (test.entity_told d (entity_sort d above) above refl)
      (ap (λ (n : List ℕ). is_above d n (name_of (entity_sort d above))) first ∙ ap (is_above d name) second ∙ up))

  keys_kept : (name : List ℕ) (t : Ty) (a : Tree) → tags_of d name ≡ Some t → Is (entity_sort d name) a → keys_test d (tree_sort a) ≡ true
  keys_kept name t a e h =
      let same = its (entity_sort d name) a h in
      both_true (test.entity_told d (tree_sort a) name same) (ap is_some (ap (tags_of d) (test.name_told d (tree_sort a) name same) ∙ e))

  pub unary_kept : (k : Sort) (o : UnaryOp) (a : Tree) → Is k (one o a) → Kept o a
  unary_kept _ _ _ (judged.of_not a h e) = (at_its_sort sort.Bool a h, both_true (test.bool_told _ (its sort.Bool a h)) e)
  unary_kept _ _ _ (judged.of_bit k i a p h e) = (at_its_sort k a h, both_true (test.place_told _ k i (its k a h) p) e)
  unary_kept _ _ _ (judged.of_carry o i a b p q h) = (at_its_sort sort.Long (two o a b) h, both_true (sum_told o a b p) (test.at_most_told i 64 q))
  unary_kept _ _ _ (judged.of_row i j a b p q h) =
      (at_its_sort sort.Long (two binary.Multiply a b) h, both_true (test.at_most_told i 128 p) (nat_lt_true j 128 q))
  unary_kept _ _ _ (judged.of_product_carry i j a b p q h) =
      (at_its_sort sort.Long (two binary.Multiply a b) h, both_true (nat_lt_true i 128 p) (test.at_most_told j 128 q))
  unary_kept _ _ _ (judged.of_attributes name t a e h) = (at_its_sort (entity_sort d name) a h, attributes_kept name t a e h)
  unary_kept _ _ _ (judged.of_ancestors name above names a e c h) =
      (at_its_sort (entity_sort d name) a h, ancestors_kept name above names a e (test.above_told d name above names e c) h)
  unary_kept _ _ _ (judged.of_keys name t a e h) = (at_its_sort (entity_sort d name) a h, keys_kept name t a e h)
  unary_kept _ _ _ (judged.of_field fs name k a h e f) =
      (at_its_sort (sort.Record fs) a h, both_true (test.field_told name _ fs k (its (sort.Record fs) a h) e) f)
  unary_kept _ _ _ (judged.of_present k a h e) = (at_its_sort (sort.Option k) a h, both_true (test.option_told _ k (its (sort.Option k) a h)) e)
  unary_kept _ _ _ (judged.of_held k a h e) = (at_its_sort (sort.Option k) a h, both_true (test.option_told _ k (its (sort.Option k) a h)) e)
  unary_kept _ _ _ (judged.of_like p a h e) = (at_its_sort sort.String a h, both_true (test.string_told _ (its sort.String a h)) e)
