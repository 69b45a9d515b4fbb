-- Which leaves are terms.
use Rattle.std.proofs.Common.{◌≡◌, ◌↔◌, ◌⊎◌, inl, inr, List, [], Bool, true, Option, Result, IsTrue, IfOk, refl, sym, subst}
use Rattle.sc_names.specs.declared.uid.Uid.{Uid}
use Rattle.sc_schema.specs.declared.declarations.Env.{Env}
use Rattle.sc_schema.specs.declared.ty.Ty.{Ty}
use Rattle.sc_schema.specs.Declarations.{Declarations, context_of}
use Rattle.sc_sorts.specs.declared.sort.Sort.{Sort}
use Rattle.sc_sorts.specs.declared.sort.Sort.TheVariants as sort
use Rattle.sc_sorts.specs.contracts.sort.SortPartialEq.TheImpl.{ghosts as sorts}
use Rattle.sc_sorts.specs.Defaults.{default_uid}
use Rattle.sc_sorts.specs.Entities.{choices_of, entity_sort}
use Rattle.sc_sorts.specs.OrderLaws.{sort_eq_decides}
use Rattle.sc_sorts.specs.declared.node.Leaf.{Leaf}
use Rattle.sc_sorts.specs.declared.node.Leaf.TheVariants as leafs
use Rattle.sc_sorts.specs.declared.node.Literal.{Literal}
use Rattle.sc_sorts.specs.declared.node.Literal.TheVariants as literal
use Rattle.sc_sorts.specs.NodeSorts.{leaf_sort, literal_sort}
use Rattle.sc_terms.specs.Trees.{leaf}
use Rattle.sc_terms.specs.Folds.{literal_term}
use Rattle.sc_term_laws.specs.Judged.{IsWritten, IsNameless, IsLiteralOf}
use Rattle.sc_term_laws.specs.Judging.{IsTermOf}
use Rattle.sc_term_laws.specs.Judging as judged
use Rattle.sc_term_laws.specs.LawfulSorts.{IsHeldSort}
use Rattle.sc_term_laws.specs.Tests.{is_sort_of}
use Rattle.sc_term_laws.proofs.TestLaws.{type_is, type_told}
use Rattle.sc_term_laws.proofs.ToldLaws.{by_fact, by_test}

module _ (d : Declarations) (env : Env) (written : List Uid) where
  abbrev IsLeaf : Leaf → Type 0
  IsLeaf l = IsTermOf d env written (leaf_sort l) (leaf l)

  -- ---- literals

  entity_made : (u : Uid) → IsWritten d written u ⊎ IsNameless d u
      → IsTermOf d env written (entity_sort d u.type_name) (literal_term (literal.Entity u (choices_of d u.type_name)))
  entity_made u (inl h) = judged.of_uid u h
  entity_made u (inr h) =
      let same : default_uid u.type_name [] ≡ u = λ i. record { type_name = u.type_name; id = sym h.0 i } in
      subst (λ (us : List Uid). IsTermOf d env written (sort.Entity u.type_name us) (literal_term (literal.Entity u us))) (sym h.2)
      (subst (λ (v : Uid). IsTermOf d env written (sort.Entity u.type_name []) (literal_term (literal.Entity v []))) same (judged.of_default u.type_name h.1 h.2))

  literal_made : (l : Literal) → IsLiteralOf d written l → IsLeaf (leafs.Literal l)
  literal_made (literal.Bool b) h = judged.of_truth b
  literal_made (literal.Long n) h = judged.of_number n h
  literal_made (literal.String text) h = judged.of_text text h
  literal_made (literal.Decimal n) h = judged.of_decimal_number n h
  literal_made (literal.Ip ip) h = judged.of_address ip h
  literal_made (literal.Entity u us) h =
      subst (λ (vs : List Uid). IsTermOf d env written (sort.Entity u.type_name vs) (literal_term (literal.Entity u vs))) (sym h.0) (entity_made u h.1)

  literal_kept : (k : Sort) (l : Literal) → IsTermOf d env written k (leaf (leafs.Literal l)) → IsLiteralOf d written l
  literal_kept _ _ (judged.of_truth b) = tt
  literal_kept _ _ (judged.of_number n h) = h
  literal_kept _ _ (judged.of_text text h) = h
  literal_kept _ _ (judged.of_decimal_number n h) = h
  literal_kept _ _ (judged.of_address ip h) = h
  literal_kept _ _ (judged.of_uid u h) = (refl, inl h)
  literal_kept _ _ (judged.of_default name h e) = (sym e, inr (refl, h, e))

  literal_is : (l : Literal) → IsLiteralOf d written l ↔ IsLeaf (leafs.Literal l)
  literal_is l = (literal_made l, literal_kept (literal_sort l) l)

  -- ---- the absent option, and variables

  none_kept : (k j : Sort) → IsTermOf d env written k (leaf (leafs.None j)) → IsHeldSort d j
  none_kept _ _ (judged.of_none j h) = h

  none_is : (j : Sort) → IsHeldSort d j ↔ IsLeaf (leafs.None j)
  none_is j = (judged.of_none j, none_kept (sort.Option j) j)

  principal_kept : (k j : Sort) → IsTermOf d env written k (leaf (leafs.Principal j)) → j ≡ entity_sort d env.principal
  principal_kept _ _ judged.of_principal = refl

  principal_is : (j : Sort) → (sorts.eq j (entity_sort d env.principal) ≡ true) ↔ IsLeaf (leafs.Principal j)
  principal_is j = (
    λ h. subst (λ (z : Sort). IsLeaf (leafs.Principal z)) (sym ((sort_eq_decides j (entity_sort d env.principal)).0 h)) judged.of_principal,
    λ h. (sort_eq_decides j (entity_sort d env.principal)).1 (principal_kept j j h),
  )

  resource_kept : (k j : Sort) → IsTermOf d env written k (leaf (leafs.Resource j)) → j ≡ entity_sort d env.resource
  resource_kept _ _ judged.of_resource = refl

  resource_is : (j : Sort) → (sorts.eq j (entity_sort d env.resource) ≡ true) ↔ IsLeaf (leafs.Resource j)
  resource_is j = (
    λ h. subst (λ (z : Sort). IsLeaf (leafs.Resource z)) (sym ((sort_eq_decides j (entity_sort d env.resource)).0 h)) judged.of_resource,
    λ h. (sort_eq_decides j (entity_sort d env.resource)).1 (resource_kept j j h),
  )

  context_kept : (k j : Sort) → IsTermOf d env written k (leaf (leafs.Context j)) → is_sort_of (context_of d env.action) j ≡ true
  context_kept _ _ (judged.of_context t e) = type_told (context_of d env.action) t e

  context_is : (j : Sort) → (is_sort_of (context_of d env.action) j ≡ true) ↔ IsLeaf (leafs.Context j)
  context_is j = (
    λ h.
        let p = type_is (context_of d env.action) j h in
        subst (λ (z : Sort). IsLeaf (leafs.Context z)) (sym p.2) (judged.of_context p.0 p.1),
    λ h. context_kept j j h,
  )

-- ---- what a test says of a leaf by another name

module _ (d : Declarations) (env : Env) (written : List Uid) where
  abbrev Told : {E : Type 0} → Result Bool E → Leaf → Type 0
  Told r l = IfOk r (λ b. IsTrue b ↔ IsTermOf d env written (leaf_sort l) (leaf l))

  pub literal_told : {E : Type 0} (r : Result Bool E) (x : Leaf) (l : Literal) → x ≡ leafs.Literal l → IfOk r (λ b. IsTrue b ↔ IsLiteralOf d written l) → Told r x
  literal_told r x l is told = subst (Told r) (sym is) (by_fact r (literal_is d env written l) told)

  pub none_told : {E : Type 0} (r : Result Bool E) (x : Leaf) (j : Sort) → x ≡ leafs.None j → IfOk r (λ b. IsTrue b ↔ IsHeldSort d j) → Told r x
  none_told r x j is told = subst (Told r) (sym is) (by_fact r (none_is d env written j) told)

  pub principal_told : {E : Type 0} (r : Result Bool E) (x : Leaf) (j : Sort) → x ≡ leafs.Principal j → IfOk r (λ b. b ≡ sorts.eq j (entity_sort d env.principal)) → Told r x
  principal_told r x j is told = subst (Told r) (sym is) (by_test r _ (principal_is d env written j) told)

  pub resource_told : {E : Type 0} (r : Result Bool E) (x : Leaf) (j : Sort) → x ≡ leafs.Resource j → IfOk r (λ b. b ≡ sorts.eq j (entity_sort d env.resource)) → Told r x
  resource_told r x j is told = subst (Told r) (sym is) (by_test r _ (resource_is d env written j) told)

  pub context_told : {E : Type 0} (r : Result Bool E) (x : Leaf) (j : Sort) (o : Option Ty) → x ≡ leafs.Context j → o ≡ context_of d env.action → IfOk r (λ b. b ≡ is_sort_of o j) → Told r x
  context_told r x j o is e told =
      subst (Told r) (sym is) (by_test r _ (context_is d env written j) (subst (λ (p : Option Ty). IfOk r (λ b. b ≡ is_sort_of p j)) e told))
