-- The default of a lawful sort is a term.
use Rattle.std.proofs.Common.{◌≡◌, inl, inr, ℕ, List, [], ◌∷◌, map, Option, Some, None, Contains, true, false, pos, arith, refl, sym, ap, ◌∙◌, subst}
use Rattle.std.specs.List.{AllByRecursion}
use Rattle.sc_lists.proofs.ListLaws.{contains_first}
use Rattle.sc_ip.specs.declared.ip.Ip.TheVariants.{V4}
use Rattle.sc_names.specs.declared.uid.Uid.{Uid}
use Rattle.sc_schema.specs.declared.declarations.Env.{Env}
use Rattle.sc_schema.specs.Declarations.{Declarations}
use Rattle.sc_schema.specs.Lawful.{IsEntityType}
use Rattle.sc_schema.proofs.LawfulLaws.{ascii_text}
use Rattle.sc_sorts.specs.declared.sort.Sort.{Sort, Sort-F, out-Sort, roll-Sort, map-Sort, ind-Sort}
use Rattle.sc_sorts.specs.declared.sort.Sort.TheVariants as sort
use Rattle.sc_sorts.specs.declared.sort.Sort.TheVariants.{rolls-Bool, rolls-Long, rolls-String, rolls-Decimal, rolls-Ip, rolls-Entity, rolls-Set, rolls-Record, rolls-Option}
use Rattle.sc_sorts.specs.declared.sort.Sort.TheOpen as s
use Rattle.sc_sorts.specs.Entities.{choices_of, entity_sort}
use Rattle.sc_sorts.specs.Inside.{SortField, held_in}
use Rattle.sc_sorts.proofs.OutLaws.{out_Option}
use Rattle.sc_sorts.proofs.EveryLaws.{in_Entity, in_Set, in_Record, in_Option}
use Rattle.sc_terms.specs.Trees.{Tree, parts_of}
use Rattle.sc_sorts.specs.declared.node.Literal.TheVariants as literal
use Rattle.sc_terms.specs.Folds.{literal_term, default_term, absent, held_by, held_term}
use Rattle.sc_terms.proofs.DefaultLaws.{with_default, default_Bool, default_Long, default_String, default_Decimal, default_Ip, default_Entity, default_Set, default_Record, default_Option}
use Rattle.sc_term_laws.specs.Judging.{IsTermOf, HaveFields}
use Rattle.sc_term_laws.specs.Judging as judged
use Rattle.sc_term_laws.specs.Unfolded.{lacks}
use Rattle.sc_term_laws.specs.LawfulSorts.{IsDeclared, IsSortLevel, IsSortOf, IsHeldSort}
use Rattle.sc_term_laws.proofs.ChoicesLaws.{no_actions, listed_of, listed_itself}

module _ (d : Declarations) (env : Env) (written : List Uid) where
  abbrev Is : Sort → Tree → Type 0
  Is k t = IsTermOf d env written k t

  abbrev IsMade : Sort → Type 0
  IsMade k = IsSortOf d k → Is k (default_term k)

  abbrev Known : Type 0
  Known = (k : Sort) × IsMade k

  abbrev forget : List ℕ × Known → SortField
  forget e = (e.0, e.1.0)

  at : (k : Sort) (t : Tree) → default_term k ≡ t → Is k t → Is k (default_term k)
  at k t e h = subst (Is k) (sym e) h

  of_entities : (name : List ℕ) → choices_of d name ≡ [] → IsDeclared d name → IsEntityType d name
  of_entities name none (inl h) = h
  of_entities name none (inr h) = let both : true ≡ false = sym h ∙ no_actions d name none in cc

  -- the first of those that a type lists; where it lists none, the type is one of entities
  entity_made : (name : List ℕ) (us : List Uid) → IsSortLevel d (s.Entity name us) → Is (sort.Entity name us) (default_term (sort.Entity name us))
  entity_made name [] h =
      let none : choices_of d name ≡ [] = sym h.1 in
      at (sort.Entity name []) _ (default_Entity name []) (judged.of_default name (of_entities name none h.0) none)
  entity_made name (u ∷ us) h =
      let there = subst (λ (vs : List Uid). Contains vs u) h.1 (contains_first u us) in
      let made : Is (entity_sort d u.type_name) (literal_term (literal.Entity u (choices_of d u.type_name))) = judged.of_uid u (inr (listed_itself d name u there)) in
      let named = subst (λ (n : List ℕ). Is (entity_sort d n) (literal_term (literal.Entity u (choices_of d n)))) (listed_of d name u there).named made in
      at (sort.Entity name (u ∷ us)) _ (default_Entity name (u ∷ us)) (subst (λ (vs : List Uid). Is (sort.Entity name vs) (literal_term (literal.Entity u vs))) (sym h.1) named)

  fields_made : (es : List (List ℕ × Known)) → AllByRecursion (λ (f : SortField). IsSortOf d f.1) (map forget es) → HaveFields d env written (map forget es) (parts_of (map with_default (map forget es)))
  fields_made [] h = judged.no_field
  fields_made (e ∷ es) h = judged.with_field e.0 e.1.0 (map forget es) (default_term e.1.0) (parts_of (map with_default (map forget es))) (e.1.1 h.0) (fields_made es h.1)

  inner : (y : Sort-F Known) → IsMade (roll-Sort (map-Sort Known Sort (λ e. e.0) y))
  inner s.Bool = subst IsMade (sym rolls-Bool) (λ h. at sort.Bool _ default_Bool (judged.of_truth false))
  inner s.Long = subst IsMade (sym rolls-Long) (λ h. at sort.Long _ default_Long (judged.of_number (pos 0) (omega arith)))
  inner s.String = subst IsMade (sym rolls-String) (λ h. at sort.String _ default_String (judged.of_text [] (ascii_text [] refl)))
  inner s.Decimal = subst IsMade (sym rolls-Decimal) (λ h. at sort.Decimal _ default_Decimal (judged.of_decimal_number (pos 0) (omega arith)))
  inner s.Ip = subst IsMade (sym rolls-Ip) (λ h. at sort.Ip _ default_Ip (judged.of_address (V4 0 32) (omega arith, omega arith)))
  inner (s.Entity name us) = subst IsMade (sym (rolls-Entity name us)) (λ h. entity_made name us ((in_Entity (IsSortLevel d) name us).0 h))
  inner (s.Set e) = subst IsMade (sym (rolls-Set e.0)) (λ h. at (sort.Set e.0) _ (default_Set e.0) (judged.of_set e.0 _ ((in_Set (IsSortLevel d) e.0).0 h) (judged.no_member e.0)))
  inner (s.Record es) =
      subst IsMade (sym (rolls-Record (map forget es)))
      (λ h. let p = (in_Record (IsSortLevel d) (map forget es)).0 h in at (sort.Record (map forget es)) _ (default_Record (map forget es)) (judged.of_record (map forget es) _ p.0 (fields_made es p.1)))
  inner (s.Option e) = subst IsMade (sym (rolls-Option e.0)) (λ h. at (sort.Option e.0) _ (default_Option e.0) (judged.of_none e.0 ((in_Option (IsSortLevel d) e.0).0 h)))

  pub default_made : (k : Sort) → IsSortOf d k → Is k (default_term k)
  default_made = ind-Sort IsMade (λ x y e. subst (λ (z : Sort-F Sort). IsMade (roll-Sort z)) e (inner y))

  -- what an absent option would hold is of a lawful sort
  absent_sort : (k : Sort) (t : Tree) (j : Sort) → Is k t → absent t ≡ Some j → (k ≡ sort.Option j) × IsHeldSort d j
  absent_sort _ _ j (judged.of_none i h) e = let same : i ≡ j = cc in subst (λ (z : Sort). (sort.Option i ≡ sort.Option z) × IsHeldSort d z) same (refl, h)
  absent_sort _ _ j _ e = absurd cc

  pub held_made : (k : Sort) (a : Tree) → Is (sort.Option k) a → Is k (held_term a)
  unfolding held_term
  held_made k a h = by (absent a) refl
    where
      by : (o : Option Sort) → absent a ≡ o → Is k (held_by o a)
      by (Some j) e =
          let p = absent_sort (sort.Option k) a j h e in
          let same : k ≡ j = sym (ap held_in (out_Option k)) ∙ ap (λ (z : Sort). held_in (out-Sort z)) p.0 ∙ ap held_in (out_Option j) in
          subst (λ (z : Sort). Is z (default_term j)) (sym same) (default_made j p.1.1)
      by None e = judged.of_held k a h (ap lacks e)
