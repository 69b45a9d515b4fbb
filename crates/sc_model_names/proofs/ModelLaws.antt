-- With these names a consistent assignment is a model.
use Rattle.std.proofs.Common.{◌≡◌, ◌↔◌, ◌<◌, ◌+◌, ◌^◌, ℕ, true, not, List, [], map, length, Option, Some, unwrap_or, option_map, refl, sym, ap, ◌∙◌, subst, arith}
use Rattle.std.proofs.lemmas.List.{length-map}
use Rattle.std.proofs.lemmas.List.Filters.{length-filter_both}
use Rattle.std.specs.Str.{chars}
use Rattle.sc_lists.specs.Members.{Has}
use Rattle.sc_names.specs.declared.uid.Uid.{Uid}
use Rattle.sc_pattern.specs.Language.{is_match}
use Rattle.sc_clauses.specs.Assignments.{Assignment}
use Rattle.sc_sorts.specs.declared.sort.Sort.{Sort, Sort-F, out-Sort}
use Rattle.sc_sorts.specs.declared.sort.Sort.TheVariants as sort
use Rattle.sc_sorts.specs.declared.sort.Sort.TheVariants.{rolls-Entity}
use Rattle.sc_sorts.specs.declared.sort.Sort.TheOpen as s
use Rattle.sc_sorts.proofs.OutLaws.{out_String, out_Entity}
use Rattle.sc_sorts.specs.declared.node.Literal.TheVariants as literals
use Rattle.sc_terms.specs.Folds.{literal_term}
use Rattle.sc_terms.specs.Trees.{Tree}
use Rattle.sc_terms.specs.TreeSorts.{tree_sort}
use Rattle.sc_terms.proofs.OrderLaws.{tree_cmp_level}
use Rattle.sc_term_laws.specs.Tests.{name_of}
use Rattle.sc_term_laws.proofs.TestLaws.{at_level}
use Rattle.sc_rule_laws.proofs.MemberLaws.{filter_within, filter_passes, filter_kept}
use Rattle.sc_footprint.specs.Closure.{Closed}
use Rattle.sc_footprint.specs.Problems.{Posed, IsPosed, goal_term, closed_terms, numbered, number_among}
use Rattle.sc_footprint.proofs.NumberingLaws.{numbered_map, numbered_back}
use Rattle.sc_model_names.specs.Models.{truth_in, name_in, model}
use Rattle.sc_model_laws.specs.Consistent.{IsConsistent}
use Rattle.sc_model_laws.specs.Laws.{HasModel}
use Rattle.sc_model_laws.specs.Models.{IsModel}
use Rattle.sc_model_laws.specs.Names.{Name, Named, literal_id, are_equal, or_fresh, name_in as found_in, text_of, id_of, model_of}
use Rattle.sc_model_laws.proofs.ModelLaws.{id_is}
use Rattle.sc_model_names.specs.Naming.{AreStringNames}
use Rattle.sc_model_names.specs.Numbers.{Entry, named_terms}
use Rattle.sc_model_names.proofs.NamingLaws.{listed}
use Rattle.sc_model_names.specs.Ids.{entity_level, is_entity, entities, is_same, ids_of}
use Rattle.sc_model_names.specs.Namings.{name_by, name_of_term}
use Rattle.sc_model_names.proofs.IdLaws.{ids_told, literal_told}

entity_sort : (k : Sort) → entity_level (out-Sort k) ≡ true → (name : Name) × (us : List Uid) × (k ≡ sort.Entity name us)
entity_sort k = by (out-Sort k) refl where
  by : (l : Sort-F Sort) → out-Sort k ≡ l → entity_level l ≡ true → (name : Name) × (us : List Uid) × (k ≡ sort.Entity name us)
  by (s.Entity name us) e h = (name, us, at_level k (s.Entity name us) e ∙ rolls-Entity name us)
  by _ e h = absurd cc

module _ (p : Posed) (posed : IsPosed p) (m : Assignment) (is : IsConsistent p.schema p.env (goal_term p) (truth_in p m)) (has : HasModel)
    (strings : List Entry) (named : AreStringNames p m strings) where
  base_is : IsModel p.schema p.env (goal_term p) (model_of named.patterns named.texts (closed_terms p) (truth_in p m))
  base_is = has p.schema p.env (goal_term p) (closed_terms p) (truth_in p m) named.patterns named.texts is (listed p posed m) named.asked named.found

  -- ---- entities, and a uid for each class of equal ones

  abbrev uid : Tree → Uid
  uid x = record { type_name = name_of (tree_sort x); id = id_of (truth_in p m) (closed_terms p) x }

  abbrev IsEntity : Tree → Type 0
  IsEntity x = Closed p.schema p.env (goal_term p) x × (is_entity x ≡ true)

  kernel : (x y : Tree) → IsEntity x → IsEntity y → tree_sort x ≡ tree_sort y → (uid x ≡ uid y) ↔ (are_equal (truth_in p m) x y ≡ true)
  kernel x y s t e = let k = entity_sort (tree_sort x) s.1 in base_is.uids k.0 k.1 x y (s.0, k.2) (t.0, sym e ∙ k.2)

  typed : (x y : Tree) → IsEntity x → IsEntity y → tree_sort x ≡ tree_sort y → (uid x).type_name ≡ (uid y).type_name
  typed x y s t e = ap name_of e

  said : (x : Tree) (n : Name) → IsEntity x → literal_id x ≡ Some n → (uid x).id ≡ n
  said x n s e =
      let a = id_is x n e in
      let own = base_is.literal_uid a.0 a.1 (subst (Closed p.schema p.env (goal_term p)) a.2 s.0) in
      ap (λ (z : Tree). (uid z).id) a.2 ∙ ap (λ (u : Uid). u.id) own ∙ a.3

  entity_of : (x : Tree) → Has (entities (closed_terms p)) x → IsEntity x
  unfolding entities
  entity_of x h = ((listed p posed m x).0 (filter_within is_entity (closed_terms p) x h), filter_passes is_entity (closed_terms p) x h)

  of_entity : (x : Tree) → IsEntity x → Has (entities (closed_terms p)) x
  unfolding entities
  of_entity x s = filter_kept is_entity (closed_terms p) x ((listed p posed m x).1 s.0) s.1

  few : length (entities (closed_terms p)) + length (entities (closed_terms p)) < 2 ^ 63
  unfolding entities
  few =
      let parts = length-filter_both is_entity (λ x. not (is_entity x)) (λ x. refl) (closed_terms p) in
      let size : length (closed_terms p) ≡ length p.closed = length-map p.closed _ in
      omega (arith, parts, size, posed.small)

  -- ---- the name of a term

  module _ (texts ids : Named) (names : List Name) (texts_are : texts ≡ named_terms p.nodes strings) (ids_are : ids ≡ ids_of (truth_in p m) (closed_terms p))
      (names_are : names ≡ map (name_of_term (truth_in p m) texts ids) (closed_terms p)) where
    name_is : (x : Tree) → Closed p.schema p.env (goal_term p) x → name_in p names x ≡ name_of_term (truth_in p m) texts ids x
    name_is x c =
        ap (λ (ns : List Name). unwrap_or (numbered ns (number_among (closed_terms p) x)) []) names_are
        ∙ ap (λ (o : Option Name). unwrap_or o []) (sym (numbered_map (name_of_term (truth_in p m) texts ids) (closed_terms p) (number_among (closed_terms p) x))
        ∙ ap (option_map (name_of_term (truth_in p m) texts ids)) (numbered_back tree_cmp_level (closed_terms p) x ((listed p posed m x).1 c)))

    abbrev own_text : Tree → Name
    own_text x = or_fresh (found_in (are_equal (truth_in p m)) texts x) []

    abbrev own_id : Tree → Name
    own_id x = or_fresh (found_in (is_same (truth_in p m)) ids x) []

    string_name : (x : Tree) → Closed p.schema p.env (goal_term p) x → tree_sort x ≡ sort.String
        → name_in p names x ≡ text_of (truth_in p m) named.patterns named.texts (closed_terms p) x
    string_name x c e =
        name_is x c ∙ ap (λ (l : Sort-F Sort). name_by l (own_text x) (own_id x)) (ap out-Sort e ∙ out_String)
        ∙ ap (λ (es : Named). or_fresh (found_in (are_equal (truth_in p m)) es x) []) (texts_are ∙ named.names)

    entity_test : (x : Tree) (name : Name) (us : List Uid) → tree_sort x ≡ sort.Entity name us → is_entity x ≡ true
    entity_test x name us e = ap entity_level (ap out-Sort e ∙ out_Entity name us)

    entity_name : (x : Tree) (name : Name) (us : List Uid) → Closed p.schema p.env (goal_term p) x → tree_sort x ≡ sort.Entity name us
        → name_in p names x ≡ or_fresh (found_in (is_same (truth_in p m)) (ids_of (truth_in p m) (closed_terms p)) x) []
    entity_name x name us c e =
        name_is x c ∙ ap (λ (l : Sort-F Sort). name_by l (own_text x) (own_id x)) (ap out-Sort e ∙ out_Entity name us)
        ∙ ap (λ (es : Named). or_fresh (found_in (is_same (truth_in p m)) es x) []) ids_are

    ids_tell : (x y : Tree) → IsEntity x → IsEntity y → tree_sort x ≡ tree_sort y
        → (or_fresh (found_in (is_same (truth_in p m)) (ids_of (truth_in p m) (closed_terms p)) x) []
        ≡ or_fresh (found_in (is_same (truth_in p m)) (ids_of (truth_in p m) (closed_terms p)) y) []) ↔ (uid x ≡ uid y)
    ids_tell x y s t e = ids_told (truth_in p m) IsEntity uid kernel typed said (entities (closed_terms p)) entity_of few x y (of_entity x s) (of_entity y t) e

    abbrev own_uid : Tree → Uid
    own_uid x = record { type_name = name_of (tree_sort x); id = name_in p names x }

    uids_named : (name : Name) (us : List Uid) (x y : Tree) → Closed p.schema p.env (goal_term p) x × (tree_sort x ≡ sort.Entity name us)
        → Closed p.schema p.env (goal_term p) y × (tree_sort y ≡ sort.Entity name us)
        → (own_uid x ≡ own_uid y) ↔ (are_equal (truth_in p m) x y ≡ true)
    uids_named name us x y s t =
        let a : IsEntity x = (s.0, entity_test x name us s.1) in
        let b : IsEntity y = (t.0, entity_test y name us t.1) in
        let sorts : tree_sort x ≡ tree_sort y = s.1 ∙ sym t.1 in
        let told = ids_tell x y a b sorts in (
          λ e. (kernel x y a b sorts).0 (told.0 (sym (entity_name x name us s.0 s.1) ∙ ap (λ (u : Uid). u.id) e ∙ entity_name y name us t.0 t.1)),
          λ h.
              let types : name_of (tree_sort x) ≡ name_of (tree_sort y) = ap name_of sorts in
              let own : name_in p names x ≡ name_in p names y = entity_name x name us s.0 s.1 ∙ told.1 ((kernel x y a b sorts).1 h) ∙ sym (entity_name y name us t.0 t.1) in
              λ i. record { type_name = types i; id = own i },
        )

    string_sort : (t : List ℕ) → tree_sort (literal_term (literals.String t)) ≡ sort.String
    unfolding tree_sort
    string_sort t = refl

    literal_sort : (u : Uid) (us : List Uid) → tree_sort (literal_term (literals.Entity u us)) ≡ sort.Entity u.type_name us
    unfolding tree_sort
    literal_sort u us = refl

    literal_named : (u : Uid) (us : List Uid) → Closed p.schema p.env (goal_term p) (literal_term (literals.Entity u us))
        → name_in p names (literal_term (literals.Entity u us)) ≡ u.id
    literal_named u us c =
        let e = literal_sort u us in
        entity_name (literal_term (literals.Entity u us)) u.type_name us c e
        ∙ literal_told (truth_in p m) IsEntity uid kernel typed said (entities (closed_terms p)) entity_of few (literal_term (literals.Entity u us)) u.id
        (of_entity (literal_term (literals.Entity u us)) (c, entity_test (literal_term (literals.Entity u us)) u.type_name us e)) refl

    pub is_model : IsModel p.schema p.env (goal_term p) (model p m names)
    unfolding model
    is_model = record {
      consistent = is;
      listed = listed p posed m;
      texts = λ x y s t. (
        λ e. (base_is.texts x y s t).0 (sym (string_name x s.0 s.1) ∙ e ∙ string_name y t.0 t.1),
        λ h. string_name x s.0 s.1 ∙ (base_is.texts x y s t).1 h ∙ sym (string_name y t.0 t.1),
      );
      literal_text = λ t c. string_name (literal_term (literals.String t)) c (string_sort t) ∙ base_is.literal_text t c;
      likes = λ q x y c e k. ap (λ (t : Name). is_match q (chars t)) (string_name x c e) ∙ base_is.likes q x y c e k;
      uids = λ name us x y s t. uids_named name us x y s t;
      typed = λ name us x e. base_is.typed name us x e;
      literal_uid = λ u us c.
          let types : name_of (tree_sort (literal_term (literals.Entity u us))) ≡ u.type_name = ap (λ (v : Uid). v.type_name) (base_is.literal_uid u us c) in
          let own = literal_named u us c in
          λ i. record { type_name = types i; id = own i };
    }
