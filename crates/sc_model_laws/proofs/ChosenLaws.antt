-- A model names an entity whose type lists some after one of these: a declared action, or a choice of an enumerated type.
use Rattle.std.proofs.Common.{◌≡◌, ◌==◌, inl, inr, ℕ, Bool, true, false, not, List, [], ◌∷◌, map, length, Option, Some, None, Contains, refl, sym, ap, ◌∙◌, subst}
use Rattle.sc_lists.specs.Members.{Has}
use Rattle.sc_lists.proofs.ListLaws.{all_element}
use Rattle.sc_lists.proofs.MemberLaws.{Contains-from_Has}
use Rattle.sc_names.specs.declared.uid.Uid.{Uid}
use Rattle.sc_schema.specs.declared.declarations.Env.{Env}
use Rattle.sc_schema.specs.Declarations.{Declarations, action_uids, is_action_type}
use Rattle.sc_schema.specs.Lawful.{IsLawful}
use Rattle.sc_world.specs.Choices.{is_choice, IsChoice}
use Rattle.sc_world.specs.Named.{IsDeclared as IsDeclaredUid}
use Rattle.sc_sorts.specs.declared.sort.Sort.{Sort, Sort-F, out-Sort}
use Rattle.sc_sorts.specs.declared.sort.Sort.TheVariants as sort
use Rattle.sc_sorts.specs.declared.sort.Sort.TheOpen as s
use Rattle.sc_sorts.specs.Entities.{choices_of, entity_sort}
use Rattle.sc_sorts.proofs.EveryLaws.{in_Entity}
use Rattle.sc_sorts.proofs.OutLaws.{out_Bool, out_Long, out_String, out_Decimal, out_Ip, out_Entity}
use Rattle.sc_sorts.specs.NodeSorts.{literal_sort}
use Rattle.sc_sorts.specs.declared.node.Leaf.TheVariants as leafs
use Rattle.sc_sorts.specs.declared.node.Literal.{Literal}
use Rattle.sc_sorts.specs.declared.node.Literal.TheVariants as literal
use Rattle.sc_terms.specs.Trees.{Tree, leaf}
use Rattle.sc_terms.specs.TreeSorts.{tree_sort}
use Rattle.sc_terms.specs.Folds.{literal_term, literal_of, equal_term}
use Rattle.sc_term_laws.specs.Judging.{IsTermOf}
use Rattle.sc_term_laws.specs.Judging as judged
use Rattle.sc_term_laws.specs.LawfulSorts.{IsSortLevel, IsSortOf}
use Rattle.sc_term_laws.proofs.ChoicesLaws.{ids_in, there_action, listed_of, listed_choice, declared_choice}
use Rattle.sc_term_laws.proofs.SortsLawful.{choice_from}
use Rattle.sc_term_laws.proofs.ToldLaws.{empty_is}
use Rattle.sc_rule_laws.specs.Signed.{Signed, so, given}
use Rattle.sc_rule_laws.specs.Entities.{chosen_of, is_acting}
use Rattle.sc_rule_laws.specs.Terms.{entity, choices_level, choices_in}
use Rattle.sc_closure_rules.specs.Closure.{Closed, uid_term}
use Rattle.sc_closure_rules.specs.Goals.{IsGoal}
use Rattle.sc_closure_rules.proofs.SortLaws.{sort_lawful}
use Rattle.sc_model_laws.specs.Assignments.{lit}
use Rattle.sc_model_laws.specs.Consistent.{IsRuleAt, of_en8, of_eq9}
use Rattle.sc_model_laws.specs.Vals.{Model}
use Rattle.sc_model_laws.specs.Models.{IsModel}
use Rattle.sc_model_laws.proofs.ClosureLaws.{choice_closed, entities_equation}
use Rattle.sc_model_laws.proofs.CompositeClaims.{all_so}
use Rattle.sc_model_laws.proofs.HoldLaws.{some_so}

pub some_are : (us : List Uid) → (us ≡ [] → ⊥) → not (length us == 0) ≡ true
some_are us h = by (length us == 0) refl where
  by : (b : Bool) → (length us == 0) ≡ b → not b ≡ true
  by true e = absurd (h (empty_is us e))
  by false e = refl

uid_sort : (us : List Uid) (u : Uid) → tree_sort (uid_term us u) ≡ sort.Entity u.type_name us
unfolding tree_sort
uid_sort us u = refl

literal_sorted : (l : Literal) → tree_sort (leaf (leafs.Literal l)) ≡ literal_sort l
unfolding tree_sort
literal_sorted l = refl

-- a literal of an entity sort, by the sort's kind
at_literal : (l : Literal) (name : List ℕ) (us : List Uid) (x : Sort-F Sort) → tree_sort (leaf (leafs.Literal l)) ≡ sort.Entity name us → out-Sort (literal_sort l) ≡ x → x ≡ s.Entity name us
at_literal l name us x e f = sym f ∙ ap out-Sort (sym (literal_sorted l) ∙ e) ∙ out_Entity name us

module _ (d : Declarations) (env : Env) (goal : Tree) (m : Model) (model : IsModel d env goal m) where
  pub entity_is : (name : List ℕ) (u : Uid) → u.type_name ≡ name → entity d u ≡ uid_term (choices_of d name) u
  entity_is name u e = ap (λ (n : List ℕ). literal_term (literal.Entity u (choices_of d n))) e

  pub entity_sorted : (name : List ℕ) (u : Uid) → u.type_name ≡ name → tree_sort (uid_term (choices_of d name) u) ≡ entity_sort d name
  entity_sorted name u e = uid_sort (choices_of d name) u ∙ ap (λ (n : List ℕ). sort.Entity n (choices_of d name)) e

  -- the equation of a term with a closed entity
  pub equated : (name : List ℕ) (x : Tree) (u : Uid) → u.type_name ≡ name → tree_sort x ≡ entity_sort d name → Closed d env goal x → Closed d env goal (uid_term (choices_of d name) u)
      → Closed d env goal (equal_term x (entity d u))
  equated name x u n k c g =
      subst (λ (t : Tree). Closed d env goal (equal_term x t)) (sym (entity_is name u n)) (entities_equation d env goal name (choices_of d name) x (uid_term (choices_of d name) u) k (entity_sorted name u n) c g)

  pub told_uid : (name : List ℕ) (x : Tree) (u : Uid) → u.type_name ≡ name → tree_sort x ≡ entity_sort d name → Closed d env goal x → Closed d env goal (uid_term (choices_of d name) u)
      → lit m.truths (equal_term x (entity d u)) ≡ true → m.uid x ≡ u
  told_uid name x u n k c g t =
      (model.uids name (choices_of d name) x (uid_term (choices_of d name) u) (c, k) (g, entity_sorted name u n)).1 (ap (λ (z : Tree). lit m.truths (equal_term x z)) (sym (entity_is name u n)) ∙ t)
      ∙ model.literal_uid u (choices_of d name) g

  -- where those that its type lists are closed, by EN8 or by EQ9
  pub told_listed : (name : List ℕ) (x : Tree) → tree_sort x ≡ entity_sort d name → Closed d env goal x → ((u : Uid) → Has (choices_of d name) u → Closed d env goal (uid_term (choices_of d name) u)) → (choices_of d name ≡ [] → ⊥)
      → Has (choices_of d name) (m.uid x)
  told_listed name x k c closed some = by (is_acting d x) refl
    where
      us : List Uid
      us = choices_of d name

      parts : List Signed
      parts = map (λ u. so (equal_term x (entity d u))) (choices_of d name)

      listed : choices_in x ≡ choices_of d name
      listed = ap choices_level (ap out-Sort k ∙ out_Entity name (choices_of d name))

      type_of : (u : Uid) → Has (choices_of d name) u → u.type_name ≡ name
      type_of u h = (listed_of d name u (Contains-from_Has (choices_of d name) u h)).named

      from_rule : (asked : Bool) → asked ≡ true → IsRuleAt d (Closed d env goal) (chosen_of d x asked (choices_in x)) → Has (choices_of d name) (m.uid x)
      from_rule asked t rule =
          let said : chosen_of d x asked (choices_in x) ≡ Some parts = (λ i. chosen_of d x (t i) (listed i)) ∙ ap (λ (b : Bool). given b parts) (some_are us some) in
          let found = some_so m.truths (λ u. equal_term x (entity d u)) us
          (model.consistent.rules parts (subst (IsRuleAt d (Closed d env goal)) said rule)
          (all_so (Closed d env goal) (λ u. equal_term x (entity d u)) us (λ u h. equated name x u (type_of u h) k c (closed u h)))) in
          subst (Has us) (sym (told_uid name x found.0 (type_of found.0 found.1) k c (closed found.0 found.1) found.2)) found.1

      by : (b : Bool) → is_acting d x ≡ b → Has (choices_of d name) (m.uid x)
      by true e = from_rule (is_acting d x) e (of_en8 x c)
      by false e = from_rule (not (is_acting d x)) (ap not e) (of_eq9 x c)

  module _ (literals : List Uid) (made : (x : Tree) → Closed d env goal x → IsTermOf d env literals (tree_sort x) x) (lawful : IsLawful d) (is : IsGoal d env literals goal) where
    -- a sort lists what its type does
    sort_lists : (name : List ℕ) (us : List Uid) (x : Tree) → Closed d env goal x → tree_sort x ≡ sort.Entity name us → us ≡ choices_of d name
    sort_lists name us x c e = ((in_Entity (IsSortLevel d) name us).0 (subst (IsSortOf d) e (sort_lawful d env literals lawful is.environment is.declared (tree_sort x) x (made x c)))).1

    -- an entity that is written
    written_choice : (k : Sort) (u : Uid) (us : List Uid) → IsTermOf d env literals k (leaf (leafs.Literal (literal.Entity u us))) → is_choice (ids_in us) u.id ≡ true
    written_choice _ _ _ (judged.of_uid u (inl h)) =
        let it = all_element (IsDeclaredUid d) literals u is.declared h in
        declared_choice d u (λ acts. there_action d u (it.as_action acts)) it.as_choice
    written_choice _ _ _ (judged.of_uid u (inr h)) = listed_choice (choices_of d u.type_name) u h
    written_choice _ _ _ (judged.of_default name h e) = refl

    -- and another one, whose sort lists closed entities
    plain_choice : (name : List ℕ) (us : List Uid) (x : Tree) → literal_of x ≡ None → Closed d env goal x → tree_sort x ≡ sort.Entity name us → is_choice (ids_in us) (m.uid x).id ≡ true
    plain_choice name us x plain c e = ap (λ (vs : List Uid). is_choice (ids_in vs) (m.uid x).id) are ∙ by (choices_of d name) refl
      where
        are : us ≡ choices_of d name
        are = sort_lists name us x c e

        sorted : tree_sort x ≡ entity_sort d name
        sorted = e ∙ ap (sort.Entity name) are

        by : (vs : List Uid) → choices_of d name ≡ vs → is_choice (ids_in (choices_of d name)) (m.uid x).id ≡ true
        by [] f = ap (λ (vs : List Uid). is_choice (ids_in vs) (m.uid x).id) f
        by (v ∷ vs) f =
            listed_choice (choices_of d name) (m.uid x)
            (Contains-from_Has (choices_of d name) (m.uid x)
            (told_listed name x sorted c (λ u h. choice_closed d env goal name (choices_of d name) x u sorted plain c h) (λ none. let both : v ∷ vs ≡ [] = sym f ∙ none in cc)))

    -- the name of a closed entity is among those that its sort lists, where it lists any
    pub uid_choice : (name : List ℕ) (us : List Uid) (x : Tree) → Closed d env goal x → tree_sort x ≡ sort.Entity name us → is_choice (ids_in us) (m.uid x).id ≡ true
    uid_choice name us (leaf (leafs.Literal (literal.Entity u vs))) c e =
        let x = leaf (leafs.Literal (literal.Entity u vs)) in
        let same : vs ≡ us = ap choices_level (at_literal (literal.Entity u vs) name us (s.Entity u.type_name vs) e (out_Entity u.type_name vs)) in
        subst (λ (ws : List Uid). is_choice (ids_in ws) (m.uid x).id ≡ true) same
        (ap (λ (v : Uid). is_choice (ids_in vs) v.id) (model.literal_uid u vs c) ∙ written_choice (tree_sort x) u vs (made x c))
    uid_choice name us (leaf (leafs.Literal (literal.Bool b))) c e = absurd (let f = at_literal (literal.Bool b) name us s.Bool e out_Bool in cc)
    uid_choice name us (leaf (leafs.Literal (literal.Long n))) c e = absurd (let f = at_literal (literal.Long n) name us s.Long e out_Long in cc)
    uid_choice name us (leaf (leafs.Literal (literal.String t))) c e = absurd (let f = at_literal (literal.String t) name us s.String e out_String in cc)
    uid_choice name us (leaf (leafs.Literal (literal.Decimal n))) c e = absurd (let f = at_literal (literal.Decimal n) name us s.Decimal e out_Decimal in cc)
    uid_choice name us (leaf (leafs.Literal (literal.Ip ip))) c e = absurd (let f = at_literal (literal.Ip ip) name us s.Ip e out_Ip in cc)
    uid_choice name us x c e = plain_choice name us x refl c e

    -- so it is a choice of its type, if that is enumerated
    pub uid_is_choice : (name : List ℕ) (us : List Uid) (x : Tree) → Closed d env goal x → tree_sort x ≡ sort.Entity name us → IsChoice d (m.uid x)
    uid_is_choice name us x c e =
        choice_from d lawful (m.uid x)
        (ap (λ (n : List ℕ). is_choice (ids_in (choices_of d n)) (m.uid x).id) (model.typed name us x e) ∙ ap (λ (vs : List Uid). is_choice (ids_in vs) (m.uid x).id) (sym (sort_lists name us x c e)) ∙ uid_choice name us x c e)
