-- An entity of a type of actions is a declared one, and what a model has under its ancestors of a type are the declared ones.
use Rattle.std.proofs.Common.{◌≡◌, ◌↔◌, inl, cond, ℕ, Bool, true, false, List, [], ◌∷◌, map, Option, Some, option_map, unwrap_or, Contains, refl, sym, ap, ◌∙◌, subst}
use Rattle.std.specs.Ordering.{is_eq}
use Rattle.std.proofs.lemmas.Cmp.{tied_itself}
use Rattle.sc_lists.specs.Members.{Has}
use Rattle.sc_lists.proofs.OrderingLaws.{is_eq_true}
use Rattle.sc_lists.proofs.MemberLaws.{Has-map, map-Has, Has-from_Contains, Contains-from_Has}
use Rattle.sc_names.specs.declared.uid.Uid.{Uid}
use Rattle.sc_names.specs.Uids.{uid_cmp}
use Rattle.sc_names.proofs.UidLaws.{uid_cmp_total, uid_cmp_level}
use Rattle.sc_schema.specs.declared.declarations.Action.{Action}
use Rattle.sc_schema.specs.declared.declarations.Env.{Env}
use Rattle.sc_schema.specs.Declarations.{Declarations, action, action_uids, action_ancestors, is_action_type}
use Rattle.sc_schema.specs.Lawful.{IsLawful}
use Rattle.sc_schema.proofs.LookupLaws.{action_found}
use Rattle.sc_sorts.specs.declared.sort.Sort.{Sort, out-Sort}
use Rattle.sc_sorts.specs.Entities.{of_type_name, choices_of, entity_sort}
use Rattle.sc_sorts.specs.Inside.{name_in}
use Rattle.sc_sorts.proofs.OutLaws.{out_Entity}
use Rattle.sc_sorts.specs.declared.node.BinaryOp.TheVariants as binary
use Rattle.sc_sorts.specs.declared.node.Leaf.TheVariants as leafs
use Rattle.sc_sorts.specs.declared.node.Literal.TheVariants as literal
use Rattle.sc_sorts.specs.declared.node.UnaryOp.TheVariants as unary
use Rattle.sc_terms.specs.Trees.{Tree, leaf, one, two}
use Rattle.sc_terms.specs.TreeSorts.{tree_sort}
use Rattle.sc_terms.specs.Folds.{literal_term, equal_term}
use Rattle.sc_term_laws.proofs.ChoicesLaws.{chosen, no_actions}
use Rattle.sc_term_laws.proofs.MemberLaws.{any_found}
use Rattle.sc_term_laws.proofs.SortsLawful.{action_of, listed_below}
use Rattle.sc_rule_laws.specs.Signed.{Signed, so, unless}
use Rattle.sc_rule_laws.specs.Entities.{is_uid_in, is_literal_of, en7, en7_of, en7_by}
use Rattle.sc_rule_laws.specs.Terms.{entity}
use Rattle.sc_rule_laws.proofs.MemberLaws.{has_any}
use Rattle.sc_closure_rules.specs.Closure.{Closed, uid_term}
use Rattle.sc_model_laws.specs.Assignments.{lit}
use Rattle.sc_model_laws.specs.Consistent.{of_en7}
use Rattle.sc_model_laws.specs.Vals.{Model, assigned}
use Rattle.sc_model_laws.specs.Models.{IsModel}
use Rattle.sc_model_laws.proofs.HoldLaws.{others, last, some_so}
use Rattle.sc_model_laws.proofs.CompositeClaims.{all_so}
use Rattle.sc_model_laws.proofs.ChosenLaws.{equated, told_uid, told_listed}
use Rattle.sc_model_laws.proofs.ClosureLaws.{of_part, declared_closed, declared_member}
use Rattle.sc_model_laws.proofs.EntityLaws.{OfAncestors, ancestors_sort, ruled, member_true, true_member, ancestors_move}
use Rattle.sc_model_laws.proofs.FittingLaws.{AreMade, assigned_sorted}

-- what is chosen by its type
pub named_choice : (name : List ℕ) (us : List Uid) (u : Uid) → Has (of_type_name name us) u → Contains us u × (u.type_name ≡ name)
named_choice name us u h = let it = chosen name us u (Contains-from_Has (of_type_name name us) u h) in (it.among, it.named)

uid_among : (us : List Uid) (u : Uid) → is_uid_in us u ≡ true → Has us u
uid_among us u e =
    let found = any_found (λ (v : Uid). is_eq (uid_cmp u v)) us e in
    subst (Has us) (sym (uid_cmp_level u found.0 (is_eq_true (uid_cmp u found.0) found.2))) (Has-from_Contains us found.0 found.1)

among_uid : (us : List Uid) (u : Uid) → Has us u → is_uid_in us u ≡ true
among_uid us u h = has_any (λ (v : Uid). is_eq (uid_cmp u v)) us u h (ap is_eq (tied_itself uid_cmp_total u))

-- a term that is a literal of one of some entities
literal_among : (us : List Uid) (x : Tree) → is_literal_of us x ≡ true → (u : Uid) × (vs : List Uid) × (x ≡ literal_term (literal.Entity u vs)) × Has us u
literal_among us (leaf (leafs.Literal (literal.Entity u vs))) e = (u, vs, refl, uid_among us u e)
literal_among us _ e = absurd cc

module _ (d : Declarations) (env : Env) (literals : List Uid) (goal : Tree) (made : AreMade d env literals goal) (m : Model) (model : IsModel d env goal m) (lawful : IsLawful d) where
  module _ (k : Sort) (e : Tree) (c : Closed d env goal (one (unary.Ancestors k) e)) (p : OfAncestors d env literals k e) (acts : is_action_type d p.name ≡ true) where
    abbrev us : List Uid
    us = choices_of d p.name

    action_closed : (u : Uid) → Has (choices_of d p.name) u → Closed d env goal (one (unary.Ancestors k) (uid_term (choices_of d p.name) u))
    action_closed u h = declared_closed d env goal k e p.name (choices_of d p.name) u p.sorted c h

    uid_closed : (u : Uid) → Has (choices_of d p.name) u → Closed d env goal (uid_term (choices_of d p.name) u)
    uid_closed u h = of_part d env goal (one (unary.Ancestors k) (uid_term (choices_of d p.name) u)) (uid_term (choices_of d p.name) u) (action_closed u h) (inl refl)

    whole : Closed d env goal e
    whole = of_part d env goal (one (unary.Ancestors k) e) e c (inl refl)

    -- ---- it is declared

    pub is_declared : Has (choices_of d p.name) (m.uid e)
    is_declared = told_listed d env goal m model p.name e p.sorted whole uid_closed (λ none. let both : true ≡ false = sym acts ∙ no_actions d p.name none in cc)

    declared_one : (u : Uid) → Has (choices_of d p.name) u → Contains (action_uids d) u
    declared_one u h = (listed_below d lawful p.name p.above p.names p.declared p.among u (Contains-from_Has (choices_of d p.name) u h)).among

    pub is_action : Contains (action_uids d) (m.uid e)
    is_action = declared_one (m.uid e) is_declared

    -- ---- its ancestors

    module _ (u : Uid) (h : Has (choices_of d p.name) u) where
      abbrev set : Tree
      set = one (unary.Ancestors k) (uid_term (choices_of d p.name) u)

      abbrev above_uids : List Uid
      above_uids = of_type_name p.above (unwrap_or (action_ancestors d u) [])

      ups_are : (us : List Uid) × (action_ancestors d u ≡ Some us)
      ups_are =
          let a = action_of d lawful u (declared_one u h) in
          (a.0.ancestors, ap (option_map (λ (b : Action). b.ancestors)) (ap (action d) (sym a.2) ∙ action_found d a.0 lawful a.1))

      said_of : (x : Tree) → en7 d set x ≡ Some (en7_of d set above_uids x)
      said_of x =
          let ups = ups_are in
          let name_is : name_in (out-Sort k) ≡ p.above = ap (λ (j : Sort). name_in (out-Sort j)) p.own ∙ ap name_in (out_Entity p.above (choices_of d p.above)) in
          let listed : Some (en7_of d set (of_type_name p.above ups.0) x) ≡ Some (en7_of d set above_uids x) =
          ap (λ (o : Option (List Uid)). Some (en7_of d set (of_type_name p.above (unwrap_or o [])) x)) (sym ups.1) in
          ap (λ (n : List ℕ). en7_by d set n (action_ancestors d u) x) name_is ∙ ap (λ (o : Option (List Uid)). en7_by d set p.above o x) ups.1 ∙ listed

      member_whole : (v : Uid) → Has above_uids v → Closed d env goal (two binary.Member (uid_term (choices_of d p.above) v) set)
      member_whole v g =
          subst (λ (j : Sort). Closed d env goal (two binary.Member (uid_term (choices_of d p.above) v) (one (unary.Ancestors j) (uid_term (choices_of d p.name) u)))) (sym p.own)
          (declared_member d env goal p.above (choices_of d p.above) e p.name (choices_of d p.name) u v p.sorted (subst (λ (j : Sort). Closed d env goal (one (unary.Ancestors j) e)) p.own c) h g)

      above_closed : (v : Uid) → Has above_uids v → Closed d env goal (uid_term (choices_of d p.above) v)
      above_closed v g = of_part d env goal (two binary.Member (uid_term (choices_of d p.above) v) set) (uid_term (choices_of d p.above) v) (member_whole v g) (inl refl)

      listed_is : (y : Tree) → Has (assigned m set) y → Has above_uids (m.uid y)
      listed_is y a = by (is_literal_of above_uids y) refl where
        t : Closed d env goal (two binary.Member y set) × (lit m.truths (two binary.Member y set) ≡ true)
        t = member_true d env literals goal made m model set y a

        there : Closed d env goal y × (tree_sort y ≡ k)
        there = assigned_sorted d env literals goal made m model k set y (ancestors_sort k (uid_term (choices_of d p.name) u)) a

        type_of : (v : Uid) → Has above_uids v → v.type_name ≡ p.above
        type_of v g = (named_choice p.above (unwrap_or (action_ancestors d u) []) v g).1

        by : (b : Bool) → is_literal_of above_uids y ≡ b → Has above_uids (m.uid y)
        by true q =
            let l = literal_among above_uids y q in
            let id : m.uid y ≡ l.0 = ap m.uid l.2 ∙ model.literal_uid l.0 l.1 (subst (Closed d env goal) l.2 there.0) in
            subst (Has above_uids) (sym id) l.3
        by false q =
            let rest : List Signed = map (λ v. so (equal_term y (entity d v))) above_uids in
            let parts : List Signed = unless (two binary.Member y set) ∷ rest in
            let said : en7 d set y ≡ Some parts = said_of y ∙ ap (λ (b : Bool). Some (cond b (so (two binary.Member y set) ∷ []) parts)) q in
            let s : tree_sort y ≡ entity_sort d p.above = there.1 ∙ p.own in
            let found = some_so m.truths (λ v. equal_term y (entity d v)) above_uids
            (others m.truths false (two binary.Member y set) rest
            (ruled d env literals goal made m model (en7 d set y) parts (of_en7 set y (action_closed u h) there.0) said
            (t.0, all_so (Closed d env goal) (λ v. equal_term y (entity d v)) above_uids (λ v g. equated d env goal m model p.above y v (type_of v g) s there.0 (above_closed v g)))) t.1) in
            subst (Has above_uids) (sym (told_uid d env goal m model p.above y found.0 (type_of found.0 found.1) s there.0 (above_closed found.0 found.1) found.2)) found.1

      is_listed : (v : Uid) → Has above_uids v → Has (assigned m set) (uid_term (choices_of d p.above) v)
      is_listed v g =
          let x : Tree = uid_term (choices_of d p.above) v in
          let said : en7 d set x ≡ Some (so (two binary.Member x set) ∷ []) =
          said_of x ∙ ap (λ (b : Bool). Some (cond b (so (two binary.Member x set) ∷ []) (unless (two binary.Member x set) ∷ map (λ w. so (equal_term x (entity d w))) above_uids))) (among_uid above_uids v g) in
          true_member d env literals goal made m model set x (member_whole v g)
          (last m.truths true (two binary.Member x set)
          (ruled d env literals goal made m model (en7 d set x) (so (two binary.Member x set) ∷ []) (of_en7 set x (action_closed u h) (above_closed v g)) said (member_whole v g, tt)))

    pub action_members : (v : Uid) → Has (map m.uid (assigned m (one (unary.Ancestors k) e))) v ↔ Has (of_type_name p.above (unwrap_or (action_ancestors d (m.uid e)) [])) v
    action_members v =
        let u : Uid = m.uid e in
        let t : Tree = uid_term (choices_of d p.name) (m.uid e) in
        let i = action_closed (m.uid e) is_declared in
        let one_uid : m.uid t ≡ m.uid e = model.literal_uid (m.uid e) (choices_of d p.name) (uid_closed (m.uid e) is_declared) in (
          λ h.
              let y = map-Has m.uid (assigned m (one (unary.Ancestors k) e)) v h in
              subst (Has (of_type_name p.above (unwrap_or (action_ancestors d (m.uid e)) []))) y.2
              (listed_is (m.uid e) is_declared y.0 (ancestors_move d env literals goal made m model k e t y.0 c i (sym one_uid) y.1)),
          λ h.
              let x : Tree = uid_term (choices_of d p.above) v in
              let id : m.uid x ≡ v = model.literal_uid v (choices_of d p.above) (above_closed (m.uid e) is_declared v h) in
              subst (Has (map m.uid (assigned m (one (unary.Ancestors k) e)))) id
              (Has-map m.uid (assigned m (one (unary.Ancestors k) e)) x
              (ancestors_move d env literals goal made m model k t e x i c one_uid (is_listed (m.uid e) is_declared v h))),
        )
