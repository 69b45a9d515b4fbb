-- `in`: entities that may be in others, and declared actions.
use Rattle.std.proofs.Common.{◌≡◌, ◌||◌, ◌↔◌, inl, inr, ℕ, List, [], ◌∷◌, map, Bool, true, false, if◌then◌else◌, Option, Some, None, unwrap_or, option_map, IsTrue, IsSomeAnd, Contains, Result, Ok, IfOk, refl, sym, ap, subst, ◌∙◌}
use Rattle.std.specs.List.{AllByRecursion, list_any}
use Rattle.std.specs.Option.{option_and_then}
use Rattle.std.specs.Str.{bytes_eq}
use Rattle.std.proofs.lemmas.Slice.Eq.{bytes_eq-Decides}
use Rattle.std.proofs.lemmas.Bool.{or_from, or_parts, false_from_ne_true}
use Rattle.sc_laws.proofs.BoolLaws.{same_truth}
use Rattle.sc_lists.proofs.ListLaws.{list_any_false, contains_nothing, contains_split, contains_rest, contains_first}
use Rattle.sc_ast.specs.declared.expr.Expr.{Expr, Expr-F, out-Expr, map-Expr, fold_out-Expr}
use Rattle.sc_ast.specs.declared.expr.Expr.TheOpen as e
use Rattle.sc_ast.specs.declared.literal.Literal.{Literal}
use Rattle.sc_ast.specs.declared.literal.Literal.TheVariants as literal
use Rattle.sc_names.specs.declared.uid.Uid.{Uid}
use Rattle.sc_schema.specs.declared.declarations.Action.{Action}
use Rattle.sc_schema.specs.declared.declarations.Env.{Env}
use Rattle.sc_schema.specs.declared.ty.Ty.{Ty, Ty-F, out-Ty}
use Rattle.sc_schema.specs.declared.ty.Ty.TheVariants as types
use Rattle.sc_schema.specs.declared.ty.Ty.TheOpen as t
use Rattle.sc_schema.specs.Declarations.{Declarations, uid_eq, ancestor_types, action, action_ancestors, is_action_type}
use Rattle.sc_schema.specs.Lawful.{IsLawful}
use Rattle.sc_schema.proofs.LookupLaws.{action_found, action_declared}
use Rattle.sc_schema.proofs.PlaceLaws.{uid_eq-Decides}
use Rattle.sc_values.specs.declared.value.Value.{Value, out-Value}
use Rattle.sc_values.specs.declared.value.Value.TheVariants as value
use Rattle.sc_values.specs.declared.value.Value.TheOpen as v
use Rattle.sc_values.proofs.OutLaws.{out_Entity, out_Set}
use Rattle.sc_world.specs.declared.entity.EntityData.{EntityData}
use Rattle.sc_world.specs.declared.world.World.{World}
use Rattle.sc_world.specs.Stores.{stored}
use Rattle.sc_world.specs.WellFormed.{Entry, HasAncestorTypes, IsAction, IsStored, action_data, IsWellFormed}
use Rattle.sc_eval.specs.declared.error.EvalError.{EvalError}
use Rattle.sc_eval.specs.Outcomes.{Outcome, ◌>>=◌}
use Rattle.sc_eval.specs.Entities.{same_uid, ancestors_of, is_or_in, all_entities, entities_in, is_in}
use Rattle.sc_eval.specs.Collections.{members_of}
use Rattle.sc_eval.specs.Eval.{Meaning, all_values, eval_step, eval}
use Rattle.sc_eval.specs.CollectionLaws.{members_of-set}
use Rattle.sc_typed.specs.declared.typed_expr.TypedExpr.{TypedExpr}
use Rattle.sc_typed.specs.Types.{entity_name, entity_name_in, group, group_in, member, member_in, truth}
use Rattle.sc_typed.specs.Capabilities.{Capabilities}
use Rattle.sc_typed.specs.Outcomes.{ty}
use Rattle.sc_typed.specs.Literals.{literal_of, uid_in, uid_of}
use Rattle.sc_typing_rules.specs.Operators.{may_be_in, within, action_of, uids_of, some_uids_of, group_of, meets, decided_by, decided}
use Rattle.sc_typing_rules.specs.Operators as ops
use Rattle.sc_typing_rules.specs.Rules.{Operand, membership_by, membership}
use Rattle.sc_typed.proofs.OutcomeLaws.{through, found}
use Rattle.sc_soundness_laws.specs.Sound.{IsOf, OrOverflows, AllHold, SoundAs, Sounds}
use Rattle.sc_soundness_laws.proofs.ValueLaws.{Fits, bool_fits, false_fits, truth_fits, entity_of, as_entity-is, set_of, follows}
use Rattle.sc_soundness_laws.proofs.LiteralLaws.{same_uid-decides, same_uid-eq}
use Rattle.sc_soundness_laws.proofs.EqualLaws.{literal-eval, same_value, same_entity}
use Rattle.sc_soundness_laws.proofs.ObjectLaws.{of_stored, data_of}
use Rattle.sc_soundness_laws.proofs.ListLaws.{each_weaker, contained, each_contained, any_contained, one_passes}

-- ---- tests of lists

some_is : {X : Type 0} (x y : X) → ◌≡◌ {A = Option X} (Some x) (Some y) → x ≡ y
some_is x y h = cc

clash : (Q : Type 0) (b : Bool) → b ≡ true → b ≡ false → Q
clash Q b told apart = absurd (let e : true ≡ false = sym told ∙ apart in cc)

-- ---- the entities on the right side

-- entities of one type that a value stands for, as `in` asks for them
record AreOf (name : List ℕ) (y : Value) (us : List Uid) : Type 0 where
  entities : entities_in (out-Value y) ≡ Ok us
  named : AllByRecursion (λ (u : Uid). u.type_name ≡ name) us

module _ (w : World) where
  all_of : (name : List ℕ) (type : Ty) (xs : List Value) → entity_name type ≡ Some name → AllByRecursion (IsOf w type) xs → (us : List Uid) × (all_entities xs ≡ Ok us) × AllByRecursion (λ (u : Uid). u.type_name ≡ name) us
  all_of name type [] k h = ([], refl, tt)
  all_of name type (x ∷ xs) k h =
      let p = entity_of w name type x k h.0 in
      let q = all_of name type xs k h.1 in (
        p.0 ∷ q.0,
        ap (λ (o : Result Uid EvalError). o >>= λ u. all_entities xs >>= λ us. Ok (u ∷ us)) (as_entity-is w x p.0 p.1.entity) ∙ ap (λ (o : Result (List Uid) EvalError). o >>= λ us. Ok (p.0 ∷ us)) q.1,
        (p.1.named, q.2),
      )

  one_entity : (name : List ℕ) (type : Ty) (y : Value) → entity_name type ≡ Some name → IsOf w type y → (us : List Uid) × AreOf name y us
  one_entity name type y k h =
      let p = entity_of w name type y k h in
      (p.0 ∷ [], record { entities = ap entities_in (ap out-Value p.1.entity ∙ out_Entity p.0); named = (p.1.named, tt) })

  set_entities : (name : List ℕ) (type set_type : Ty) (y : Value) → member set_type ≡ Some type → entity_name type ≡ Some name → IsOf w set_type y → (us : List Uid) × AreOf name y us
  set_entities name type set_type y m k h =
      let p = set_of w type set_type y m h in
      let q = all_of name type p.0 k p.1.members in
      (q.0, record { entities = ap entities_in (ap out-Value p.1.set ∙ out_Set p.0) ∙ q.1; named = q.2 })

  grouped_in : (z : Ty-F Ty) (name : List ℕ) (type : Ty) (y : Value) → out-Ty type ≡ z → group_in z ≡ Some name → IsOf w type y → (us : List Uid) × AreOf name y us
  grouped_in (t.Entity n) name type y at k h = one_entity name type y (ap entity_name_in at ∙ k) h
  grouped_in (t.Set m) name type y at k h = set_entities name m type y (ap member_in at) k h
  grouped_in _ name type y at k h = absurd cc

  -- a value of a type of entities, or of sets of them
  grouped : (name : List ℕ) (type : Ty) (y : Value) → group type ≡ Some name → IsOf w type y → (us : List Uid) × AreOf name y us
  grouped name type y k h = grouped_in (out-Ty type) name type y refl k h

  is_in-is : (m n : Value) (a : Uid) (bs : List Uid) → m ≡ value.Entity a → entities_in (out-Value n) ≡ Ok bs → is_in w m n ≡ Ok (list_any (is_or_in w a) bs)
  is_in-is m n a bs at to =
      ap (λ (o : Result Uid EvalError). o >>= λ u. entities_in (out-Value n) >>= λ us. Ok (list_any (is_or_in w u) us)) (as_entity-is w m a at)
      ∙ ap (λ (o : Result (List Uid) EvalError). o >>= λ us. Ok (list_any (is_or_in w a) us)) to

module _ (s : Declarations) (env : Env) (literals : List Uid) (w : World) (lawful : IsLawful s) (well : IsWellFormed s env literals w) where
  -- ---- by types

  not_above : (o : Option (List (List ℕ))) (u : List ℕ) (c : Uid) → list_any (bytes_eq u) (unwrap_or o []) ≡ false → IsSomeAnd o (λ (names : List (List ℕ)). Contains names c.type_name) → c.type_name ≡ u → ⊥
  not_above None u c apart h is = h
  not_above (Some names) u c apart h is =
      let has : Contains names u = subst (Contains names) is h in
      clash ⊥ (list_any (bytes_eq u) names) (any_contained (bytes_eq u) names u has ((bytes_eq-Decides u u).1 refl)) apart

  other_uid : (u : List ℕ) (b c : Uid) → b.type_name ≡ u → (c.type_name ≡ u → ⊥) → same_uid b c ≡ false
  other_uid u b c named apart = false_from_ne_true (same_uid b c) (λ h. apart (ap (λ (d : Uid). d.type_name) (sym ((same_uid-decides b c).0 h)) ∙ named))

  -- an entity whose ancestors are of other types isn't in one of the type u
  not_in : (t u : List ℕ) (a b : Uid) → may_be_in s t u ≡ false → a.type_name ≡ t → IsStored w.store a → b.type_name ≡ u → is_or_in w a b ≡ false
  not_in t u a b apart at there bt =
      let parts = or_parts (bytes_eq t u) (list_any (bytes_eq u) (unwrap_or (ancestor_types s t) [])) apart in
      let d = data_of a w.store there in
      let above : HasAncestorTypes s (a, d.0) = of_stored (HasAncestorTypes s) a w.store d.0 d.1 well.ancestor_types in
      let moved : AllByRecursion (λ (c : Uid). IsSomeAnd (ancestor_types s t) (λ (names : List (List ℕ)). Contains names c.type_name)) d.0.ancestors =
      subst (λ n. AllByRecursion (λ (c : Uid). IsSomeAnd (ancestor_types s n) (λ (names : List (List ℕ)). Contains names c.type_name)) d.0.ancestors) at above in
      let others : AllByRecursion (λ (c : Uid). same_uid b c ≡ false) d.0.ancestors =
      each_weaker (λ (c : Uid). IsSomeAnd (ancestor_types s t) (λ (names : List (List ℕ)). Contains names c.type_name)) (λ (c : Uid). same_uid b c ≡ false)
      (λ c has. other_uid u b c bt (not_above (ancestor_types s t) u c parts.1 has)) d.0.ancestors moved in
      let first : same_uid a b ≡ false = false_from_ne_true (same_uid a b) (λ h.
      clash ⊥ (bytes_eq t u) ((bytes_eq-Decides t u).1 (sym at ∙ ap (λ (c : Uid). c.type_name) ((same_uid-decides a b).0 h) ∙ bt)) parts.0) in
      let rest : list_any (same_uid b) (ancestors_of (stored a w.store)) ≡ false = ap (λ o. list_any (same_uid b) (ancestors_of o)) d.1 ∙ list_any_false (same_uid b) d.0.ancestors others in
      or_from (same_uid a b) (list_any (same_uid b) (ancestors_of (stored a w.store))) first rest

  in_type : (t u : List ℕ) (a : Uid) (bs : List Uid) (r : Bool) → may_be_in s t u ≡ r → a.type_name ≡ t → IsStored w.store a → AllByRecursion (λ (b : Uid). b.type_name ≡ u) bs → Fits (if r then types.Bool else types.False) (list_any (is_or_in w a) bs)
  in_type t u a bs true may at there named = bool_fits (list_any (is_or_in w a) bs)
  in_type t u a bs false may at there named =
      let none : list_any (is_or_in w a) bs ≡ false = list_any_false (is_or_in w a) bs (each_weaker (λ (b : Uid). b.type_name ≡ u) (λ b. is_or_in w a b ≡ false) (λ b bt. not_in t u a b may at there bt) bs named) in
      subst (Fits types.False) (sym none) false_fits

  abbrev pub InType : TypedExpr → TypedExpr → Ty → Type 0
  InType x y type = (m n : Value) → IsOf w (ty x) m → IsOf w (ty y) n → OrOverflows (Fits type) (is_in w m n)

  pub within_sound : (x y : TypedExpr) → IfOk (within s x y) (InType x y)
  within_sound x y =
      found (entity_name (ty x)) _ _ _ (InType x y) λ t xt.
      found (group (ty y)) _ _ _ (InType x y) λ u yu m n hm hn.
      let p = entity_of w t (ty x) m xt hm in
      let q = grouped w u (ty y) n yu hn in
      subst (OrOverflows (Fits (if may_be_in s t u then types.Bool else types.False))) (sym (is_in-is w m n p.0 q.0 p.1.entity q.1.entities))
      (in_type t u p.0 q.0 (may_be_in s t u) refl p.1.named p.1.stored q.1.named)

  -- ---- a declared action

  ancestors_found : (u : Uid) (o : Option Action) (us : List Uid) → action s u ≡ o → option_map (λ (a : Action). a.ancestors) o ≡ Some us → (a : Action) × (action s u ≡ Some a) × (a.ancestors ≡ us)
  ancestors_found u (Some a) us at h = (a, at, (let is : a.ancestors ≡ us = cc in is))
  ancestors_found u None us at h = absurd cc

  abbrev Stands : Uid → List Uid → Type 0
  Stands u us = ancestors_of (stored u w.store) ≡ us

  declared_data : (u : Uid) (a : Action) (d : EntityData) → action s u ≡ Some a → stored u w.store ≡ Some d → d.ancestors ≡ a.ancestors
  declared_data u a d at there =
      let p = action_declared s u a at in
      let kind : IsTrue (is_action_type s u.type_name) =
      any_contained (λ (b : Action). bytes_eq u.type_name b.uid.type_name) s.actions a p.0 ((bytes_eq-Decides u.type_name a.uid.type_name).1 (ap (λ (c : Uid). c.type_name) p.1)) in
      let q = of_stored (IsAction s) u w.store d there well.actions kind in
      let uid : u ≡ q.0.uid = ap (λ (x : Entry). x.0) q.2 in
      let stored_data : d ≡ action_data q.0 = ap (λ (x : Entry). x.1) q.2 in
      let found_it : action s u ≡ Some q.0 = ap (action s) uid ∙ action_found s q.0 lawful q.1 in
      let one : q.0 ≡ a = some_is q.0 a (sym found_it ∙ at) in
      ap (λ (x : EntityData). x.ancestors) stored_data ∙ ap (λ (b : Action). b.ancestors) one

  -- what is stored of a declared action is what is declared
  stands : (u : Uid) (us : List Uid) → action_ancestors s u ≡ Some us → Stands u us
  stands u us h =
      let p = ancestors_found u (action s u) us refl h in
      let q = action_declared s u p.0 p.1 in
      let there : IsStored w.store u = subst (IsStored w.store) (sym q.1) (contained (λ (a : Action). IsStored w.store a.uid) s.actions p.0 well.declared_actions q.0) in
      let d = data_of u w.store there in
      ap ancestors_of d.1 ∙ declared_data u p.0 d.0 p.1 d.1 ∙ p.2

  turned : (u v : Uid) → same_uid u v ≡ uid_eq v u
  turned u v = same_truth (same_uid u v) (uid_eq v u) (same_uid-decides u v) ((λ h. sym ((uid_eq-Decides v u).0 h)), (λ e. (uid_eq-Decides v u).1 (sym e)))

  same_list : (v : Uid) (xs : List Uid) → list_any (same_uid v) xs ≡ list_any (uid_eq v) xs
  same_list v [] = refl
  same_list v (x ∷ xs) = let one = same_uid-eq v x in let later = same_list v xs in λ i. one i || later i

  -- u is v, or v is among the uids; in the order in which each of the two definitions asks it
  same_tests : (u v : Uid) (us : List Uid) → (same_uid u v || list_any (same_uid v) us) ≡ list_any (uid_eq v) (u ∷ us)
  same_tests u v us = let first = turned u v in let rest = same_list v us in λ i. first i || rest i

  reached : (u v : Uid) (us : List Uid) → Stands u us → is_or_in w u v ≡ list_any (uid_eq v) (u ∷ us)
  reached u v us h = ap (λ (xs : List Uid). same_uid u v || list_any (same_uid v) xs) h ∙ same_tests u v us

  all_reached : (u : Uid) (vs us : List Uid) → Stands u us → list_any (is_or_in w u) vs ≡ meets (u ∷ us) vs
  all_reached u [] us h = refl
  all_reached u (v ∷ vs) us h = let first = reached u v us h in let rest = all_reached u vs us h in λ i. first i || rest i

  -- ---- the right side

  by_literal : (x : Expr) (u : Uid) (o : Option Literal) → literal_of x ≡ o → option_and_then uid_in o ≡ Some u → eval x w ≡ Ok (value.Entity u)
  by_literal x u (Some (literal.Entity v)) at e = let is : v ≡ u = cc in literal-eval x (literal.Entity v) w at ∙ ap (λ (k : Uid). Ok (value.Entity k)) is
  by_literal x u (Some (literal.Bool b)) at e = absurd cc
  by_literal x u (Some (literal.Long n)) at e = absurd cc
  by_literal x u (Some (literal.String text)) at e = absurd cc
  by_literal x u None at e = absurd cc

  uid_value : (x : Expr) (u : Uid) → uid_of x ≡ Some u → eval x w ≡ Ok (value.Entity u)
  uid_value x u h = by_literal x u (literal_of x) refl h

  abbrev entities : List Uid → List Value
  entities us = map (λ (u : Uid). value.Entity u) us

  by_uid : (x : Expr) (xs : List Expr) (us : List Uid) (o : Option Uid) → uid_of x ≡ o → (r : Option (List Uid)) → ((vs : List Uid) → r ≡ Some vs → all_values (map eval xs) w ≡ Ok (entities vs))
      → option_and_then (λ u. option_map (λ vs. u ∷ vs) r) o ≡ Some us → all_values (map eval (x ∷ xs)) w ≡ Ok (entities us)
  by_uid x xs us (Some u) at (Some vs) later e =
      let is : u ∷ vs ≡ us = cc in
      ap (λ (o : Outcome). o >>= λ y. all_values (map eval xs) w >>= λ ys. Ok (y ∷ ys)) (uid_value x u at)
      ∙ ap (λ (r : Result (List Value) EvalError). r >>= λ ys. Ok (value.Entity u ∷ ys)) (later vs refl)
      ∙ ap (λ (ks : List Uid). Ok (entities ks)) is
  by_uid x xs us (Some u) at None later e = absurd cc
  by_uid x xs us None at r later e = absurd cc

  uids_values : (xs : List Expr) (us : List Uid) → uids_of xs ≡ Some us → all_values (map eval xs) w ≡ Ok (entities us)
  uids_values [] us h = let is : ◌≡◌ {A = List Uid} [] us = cc in ap (λ (vs : List Uid). Ok (entities vs)) is
  uids_values (x ∷ xs) us h = by_uid x xs us (uid_of x) refl (uids_of xs) (uids_values xs) h

  -- values that are all entities
  abbrev AreEntities : List Value → Type 0
  AreEntities xs = AllByRecursion (λ (x : Value). (u : Uid) × (x ≡ value.Entity u)) xs

  entities_of : (xs : List Value) → AreEntities xs → (us : List Uid) × (xs ≡ entities us) × (all_entities xs ≡ Ok us)
  entities_of [] h = ([], refl, refl)
  entities_of (x ∷ xs) h =
      let u = h.0.0 in
      let first : x ≡ value.Entity u = h.0.1 in
      let p = entities_of xs h.1 in
      let rest : xs ≡ entities p.0 = p.1 in (
        u ∷ p.0,
        λ i. first i ∷ rest i,
        ap (λ (o : Result Uid EvalError). o >>= λ v. all_entities xs >>= λ vs. Ok (v ∷ vs)) (as_entity-is w x u first) ∙ ap (λ (o : Result (List Uid) EvalError). o >>= λ vs. Ok (u ∷ vs)) p.2,
      )

  among_entities : (us : List Uid) (x : Value) → Contains (entities us) x → (u : Uid) × Contains us u × (x ≡ value.Entity u)
  among_entities [] x has = absurd (contains_nothing x has)
  among_entities (u ∷ us) x has = elim (contains_split (value.Entity u) (entities us) x has) [
    | inl here ↦ (u, contains_first u us, sym here)
    | inr later ↦ let p = among_entities us x later in (p.0, contains_rest u us p.0 p.1, p.2)
  ]

  of_entities : (us : List Uid) (u : Uid) → Contains us u → Contains (entities us) (value.Entity u)
  of_entities [] u has = absurd (contains_nothing u has)
  of_entities (v ∷ us) u has = elim (contains_split v us u has) [
    | inl here ↦ subst (λ (k : Uid). Contains (entities (v ∷ us)) (value.Entity k)) here (contains_first (value.Entity v) (entities us))
    | inr later ↦ contains_rest (value.Entity v) (entities us) (value.Entity u) (of_entities us u later)
  ]

  -- the entities of a set that is written are those that are written
  written_entities : (vs : List Uid) → (us : List Uid) × (entities_in (v.Set (members_of (entities vs))) ≡ Ok us) × ((u : Uid) → Contains us u ↔ Contains vs u)
  written_entities vs =
      let set = members_of-set (entities vs) in
      let all : AreEntities (members_of (entities vs)) = each_contained (λ (x : Value). (u : Uid) × (x ≡ value.Entity u)) (members_of (entities vs)) (λ x has. let p = among_entities vs x ((set.just x).0 has) in (p.0, p.2)) in
      let p = entities_of (members_of (entities vs)) all in (
        p.0,
        p.2,
        λ u. (
          λ has.
              let in_set : Contains (members_of (entities vs)) (value.Entity u) = subst (λ (xs : List Value). Contains xs (value.Entity u)) (sym p.1) (of_entities p.0 u has) in
              let q = among_entities vs (value.Entity u) ((set.just (value.Entity u)).0 in_set) in
              subst (Contains vs) (sym (same_entity u q.0 q.2)) q.1,
          λ has.
              let in_set : Contains (members_of (entities vs)) (value.Entity u) = (set.just (value.Entity u)).1 (of_entities vs u has) in
              let q = among_entities p.0 (value.Entity u) (subst (λ (xs : List Value). Contains xs (value.Entity u)) p.1 in_set) in
              subst (Contains p.0) (sym (same_entity u q.0 q.2)) q.1,
        ),
      )

  same_any : (test : Uid → Bool) (us vs : List Uid) → ((u : Uid) → Contains us u ↔ Contains vs u) → list_any test us ≡ list_any test vs
  same_any test us vs h = same_truth {P = IsTrue (list_any test vs)} (list_any test us) (list_any test vs) (
    λ k. let p = one_passes test us k in any_contained test vs p.0 ((h p.0).0 p.1) p.2,
    λ k. let p = one_passes test vs k in any_contained test us p.0 ((h p.0).1 p.1) p.2,
  )
      (λ k. k, λ k. k)

  -- `in` of an action and of uids
  abbrev InUids : Uid → List Uid → Expr → Type 0
  InUids u vs b = (m : Value) → m ≡ value.Entity u → (eval b w >>= is_in w m) ≡ Ok (list_any (is_or_in w u) vs)

  in_one : (u v : Uid) (b : Expr) → eval b w ≡ Ok (value.Entity v) → InUids u (v ∷ []) b
  in_one u v b at m is = ap (λ (o : Outcome). o >>= is_in w m) at ∙ is_in-is w m (value.Entity v) u (v ∷ []) is (ap entities_in (out_Entity v))

  in_set : (u : Uid) (vs : List Uid) (b : Expr) → eval b w ≡ Ok (value.Set (members_of (entities vs))) → InUids u vs b
  in_set u vs b at m is =
      let p = written_entities vs in
      ap (λ (o : Outcome). o >>= is_in w m) at
      ∙ is_in-is w m (value.Set (members_of (entities vs))) u p.0 is (ap entities_in (out_Set (members_of (entities vs))) ∙ p.1)
      ∙ ap Ok (same_any (is_or_in w u) p.0 vs p.2)

  set_value : (members : List Expr) (vs : List Uid) → uids_of members ≡ Some vs → (all_values (map eval members) w >>= λ ys. Ok (value.Set (members_of ys))) ≡ Ok (value.Set (members_of (entities vs)))
  set_value members vs h = ap (λ (r : Result (List Value) EvalError). r >>= λ ys. Ok (value.Set (members_of ys))) (uids_values members vs h)

  some_uids : (members : List Expr) (vs : List Uid) → some_uids_of members ≡ Some vs → uids_of members ≡ Some vs
  some_uids [] vs h = absurd cc
  some_uids (x ∷ xs) vs h = h

  group_value : (y : Expr-F Expr) (u : Uid) (vs : List Uid) (b : Expr) → eval b w ≡ eval_step (map-Expr Expr Meaning eval y) w → ops.group_in y ≡ Some vs → InUids u vs b
  group_value (e.Literal place (literal.Entity v)) u vs b at h = let is : v ∷ [] ≡ vs = cc in subst (λ (ks : List Uid). InUids u ks b) is (in_one u v b at)
  group_value (e.Literal place (literal.Bool p)) u vs b at h = absurd cc
  group_value (e.Literal place (literal.Long n)) u vs b at h = absurd cc
  group_value (e.Literal place (literal.String text)) u vs b at h = absurd cc
  group_value (e.Set place members) u vs b at h = in_set u vs b (at ∙ set_value members vs (some_uids members vs h))
  group_value _ u vs b at h = absurd cc

  by_layer : (b : Expr) → eval b w ≡ eval_step (map-Expr Expr Meaning eval (out-Expr b)) w
  unfolding eval
  by_layer b = ap (λ f. f w) (fold_out-Expr Meaning eval_step b)

  -- an action and those that it is in, as they are declared
  by_ancestors : (u : Uid) (above : List Uid) (r : Option (List Uid)) → option_map (λ (us : List Uid). u ∷ us) r ≡ Some above → (us : List Uid) × (r ≡ Some us) × (above ≡ u ∷ us)
  by_ancestors u above (Some us) e = let is : u ∷ us ≡ above = cc in (us, refl, sym is)
  by_ancestors u above None e = absurd cc

  above_found : (o : Option Uid) (above : List Uid) → action_of s o ≡ Some above → (u : Uid) × (o ≡ Some u) × ((us : List Uid) × (action_ancestors s u ≡ Some us) × (above ≡ u ∷ us))
  above_found (Some u) above h = (u, refl, by_ancestors u above (action_ancestors s u) h)
  above_found None above h = absurd cc

  answer : (p q : Option (List Uid)) (r : Bool) → decided_by p q ≡ Some r → (above : List Uid) × (vs : List Uid) × (p ≡ Some above) × (q ≡ Some vs) × (meets above vs ≡ r)
  answer (Some above) (Some vs) r h = (above, vs, refl, refl, some_is (meets above vs) r h)
  answer (Some above) None r h = absurd cc
  answer None q r h = absurd cc

  -- what the schema decides is so
  decided_sound : (a b : Expr) (r : Bool) → decided s a b ≡ Some r → (m : Value) → eval a w ≡ Ok m → (eval b w >>= is_in w m) ≡ Ok r
  decided_sound a b r h m at =
      let p = answer (action_of s (uid_of a)) (group_of b) r h in
      let q = above_found (uid_of a) p.0 p.2 in
      let u = q.0 in
      let us = q.2.0 in
      let is : m ≡ value.Entity u = same_value m (value.Entity u) (sym at ∙ uid_value a u q.1) in
      group_value (out-Expr b) u p.1 b (by_layer b) p.3 m is
      ∙ ap Ok (all_reached u p.1 us (stands u us q.2.1) ∙ ap (λ (xs : List Uid). meets xs p.1) (sym q.2.2) ∙ p.4)

  -- ---- both ways

  abbrev pub InSound : Capabilities → Expr → Operand → TypedExpr → Ty × TypedExpr → Type 0
  InSound known a b x r = AllHold w known → (m : Value) → eval a w ≡ Ok m → IsOf w (ty x) m → OrOverflows (Fits r.0) (eval b.expr w >>= is_in w m)

  by_decided : (a : Expr) (b : Operand) (x : TypedExpr) → Sounds w b → (known : Capabilities) (o : Option Bool) → decided s a b.expr ≡ o → IfOk (membership_by o s b known x) (InSound known a b x)
  by_decided a b x k known (Some r) at = λ held m am hm. subst (OrOverflows (Fits (truth r))) (sym (decided_sound a b.expr r at m am)) (truth_fits r)
  by_decided a b x k known None at =
      through (SoundAs w known (eval b.expr w)) (b.typed known) _ (InSound known a b x) (k known) λ y q.
      through (InType x y.expr) (within s x y.expr) _ (InSound known a b x) (within_sound x y.expr) λ type g held m am hm.
      follows (IsOf w (ty y.expr)) (Fits type) (eval b.expr w) (is_in w m) (q held).outcome (λ n hn. g m n hm hn)

  pub membership_sound : (a : Expr) (b : Operand) (x : TypedExpr) → Sounds w b → (known : Capabilities) → IfOk (membership s a b known x) (InSound known a b x)
  membership_sound a b x k known = by_decided a b x k known (decided s a b.expr) refl
