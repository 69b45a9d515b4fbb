-- `in`: what it is compiled to agrees with what it comes to.
use Rattle.std.proofs.Common.{◌≡◌, ◌||◌, ℕ, List, [], ◌∷◌, map, Bool, true, false, cond, if◌then◌else◌, Option, Some, None, unwrap_or, Contains, IsSomeAnd, Result, Ok, refl, ap, sym, subst, ◌∙◌}
use Rattle.std.specs.List.{AllByRecursion, list_any, filter}
use Rattle.std.specs.Str.{bytes_eq}
use Rattle.std.proofs.lemmas.Bool.{false_from_ne_true}
use Rattle.std.proofs.lemmas.Slice.Eq.{bytes_eq-Decides}
use Rattle.sc_laws.proofs.BoolLaws.{same_truth, or_false}
use Rattle.sc_lists.proofs.ListLaws.{any_contained}
use Rattle.sc_names.specs.declared.uid.Uid.{Uid}
use Rattle.sc_schema.specs.declared.declarations.Env.{Env}
use Rattle.sc_schema.specs.declared.ty.Ty.{Ty, Ty-F, out-Ty}
use Rattle.sc_schema.specs.declared.ty.Ty.TheOpen as t
use Rattle.sc_schema.specs.Declarations.{Declarations, ancestor_types}
use Rattle.sc_values.specs.declared.value.Value.{Value, out-Value}
use Rattle.sc_values.specs.declared.value.Value.TheVariants as value
use Rattle.sc_values.proofs.OutLaws.{out_Entity, out_Set}
use Rattle.sc_world.specs.declared.entity.EntityData.{EntityData}
use Rattle.sc_world.specs.declared.world.World.{World}
use Rattle.sc_world.specs.Stores.{stored}
use Rattle.sc_world.specs.WellFormed.{IsStored, HasAncestorTypes, IsWellFormed}
use Rattle.sc_eval.specs.declared.error.EvalError.{EvalError}
use Rattle.sc_eval.specs.Outcomes.{Outcome, ◌>>=◌, of_bool}
use Rattle.sc_eval.specs.Collections.{is_same}
use Rattle.sc_eval.specs.Entities.{same_uid, ancestors_of, is_or_in, all_entities, entities_in, is_in}
use Rattle.sc_eval.specs.CollectionLaws.{is_same-decides}
use Rattle.sc_typed.specs.declared.typed_expr.TypedExpr.{TypedExpr}
use Rattle.sc_typed.specs.Types.{is_true, entity_name, entity_name_in, member_in, group, group_in}
use Rattle.sc_typed.specs.Outcomes.{ty}
use Rattle.sc_soundness_laws.specs.Sound.{IsOf, OrOverflows}
use Rattle.sc_soundness_laws.proofs.ValueLaws.{entity_of, as_entity-is, set_of}
use Rattle.sc_soundness_laws.proofs.LiteralLaws.{same_uid-decides}
use Rattle.sc_soundness_laws.proofs.ObjectLaws.{of_stored, data_of}
use Rattle.sc_soundness_laws.proofs.EqualLaws.{same_entity}
use Rattle.sc_sorts.specs.declared.sort.Sort.{out-Sort}
use Rattle.sc_sorts.specs.Entities.{choices_of, entity_sort}
use Rattle.sc_sorts.specs.Inside.{name_in}
use Rattle.sc_sorts.proofs.OutLaws as sorts
use Rattle.sc_sorts.specs.declared.node.UnaryOp.TheVariants as unary
use Rattle.sc_sorts.specs.declared.node.BinaryOp.TheVariants as binary
use Rattle.sc_terms.specs.Trees.{Tree, two}
use Rattle.sc_terms.specs.Folds.{equal_term}
use Rattle.sc_terms.specs.Values.{Val, it, yes, val, seen, bool_seen, uid_seen, members_seen, members_in, value_in, entity_in, ancestors_value, has_member, equal_value}
use Rattle.sc_terms.proofs.FoldValues.{truth_is, one_is, two_is}
use Rattle.sc_terms.proofs.EqualValues.{equal_is, equal_others}
use Rattle.sc_constructs.specs.Code.{Code, only_where, constant, after_both}
use Rattle.sc_constructs.specs.Objects.{above, may_be_above, in_one, in_some, in_some_of, in_type, in_term, is_decided, in_code}
use Rattle.sc_symeval.specs.Agreement.{Meets, Agrees}
use Rattle.sc_symeval_laws.proofs.AgreeLaws.{both_agree}
use Rattle.sc_symeval_laws.proofs.RowLaws.{either_val}

-- ---- entities, as uids and as values

uid_same : (a b : Uid) → is_same (value.Entity a) (value.Entity b) ≡ same_uid a b
uid_same a b =
    same_truth {P = a ≡ b} (is_same (value.Entity a) (value.Entity b)) (same_uid a b)
    ((λ h. same_entity a b ((is_same-decides (value.Entity a) (value.Entity b)).0 h)), (λ e. (is_same-decides (value.Entity a) (value.Entity b)).1 (ap value.Entity e))) (same_uid-decides a b)

abbrev entities_of : List Uid → List Value
entities_of us = map value.Entity us

-- an entity is among some where its uid is
among_entities : (us : List Uid) (a : Uid) → has_member (entities_of us) (value.Entity a) ≡ list_any (same_uid a) us
among_entities [] a = refl
among_entities (u ∷ us) a = let first = uid_same a u in let rest = among_entities us a in λ i. first i || rest i

-- ---- the ancestors of a type

-- a filter that keeps what a test passes changes nothing of the test
kept_any : (u : List ℕ) (test : Uid → Bool) (us : List Uid) → ((a : Uid) → test a ≡ true → bytes_eq u a.type_name ≡ true) → list_any test (filter (λ (a : Uid). bytes_eq u a.type_name) us) ≡ list_any test us
kept_any u test [] h = refl
kept_any u test (a ∷ us) h = by (bytes_eq u a.type_name) refl (kept_any u test us h)
  where
    by : (b : Bool) → bytes_eq u a.type_name ≡ b → list_any test (filter (λ (c : Uid). bytes_eq u c.type_name) us) ≡ list_any test us
        → list_any test (cond b (a ∷ filter (λ (c : Uid). bytes_eq u c.type_name) us) (filter (λ (c : Uid). bytes_eq u c.type_name) us)) ≡ list_any test (a ∷ us)
    by true e later = ap (λ (r : Bool). test a || r) later
    by false e later =
        let none : test a ≡ false = false_from_ne_true (test a) (λ told. let clash : false ≡ true = sym e ∙ h a told in cc) in
        later ∙ ap (λ (b : Bool). b || list_any test us) (sym none)

named_as : (u : List ℕ) (b a : Uid) → b.type_name ≡ u → same_uid b a ≡ true → bytes_eq u a.type_name ≡ true
named_as u b a named h = (bytes_eq-Decides u a.type_name).1 (sym named ∙ ap (λ (c : Uid). c.type_name) ((same_uid-decides b a).0 h))

module _ (s : Declarations) (env : Env) (literals : List Uid) (w : World) (well : IsWellFormed s env literals w) where
  -- ---- an entity that is stored

  -- its ancestors of a type
  above_val : (u : List ℕ) (t : Tree) (a : Uid) (d : EntityData) → val t w ≡ it (value.Entity a) → stored a w.store ≡ Some d → members_in (val (above s u t) w) ≡ entities_of (filter (λ (c : Uid). bytes_eq u c.type_name) d.ancestors)
  above_val u t a d h at =
      ap members_in (one_is (unary.Ancestors (entity_sort s u)) t w)
      ∙ ap (λ (o : Option EntityData). members_in (it (ancestors_value (name_in (out-Sort (entity_sort s u))) o))) (ap (λ (z : Val). entity_in z w) h ∙ ap (λ z. stored (uid_seen z) w.store) (out_Entity a) ∙ at)
      ∙ ap (λ (n : List ℕ). members_in (it (ancestors_value n (Some d)))) (ap name_in (sorts.out_Entity u (choices_of s u)))
      ∙ ap members_seen (out_Set (map value.Entity (filter (λ (c : Uid). bytes_eq u c.type_name) d.ancestors)))

  -- what is stored of an entity of a type without ancestors of another has none of that
  not_above : (o : Option (List (List ℕ))) (u : List ℕ) (c : Uid) → list_any (bytes_eq u) (unwrap_or o []) ≡ false → IsSomeAnd o (λ (names : List (List ℕ)). Contains names c.type_name) → c.type_name ≡ u → ⊥
  not_above None u c apart h is = h
  not_above (Some names) u c apart h is =
      let told : list_any (bytes_eq u) names ≡ true = any_contained (bytes_eq u) names u (subst (Contains names) is h) ((bytes_eq-Decides u u).1 refl) in
      let clash : false ≡ true = sym apart ∙ told in
      cc

  none_above : (n u : List ℕ) (b : Uid) (cs : List Uid) → may_be_above s n u ≡ false → b.type_name ≡ u → AllByRecursion (λ (c : Uid). IsSomeAnd (ancestor_types s n) (λ (names : List (List ℕ)). Contains names c.type_name)) cs → list_any (same_uid b) cs ≡ false
  none_above n u b [] apart named h = refl
  none_above n u b (c ∷ cs) apart named h =
      let first : same_uid b c ≡ false = false_from_ne_true (same_uid b c) (λ e. not_above (ancestor_types s n) u c apart h.0 (ap (λ (k : Uid). k.type_name) (sym ((same_uid-decides b c).0 e)) ∙ named)) in
      ap (λ (r : Bool). r || list_any (same_uid b) cs) first ∙ none_above n u b cs apart named h.1

  -- whether an entity is above one that is stored
  above_agrees : (n u : List ℕ) (t : Tree) (a b : Uid) (d : EntityData) → val t w ≡ it (value.Entity a) → stored a w.store ≡ Some d → a.type_name ≡ n → b.type_name ≡ u
      → (r : Bool) → may_be_above s n u ≡ r → (k : Tree) → val k w ≡ it (value.Entity b) → val (only_where r (two binary.Member k (above s u t))) w ≡ yes (list_any (same_uid b) d.ancestors)
  above_agrees n u t a b d h at named other true may k g =
      two_is binary.Member k (above s u t) w
      ∙ (λ i. yes (has_member (above_val u t a d h at i) (ap value_in g i)))
      ∙ ap yes (among_entities (filter (λ (c : Uid). bytes_eq u c.type_name) d.ancestors) b ∙ kept_any u (same_uid b) d.ancestors (λ c. named_as u b c other))
  above_agrees n u t a b d h at named other false may k g =
      let typed : HasAncestorTypes s (a, d) = of_stored (HasAncestorTypes s) a w.store d at well.ancestor_types in
      let moved = subst (λ (m : List ℕ). AllByRecursion (λ (c : Uid). IsSomeAnd (ancestor_types s m) (λ (names : List (List ℕ)). Contains names c.type_name)) d.ancestors) named typed in
      truth_is false w ∙ ap yes (sym (none_above n u b d.ancestors may other moved))

  entity_unseen : (a : Uid) → seen (it (value.Entity a)) ≡ None
  entity_unseen a = ap bool_seen (out_Entity a)

  -- whether two entities are one, by their types first
  same_agrees : (n u : List ℕ) (t k : Tree) (a b : Uid) → val t w ≡ it (value.Entity a) → val k w ≡ it (value.Entity b) → a.type_name ≡ n → b.type_name ≡ u → (r : Bool) → bytes_eq n u ≡ r → val (only_where r (equal_term t k)) w ≡ yes (same_uid a b)
  same_agrees n u t k a b h g named other true e =
      equal_is t k w ∙ (λ i. equal_value (h i) (g i)) ∙ equal_others (it (value.Entity a)) (it (value.Entity b)) (entity_unseen a) (entity_unseen b) ∙ ap yes (uid_same a b)
  same_agrees n u t k a b h g named other false e =
      truth_is false w ∙ ap yes (sym (false_from_ne_true (same_uid a b) (λ same.
      let told : bytes_eq n u ≡ true = (bytes_eq-Decides n u).1 (sym named ∙ ap (λ (c : Uid). c.type_name) ((same_uid-decides a b).0 same) ∙ other) in
      let clash : false ≡ true = sym e ∙ told in
      cc)))

  ancestors_are : (a : Uid) (d : EntityData) (b : Uid) → stored a w.store ≡ Some d → is_or_in w a b ≡ (same_uid a b || list_any (same_uid b) d.ancestors)
  ancestors_are a d b at = ap (λ (o : Option EntityData). same_uid a b || list_any (same_uid b) (ancestors_of o)) at

  -- ---- one entity on the right side

  one_val : (n u : List ℕ) (t k : Tree) (a b : Uid) → val t w ≡ it (value.Entity a) → val k w ≡ it (value.Entity b) → a.type_name ≡ n → b.type_name ≡ u → IsStored w.store a → val (in_one s n u t k) w ≡ yes (is_or_in w a b)
  one_val n u t k a b h g named other there =
      let d = data_of a w.store there in
      either_val w _ _ (same_uid a b) (list_any (same_uid b) d.0.ancestors) (same_agrees n u t k a b h g named other (bytes_eq n u) refl) (above_agrees n u t a b d.0 h d.1 named other (may_be_above s n u) refl k g)
      ∙ ap yes (sym (ancestors_are a d.0 b d.1))

  -- ---- several

  abbrev AreOfType : List ℕ → List Uid → Type 0
  AreOfType u bs = AllByRecursion (λ (b : Uid). b.type_name ≡ u) bs

  -- whether it is one of them
  member_agrees : (n u : List ℕ) (t k : Tree) (a : Uid) (bs : List Uid) → val t w ≡ it (value.Entity a) → members_in (val k w) ≡ entities_of bs → a.type_name ≡ n → AreOfType u bs → (r : Bool) → bytes_eq n u ≡ r
      → val (only_where r (two binary.Member t k)) w ≡ yes (list_any (same_uid a) bs)
  member_agrees n u t k a bs h g named others true e = two_is binary.Member t k w ∙ (λ i. yes (has_member (g i) (ap value_in h i))) ∙ ap yes (among_entities bs a)
  member_agrees n u t k a bs h g named others false e = truth_is false w ∙ ap yes (sym (none bs others))
    where
      none : (cs : List Uid) → AreOfType u cs → list_any (same_uid a) cs ≡ false
      none [] i = refl
      none (c ∷ cs) i =
          let first : same_uid a c ≡ false = false_from_ne_true (same_uid a c) (λ same.
          let told : bytes_eq n u ≡ true = (bytes_eq-Decides n u).1 (sym named ∙ ap (λ (z : Uid). z.type_name) ((same_uid-decides a c).0 same) ∙ i.0) in
          let clash : false ≡ true = sym e ∙ told in
          cc) in
          ap (λ (r : Bool). r || list_any (same_uid a) cs) first ∙ none cs i.1

  -- some of these entities is among those
  common_any : (us bs : List Uid) → list_any (has_member (entities_of bs)) (entities_of us) ≡ list_any (λ (c : Uid). list_any (same_uid c) bs) us
  common_any [] bs = refl
  common_any (c ∷ us) bs = let first = among_entities bs c in let rest = common_any us bs in λ i. first i || rest i

  no_one : (us : List Uid) → list_any (λ (c : Uid). list_any (same_uid c) []) us ≡ false
  no_one [] = refl
  no_one (c ∷ us) = no_one us

  turned : (b c : Uid) → same_uid c b ≡ same_uid b c
  turned b c = same_truth {P = c ≡ b} (same_uid c b) (same_uid b c) (same_uid-decides c b) ((λ h. sym ((same_uid-decides b c).0 h)), (λ e. (same_uid-decides b c).1 (sym e)))

  split_any : (p q : Uid → Bool) (us : List Uid) → list_any (λ (c : Uid). p c || q c) us ≡ (list_any p us || list_any q us)
  split_any p q [] = refl
  split_any p q (c ∷ us) = ap (λ (r : Bool). (p c || q c) || r) (split_any p q us) ∙ shuffle (p c) (q c) (list_any p us) (list_any q us)
    where
      shuffle : (x y z t : Bool) → ((x || y) || (z || t)) ≡ ((x || z) || (y || t))
      shuffle true y z t = refl
      shuffle false true true t = refl
      shuffle false true false t = refl
      shuffle false false z t = refl

  same_any : (p q : Uid → Bool) (us : List Uid) → ((c : Uid) → p c ≡ q c) → list_any p us ≡ list_any q us
  same_any p q [] h = refl
  same_any p q (c ∷ us) h = let first = h c in let rest = same_any p q us h in λ i. first i || rest i

  -- either way round
  exchanged : (us bs : List Uid) → list_any (λ (c : Uid). list_any (same_uid c) bs) us ≡ list_any (λ (b : Uid). list_any (same_uid b) us) bs
  exchanged us [] = no_one us
  exchanged us (b ∷ bs) =
      split_any (λ c. same_uid c b) (λ c. list_any (same_uid c) bs) us
      ∙ (λ i. same_any (λ c. same_uid c b) (same_uid b) us (turned b) i || exchanged us bs i)

  -- of entities of one type a filter by the type keeps what matters
  any_kept : (u : List ℕ) (cs bs : List Uid) → AreOfType u bs → list_any (λ (b : Uid). list_any (same_uid b) (filter (λ (c : Uid). bytes_eq u c.type_name) cs)) bs ≡ list_any (λ (b : Uid). list_any (same_uid b) cs) bs
  any_kept u cs [] h = refl
  any_kept u cs (b ∷ bs) h =
      let first = kept_any u (same_uid b) cs (λ c. named_as u b c h.0) in
      let rest = any_kept u cs bs h.1 in
      λ i. first i || rest i

  none_in : (n u : List ℕ) (cs bs : List Uid) → may_be_above s n u ≡ false → AreOfType u bs → AllByRecursion (λ (c : Uid). IsSomeAnd (ancestor_types s n) (λ (names : List (List ℕ)). Contains names c.type_name)) cs
      → list_any (λ (b : Uid). list_any (same_uid b) cs) bs ≡ false
  none_in n u cs [] may h k = refl
  none_in n u cs (b ∷ bs) may h k = ap (λ (r : Bool). r || list_any (λ (c : Uid). list_any (same_uid c) cs) bs) (none_above n u b cs may h.0 k) ∙ none_in n u cs bs may h.1 k

  common_agrees : (n u : List ℕ) (t k : Tree) (a : Uid) (bs : List Uid) (d : EntityData) → val t w ≡ it (value.Entity a) → members_in (val k w) ≡ entities_of bs → stored a w.store ≡ Some d → a.type_name ≡ n → AreOfType u bs → (r : Bool) → may_be_above s n u ≡ r
      → val (only_where r (two binary.Common (above s u t) k)) w ≡ yes (list_any (λ (b : Uid). list_any (same_uid b) d.ancestors) bs)
  common_agrees n u t k a bs d h g at named others true may =
      let above_it = filter (λ (c : Uid). bytes_eq u c.type_name) d.ancestors in
      two_is binary.Common (above s u t) k w
      ∙ (λ i. yes (list_any (has_member (g i)) (above_val u t a d h at i)))
      ∙ ap yes (common_any above_it bs ∙ exchanged above_it bs ∙ any_kept u d.ancestors bs others)
  common_agrees n u t k a bs d h g at named others false may =
      let typed : HasAncestorTypes s (a, d) = of_stored (HasAncestorTypes s) a w.store d at well.ancestor_types in
      let moved = subst (λ (m : List ℕ). AllByRecursion (λ (c : Uid). IsSomeAnd (ancestor_types s m) (λ (names : List (List ℕ)). Contains names c.type_name)) d.ancestors) named typed in
      truth_is false w ∙ ap yes (sym (none_in n u d.ancestors bs may others moved))

  some_val : (n u : List ℕ) (t k : Tree) (a : Uid) (bs : List Uid) → val t w ≡ it (value.Entity a) → members_in (val k w) ≡ entities_of bs → a.type_name ≡ n → AreOfType u bs → IsStored w.store a → val (in_some s n u t k) w ≡ yes (list_any (is_or_in w a) bs)
  some_val n u t k a bs h g named others there =
      let d = data_of a w.store there in
      either_val w _ _ (list_any (same_uid a) bs) (list_any (λ (b : Uid). list_any (same_uid b) d.0.ancestors) bs) (member_agrees n u t k a bs h g named others (bytes_eq n u) refl) (common_agrees n u t k a bs d.0 h g d.1 named others (may_be_above s n u) refl)
      ∙ ap yes (sym (same_any (is_or_in w a) (λ b. same_uid a b || list_any (same_uid b) d.0.ancestors) bs (λ b. ancestors_are a d.0 b d.1) ∙ split_any (same_uid a) (λ b. list_any (same_uid b) d.0.ancestors) bs))

  -- ---- by the type of the right side

  -- the uids of a set of entities
  record AreUids (u : List ℕ) (xs : List Value) (bs : List Uid) : Type 0 where
    values : xs ≡ entities_of bs
    entities : all_entities xs ≡ Ok bs
    named : AreOfType u bs

  uids_of : (u : List ℕ) (mem : Ty) (xs : List Value) → entity_name mem ≡ Some u → AllByRecursion (IsOf w mem) xs → (bs : List Uid) × AreUids u xs bs
  uids_of u mem [] e h = ([], record { values = refl; entities = refl; named = tt })
  uids_of u mem (x ∷ xs) e h =
      let p = entity_of w u mem x e h.0 in
      let q = uids_of u mem xs e h.1 in (
        p.0 ∷ q.0,
        record {
          values = (λ i. p.1.entity i ∷ q.1.values i);
          entities = ap (λ (o : Result Uid EvalError). o >>= λ k. all_entities xs >>= λ ks. Ok (k ∷ ks)) (as_entity-is w x p.0 p.1.entity) ∙ ap (λ (o : Result (List Uid) EvalError). o >>= λ ks. Ok (p.0 ∷ ks)) q.1.entities;
          named = (p.1.named, q.1.named);
        },
      )

  is_in-is : (m n : Value) (a : Uid) (bs : List Uid) → m ≡ value.Entity a → entities_in (out-Value n) ≡ Ok bs → is_in w m n ≡ Ok (list_any (is_or_in w a) bs)
  is_in-is m n a bs at to =
      ap (λ (o : Result Uid EvalError). o >>= λ u. entities_in (out-Value n) >>= λ us. Ok (list_any (is_or_in w u) us)) (as_entity-is w m a at)
      ∙ ap (λ (o : Result (List Uid) EvalError). o >>= λ us. Ok (list_any (is_or_in w a) us)) to

  type_met : (n u : List ℕ) (y : Ty) (z : Ty-F Ty) (t k : Tree) (a : Uid) (m x : Value) → out-Ty y ≡ z → group_in z ≡ Some u → IsOf w y x → m ≡ value.Entity a → a.type_name ≡ n → IsStored w.store a → val t w ≡ it m → val k w ≡ it x
      → (r : Bool) × (is_in w m x ≡ Ok r) × (val (in_type s n z t k) w ≡ yes r)
  type_met n u y (t.Entity kind) t_val k a m x at e h is named there g i =
      let b = entity_of w kind.name y x (ap entity_name_in at) h in (
        list_any (is_or_in w a) (b.0 ∷ []),
        is_in-is m x a (b.0 ∷ []) is (ap entities_in (ap out-Value b.1.entity ∙ out_Entity b.0)),
        one_val n kind.name t_val k a b.0 (g ∙ ap it is) (i ∙ ap it b.1.entity) named b.1.named there ∙ ap yes (sym (or_false (is_or_in w a b.0))),
      )
  type_met n u y (t.Set mem) t_val k a m x at e h is named there g i =
      let b = set_of w mem y x (ap member_in at) h in
      let c = uids_of u mem b.0 e b.1.members in (
        list_any (is_or_in w a) c.0,
        is_in-is m x a c.0 is (ap entities_in (ap out-Value b.1.set ∙ out_Set b.0) ∙ c.1.entities),
        ap (λ (o : Option (List ℕ)). val (in_some_of s n o t_val k) w) e
            ∙ some_val n u t_val k a c.0 (g ∙ ap it is) (ap members_in (i ∙ ap it b.1.set) ∙ ap members_seen (out_Set b.0) ∙ c.1.values) named c.1.named there,
      )
  type_met n u y _ t_val k a m x at e h is named there g i = absurd cc

  term_met : (n u : List ℕ) (first second : Ty) (t k : Tree) (m x : Value) → entity_name first ≡ Some n → group second ≡ Some u → IsOf w first m → IsOf w second x → val t w ≡ it m → val k w ≡ it x
      → Meets (yes true) (val (in_term s (entity_name first) second t k) w) (is_in w m x >>= of_bool)
  term_met n u first second t k m x e f i j g h =
      let a = entity_of w n first m e i in
      let r = type_met n u second (out-Ty second) t k a.0 m x refl f j a.1.entity a.1.named a.1.stored g h in
      subst (λ (o : Result Bool EvalError). Meets (yes true) (val (in_term s (entity_name first) second t k) w) (o >>= of_bool)) (sym r.1)
      (refl, ap (λ (o : Option (List ℕ)). val (in_term s o second t k) w) e ∙ r.2)

  -- where it isn't decided by the schema
  pub in_agrees : (n u : List ℕ) (type : Ty) (x y : TypedExpr) (a b : Code) (o p : Outcome) → is_decided s x y ≡ false → entity_name (ty x) ≡ Some n → group (ty y) ≡ Some u → Agrees w a o → Agrees w b p → OrOverflows (IsOf w (ty x)) o
      → OrOverflows (IsOf w (ty y)) p → Agrees w (in_code s type x y a b) (o >>= λ m. p >>= λ k. is_in w m k >>= of_bool)
  in_agrees n u type x y a b o p undecided e f h g first second =
      subst (λ (r : Bool). Agrees w (if r then constant (is_true type) else after_both a b (in_term s (entity_name (ty x)) (ty y) a.val b.val)) (o >>= λ m. p >>= λ k. is_in w m k >>= of_bool)) (sym undecided)
      (both_agree w a b _ o p (λ m k. is_in w m k >>= of_bool) h g λ m k i j c d.
      term_met n u (ty x) (ty y) a.val b.val m k e f (subst (OrOverflows (IsOf w (ty x))) i first) (subst (OrOverflows (IsOf w (ty y))) j second) c d)
