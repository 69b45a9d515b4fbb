-- The given entities: those of closed terms whose types list none, each with what closed terms tell of it.
use Rattle.std.proofs.Common.{◌≡◌, inl, inr, ℕ, true, false, List, [], ◌∷◌, flat_map, Option, Some, None, unwrap_or, refl, sym, ap, ◌∙◌, subst}
use Rattle.std.specs.List.{AllByRecursion}
use Rattle.sc_lists.specs.Members.{Has}
use Rattle.sc_lists.proofs.ListLaws.{all_weaker}
use Rattle.sc_lists.proofs.MemberLaws.{Has-flat_map, flat_map-Has}
use Rattle.sc_laws.proofs.OptionLaws.{some_of}
use Rattle.sc_laws.proofs.BoolLaws.{true_both}
use Rattle.sc_names.specs.declared.uid.Uid.{Uid}
use Rattle.sc_schema.specs.declared.declarations.Env.{Env}
use Rattle.sc_schema.specs.Declarations.{Declarations, is_action_type}
use Rattle.sc_schema.specs.Lawful.{IsLawful, IsEntityType}
use Rattle.sc_world.specs.declared.entity.EntityData.{EntityData}
use Rattle.sc_world.specs.declared.world.Request.{Request}
use Rattle.sc_world.specs.Defaults.{default_data}
use Rattle.sc_world.specs.Given.{data_with, AreAsGiven, IsNamedWith, of_given, StoresNamedWith}
use Rattle.sc_world.specs.Stores.{Entities, stored, with_entity}
use Rattle.sc_world.specs.WellFormed.{Entry, IsStored}
use Rattle.sc_world.proofs.FillLaws.{each-with_entity, of_stored}
use Rattle.sc_world.proofs.StoreLaws.{stored-with_entity, stored-kept}
use Rattle.sc_sorts.specs.declared.sort.Sort.TheVariants as sort
use Rattle.sc_sorts.specs.Entities.{choices_of}
use Rattle.sc_sorts.proofs.EveryLaws.{in_Entity}
use Rattle.sc_terms.specs.Trees.{Tree}
use Rattle.sc_terms.specs.TreeSorts.{tree_sort}
use Rattle.sc_term_laws.specs.LawfulSorts.{IsDeclared, IsSortLevel}
use Rattle.sc_term_laws.proofs.ChoicesLaws.{no_actions}
use Rattle.sc_closure_rules.specs.Closure.{Closed}
use Rattle.sc_closure_rules.specs.Goals.{IsGoal}
use Rattle.sc_model_laws.specs.Vals.{Model}
use Rattle.sc_model_laws.specs.Models.{IsModel}
use Rattle.sc_model_laws.proofs.FittingLaws.{AreMade, lawful_at}
use Rattle.sc_model_world_laws.specs.Rebuilt.{entity_said, data_of, given_from, given_of}
use Rattle.sc_model_world_laws.proofs.SaidLaws.{entity_told, says_entity}

-- ---- entities in a list

module _ (d : Declarations) (m : Model) where
  -- an entry is what closed terms tell of one of them
  pub record IsGivenEntry (us : List Uid) (x : Entry) : Type 0 where
    pub data_is : x.1 ≡ data_of d m x.0
    pub among : Has us x.0

  pub given_each : (us : List Uid) → AllByRecursion (IsGivenEntry us) (given_from d m us)
  unfolding given_from
  given_each [] = tt
  given_each (u ∷ us) =
      each-with_entity (IsGivenEntry (u ∷ us)) u (data_of d m u) (given_from d m us) (record { data_is = refl; among = inl refl })
      (all_weaker (IsGivenEntry us) (IsGivenEntry (u ∷ us)) (λ x h. record { data_is = h.data_is; among = inr h.among }) (given_from d m us) (given_each us))

  pub given_there : (us : List Uid) (u : Uid) → Has us u → IsStored (given_from d m us) u
  unfolding given_from
  given_there [] u h = absurd h
  given_there (v ∷ us) u (inl is) = subst (λ (w : Uid). IsStored (with_entity v (data_of d m v) (given_from d m us)) w) is (stored-with_entity v (data_of d m v) (given_from d m us))
  given_there (v ∷ us) u (inr later) = stored-kept u v (data_of d m v) (given_from d m us) (given_there us u later)

  pub given_data : (us : List Uid) (u : Uid) → Has us u → stored u (given_from d m us) ≡ Some (data_of d m u)
  given_data us u h =
      let e = some_of (stored u (given_from d m us)) (given_there us u h) in
      let it = of_stored (IsGivenEntry us) u e.0 (given_from d m us) (given_each us) e.1 in
      e.1 ∙ ap Some it.data_is

  pub given_only : (us : List Uid) (u : Uid) (e : EntityData) → stored u (given_from d m us) ≡ Some e → IsGivenEntry us (u, e)
  given_only us u e h = of_stored (IsGivenEntry us) u e (given_from d m us) (given_each us) h

module _ (d : Declarations) (env : Env) (literals : List Uid) (goal : Tree) (made : AreMade d env literals goal) (m : Model) (model : IsModel d env goal m) (lawful : IsLawful d) (is : IsGoal d env literals goal) where
  abbrev listed : List Uid
  listed = flat_map (entity_said m) m.closed

  -- an entity of a closed term, of a declared type that lists none: it is neither one of actions nor enumerated
  pub record IsPlainEntity (u : Uid) : Type 0 where
    pub term : Tree
    pub closed : Closed d env goal term
    pub name : List ℕ
    pub sorted : tree_sort term ≡ sort.Entity name []
    pub said : m.uid term ≡ u
    pub typed : u.type_name ≡ name
    pub unlisted : choices_of d u.type_name ≡ []
    pub no_action : is_action_type d u.type_name ≡ false
    pub declared : IsEntityType d u.type_name

  entity_type_by : (name : List ℕ) → IsDeclared d name → is_action_type d name ≡ false → IsEntityType d name
  entity_type_by name (inl h) e = h
  entity_type_by name (inr h) e = absurd (true_both (is_action_type d name) h e)

  pub plain_entity : (u : Uid) → Has listed u → IsPlainEntity u
  plain_entity u h =
      let x = flat_map-Has (entity_said m) m.closed u h in
      let c = (model.listed x.0).0 x.1 in
      let it = entity_told m x.0 u x.2 in
      let level = (in_Entity (IsSortLevel d) it.name []).0 (lawful_at d env literals goal made m model lawful is (sort.Entity it.name []) x.0 it.sorted c) in
      let type_is : u.type_name ≡ it.name = ap (λ (v : Uid). v.type_name) (sym it.said) ∙ model.typed it.name [] x.0 it.sorted in
      let plain : is_action_type d it.name ≡ false = no_actions d it.name (sym level.1) in
      record {
        term = x.0;
        closed = c;
        name = it.name;
        sorted = it.sorted;
        said = it.said;
        typed = type_is;
        unlisted = ap (choices_of d) type_is ∙ sym level.1;
        no_action = ap (is_action_type d) type_is ∙ plain;
        declared = subst (IsEntityType d) (sym type_is) (entity_type_by it.name level.0 plain);
      }

  pub plain_listed : (name : List ℕ) (x : Tree) → tree_sort x ≡ sort.Entity name [] → Closed d env goal x → Has listed (m.uid x)
  plain_listed name x e c = Has-flat_map (entity_said m) m.closed x (m.uid x) ((model.listed x).1 c) (says_entity m name x e)

  -- ---- in a world in which these are given

  module _ (r : Request) (es : Entities) (given : AreAsGiven d (given_of d m) es) (there : StoresNamedWith d (given_of d m) r literals es) where
    stored_with : (u : Uid) → IsNamedWith d (given_of d m) r literals u → stored u es ≡ Some (data_with d (given_of d m) u)
    stored_with u h =
        let e = some_of (stored u es) ((there u).1 h) in
        e.1 ∙ ap Some (of_stored (λ (x : Entry). x.1 ≡ data_with d (given_of d m) x.0) u e.0 es given e.1)

    -- what is stored of an entity of a closed term
    pub plain_stored : (name : List ℕ) (x : Tree) → tree_sort x ≡ sort.Entity name [] → Closed d env goal x → stored (m.uid x) es ≡ Some (data_of d m (m.uid x))
    plain_stored name x e c =
        let h = plain_listed name x e c in
        stored_with (m.uid x) (of_given (given_there d m listed (m.uid x) h))
        ∙ ap (λ (o : Option EntityData). Some (unwrap_or o (default_data d (m.uid x)))) (given_data d m listed (m.uid x) h)

    -- of an entity that its type lists nothing is given
    none_given : (u : Uid) → (choices_of d u.type_name ≡ [] → ⊥) → data_with d (given_of d m) u ≡ default_data d u
    none_given u some = by (stored u (given_of d m)) refl where
      by : (o : Option EntityData) → stored u (given_of d m) ≡ o → unwrap_or o (default_data d u) ≡ default_data d u
      by None f = refl
      by (Some x) f = absurd (some (plain_entity u (given_only d m listed u x f).among).unlisted)

    pub listed_stored : (u : Uid) (x : EntityData) → (choices_of d u.type_name ≡ [] → ⊥) → stored u es ≡ Some x → x ≡ default_data d u
    listed_stored u x some f = of_stored (λ (y : Entry). y.1 ≡ data_with d (given_of d m) y.0) u x es given f ∙ none_given u some

    pub named_stored : (u : Uid) → (choices_of d u.type_name ≡ [] → ⊥) → IsNamedWith d (given_of d m) r literals u → stored u es ≡ Some (default_data d u)
    named_stored u some h = stored_with u h ∙ ap Some (none_given u some)
