-- The entities that a type lists, and which types are declared.
use Rattle.std.proofs.Common.{cond, ◌≡◌, ◌↔◌, ◌⊎◌, inl, inr, ◌||◌, ℕ, List, [], ◌∷◌, map, Bool, true, false, Option, Some, None, option_map, is_some, IsSome, IsTrue, Contains, refl, sym, ap, ◌∙◌, subst}
use Rattle.std.proofs.Math.Logic.{⊎_map}
use Rattle.std.specs.List.{list_any}
use Rattle.std.specs.Ordering.{is_eq}
use Rattle.std.specs.Str.{bytes_eq}
use Rattle.std.proofs.lemmas.Bool.{false≢true}
use Rattle.std.proofs.lemmas.Cmp.{tied_itself}
use Rattle.std.proofs.lemmas.Slice.Eq.{bytes_eq-Decides}
use Rattle.sc_lists.proofs.ListLaws.{contains_first, contains_rest, contains_split, contains_nothing, contains_map, contains_from_map, any_contained}
use Rattle.sc_laws.proofs.OptionLaws.{some_of}
use Rattle.sc_lists.proofs.OrderingLaws.{is_eq_true}
use Rattle.sc_lists.proofs.TextLaws.{bytes_eq_true}
use Rattle.sc_names.specs.declared.uid.Uid.{Uid}
use Rattle.sc_names.specs.Uids.{uid_cmp}
use Rattle.sc_names.proofs.UidLaws.{uid_cmp_level, uid_cmp_total}
use Rattle.sc_schema.specs.declared.ty.Ty.{Ty}
use Rattle.sc_schema.specs.declared.ty.Ty.TheVariants.{Record}
use Rattle.sc_schema.specs.declared.declarations.Action.{Action}
use Rattle.sc_schema.specs.declared.declarations.EntityType.{EntityType}
use Rattle.sc_schema.specs.declared.ty.EntityKind.{EntityKind}
use Rattle.sc_schema.specs.Declarations.{Declarations, action, action_uids, action_ancestors, attrs_of, choices_of as ids_of, entity_type, is_action_type, kind_of, uid_eq}
use Rattle.sc_schema.proofs.LookupLaws.{action_declared}
use Rattle.sc_schema.proofs.PlaceLaws.{uid_eq-Decides}
use Rattle.sc_schema.specs.Lawful.{IsEntityType}
use Rattle.sc_sorts.specs.Entities.{of_type_name, uid_of, uids_of, choices_of, IsListed}
use Rattle.sc_sorts.proofs.EntitiesLaws.{action_choices, kind_choices}
use Rattle.sc_world.specs.Choices.{is_choice, IsChoice}
use Rattle.sc_term_laws.specs.Judged.{IsWritten, IsNameless, IsEntityLiteral}
use Rattle.sc_term_laws.specs.LawfulSorts.{IsDeclared}
use Rattle.sc_term_laws.proofs.FitLaws.{kind_of_uids}
use Rattle.sc_term_laws.proofs.MemberLaws.{any_found}
use Rattle.sc_term_laws.proofs.ToldLaws.{found_some, some_map}

-- one that is chosen is among all, and of the type
pub record IsChosen (name : List ℕ) (us : List Uid) (u : Uid) : Type 0 where
  pub among : Contains us u
  pub named : u.type_name ≡ name

later_chosen : (name : List ℕ) (v : Uid) (us : List Uid) (u : Uid) → IsChosen name us u → IsChosen name (v ∷ us) u
later_chosen name v us u h = record { among = contains_rest v us u h.among; named = h.named }

first_chosen : (name : List ℕ) (v : Uid) (us : List Uid) (u : Uid) → bytes_eq name v.type_name ≡ true → v ≡ u → IsChosen name (v ∷ us) u
first_chosen name v us u e same = record {
  among = subst (Contains (v ∷ us)) same (contains_first v us);
  named = sym (bytes_eq_true name v.type_name e ∙ ap (λ (w : Uid). w.type_name) same);
}

chosen_by : (name : List ℕ) (v : Uid) (us : List Uid) (u : Uid) (b : Bool) → bytes_eq name v.type_name ≡ b
    → Contains (cond b (v ∷ of_type_name name us) (of_type_name name us)) u → (Contains (of_type_name name us) u → IsChosen name us u) → IsChosen name (v ∷ us) u
chosen_by name v us u true e h rest = elim (contains_split v (of_type_name name us) u h) [
  | inl same ↦ first_chosen name v us u e same
  | inr later ↦ later_chosen name v us u (rest later)
]
chosen_by name v us u false e h rest = later_chosen name v us u (rest h)

pub chosen : (name : List ℕ) (us : List Uid) (u : Uid) → Contains (of_type_name name us) u → IsChosen name us u
chosen name [] u h = absurd (contains_nothing u h)
chosen name (v ∷ us) u h = chosen_by name v us u (bytes_eq name v.type_name) refl h (chosen name us u)

abbrev uids : List Action → List Uid
uids actions = map (λ (a : Action). a.uid) actions

none_by : (b c : Bool) (u : Uid) (us : List Uid) → cond b (u ∷ us) us ≡ [] → (us ≡ [] → c ≡ false) → (b || c) ≡ false
none_by true c u us h rest = cc
none_by false c u us h rest = rest h

none_chosen : (name : List ℕ) (actions : List Action) → of_type_name name (uids actions) ≡ [] → list_any (λ (a : Action). bytes_eq name a.uid.type_name) actions ≡ false
none_chosen name [] h = refl
none_chosen name (a ∷ actions) h = none_by (bytes_eq name a.uid.type_name) _ a.uid (of_type_name name (uids actions)) h (none_chosen name actions)

-- a type that lists no entities is no type of actions
pub no_actions : (d : Declarations) (name : List ℕ) → choices_of d name ≡ [] → is_action_type d name ≡ false
no_actions d name h = by (is_action_type d name) refl
  where
    by : (b : Bool) → is_action_type d name ≡ b → b ≡ false
    by true e = sym e ∙ none_chosen name d.actions (sym (action_choices d name e) ∙ h)
    by false e = refl

-- and one that is no type of actions lists its choices
pub kind_uids : (d : Declarations) (kind : EntityKind) → is_action_type d kind.name ≡ false → kind.choices ≡ ids_of d kind.name → uids_of kind ≡ choices_of d kind.name
kind_uids d kind e same = ap (map (uid_of kind.name)) same ∙ sym (kind_choices d kind.name e)

-- ---- entities that their types list

-- a declared action, or a choice of a type that is no one of actions
pub data IsListedAs (d : Declarations) (name : List ℕ) (u : Uid) : Type 0 where
  as_action : is_action_type d name ≡ true → Contains (action_uids d) u → IsListedAs d name u
  as_choice : is_action_type d name ≡ false → Contains (ids_of d name) u.id → IsListedAs d name u

pub record IsListedOf (d : Declarations) (name : List ℕ) (u : Uid) : Type 0 where
  pub kind : IsListedAs d name u
  pub named : u.type_name ≡ name

pub listed_of : (d : Declarations) (name : List ℕ) (u : Uid) → Contains (choices_of d name) u → IsListedOf d name u
listed_of d name u h = by (is_action_type d name) refl
  where
    by : (b : Bool) → is_action_type d name ≡ b → IsListedOf d name u
    by true e =
        let there = chosen name (action_uids d) u (subst (λ (us : List Uid). Contains us u) (action_choices d name e) h) in
        record { kind = as_action e there.among; named = there.named }
    by false e =
        let there = contains_from_map (uid_of name) (ids_of d name) u (subst (λ (us : List Uid). Contains us u) (kind_choices d name e) h) in
        record { kind = as_choice e (subst (Contains (ids_of d name)) (ap (λ (v : Uid). v.id) there.2) there.1); named = sym (ap (λ (v : Uid). v.type_name) there.2) }

-- what the list of a type has is listed by its own type
pub listed_itself : (d : Declarations) (name : List ℕ) (u : Uid) → Contains (choices_of d name) u → IsListed d u
listed_itself d name u h = subst (λ (n : List ℕ). Contains (choices_of d n) u) (sym (listed_of d name u h).named) h

kept_by : (name : List ℕ) (v : Uid) (us : List Uid) (u : Uid) (b : Bool) → bytes_eq name v.type_name ≡ b → u.type_name ≡ name → (v ≡ u) ⊎ Contains (of_type_name name us) u
    → Contains (cond b (v ∷ of_type_name name us) (of_type_name name us)) u
kept_by name v us u true e named (inl same) = subst (Contains (v ∷ of_type_name name us)) same (contains_first v (of_type_name name us))
kept_by name v us u true e named (inr later) = contains_rest v (of_type_name name us) u later
kept_by name v us u false e named (inl same) =
    absurd (false≢true (sym e ∙ (bytes_eq-Decides name v.type_name).1 (sym named ∙ ap (λ (w : Uid). w.type_name) (sym same))))
kept_by name v us u false e named (inr later) = later

kept_of_type : (name : List ℕ) (us : List Uid) (u : Uid) → u.type_name ≡ name → Contains us u → Contains (of_type_name name us) u
kept_of_type name [] u named h = absurd (contains_nothing u h)
kept_of_type name (v ∷ us) u named h =
    kept_by name v us u (bytes_eq name v.type_name) refl named (⊎_map (λ e. e) (kept_of_type name us u named) (contains_split v us u h))

action_typed : (d : Declarations) (u : Uid) → Contains (action_uids d) u → is_action_type d u.type_name ≡ true
action_typed d u h =
    let a = contains_from_map (λ (b : Action). b.uid) d.actions u h in
    any_contained (λ (b : Action). bytes_eq u.type_name b.uid.type_name) d.actions a.0 a.1 ((bytes_eq-Decides u.type_name a.0.uid.type_name).1 (ap (λ (v : Uid). v.type_name) (sym a.2)))

pub action_listed : (d : Declarations) (u : Uid) → Contains (action_uids d) u → IsListed d u
action_listed d u h =
    subst (λ (us : List Uid). Contains us u) (sym (action_choices d u.type_name (action_typed d u h))) (kept_of_type u.type_name (action_uids d) u refl h)

pub choice_listed : (d : Declarations) (u : Uid) → is_action_type d u.type_name ≡ false → Contains (ids_of d u.type_name) u.id → IsListed d u
choice_listed d u e h =
    subst (λ (us : List Uid). Contains us u) (sym (kind_choices d u.type_name e)) (contains_map (uid_of u.type_name) (ids_of d u.type_name) u.id h)

-- ---- ids among those that are listed

abbrev pub ids_in : List Uid → List (List ℕ)
ids_in us = map (λ (u : Uid). u.id) us

choice_among : (ids : List (List ℕ)) (id : List ℕ) → Contains ids id → is_choice ids id ≡ true
choice_among [] id h = absurd (contains_nothing id h)
choice_among (first ∷ more) id h = any_contained (bytes_eq id) (first ∷ more) id h ((bytes_eq-Decides id id).1 refl)

pub listed_choice : (us : List Uid) (u : Uid) → Contains us u → is_choice (ids_in us) u.id ≡ true
listed_choice us u h = choice_among (ids_in us) u.id (contains_map (λ (v : Uid). v.id) us u h)

pub plain_ids : (d : Declarations) (name : List ℕ) → is_action_type d name ≡ false → ids_in (choices_of d name) ≡ ids_of d name
plain_ids d name e = ap ids_in (kind_choices d name e) ∙ ap (λ (k : EntityKind). k.choices) (kind_of_uids (kind_of d name))

-- an entity that there may be of its type passes the test by those that its type lists
pub declared_choice : (d : Declarations) (u : Uid) → (is_action_type d u.type_name ≡ true → Contains (action_uids d) u) → IsChoice d u → is_choice (ids_in (choices_of d u.type_name)) u.id ≡ true
declared_choice d u acts choice = by (is_action_type d u.type_name) refl
  where
    by : (b : Bool) → is_action_type d u.type_name ≡ b → is_choice (ids_in (choices_of d u.type_name)) u.id ≡ true
    by true e = listed_choice (choices_of d u.type_name) u (action_listed d u (acts e))
    by false e = ap (λ (all : List (List ℕ)). is_choice all u.id) (plain_ids d u.type_name e) ∙ choice

-- and one of a type that passes it is listed, where the type lists any
pub choice_there : (d : Declarations) (name : List ℕ) (u : Uid) → u.type_name ≡ name → is_choice (ids_in (choices_of d name)) u.id ≡ true → (choices_of d name ≡ [] → ⊥) → Contains (choices_of d name) u
choice_there d name u named h some = by (choices_of d name) refl
  where
    by : (us : List Uid) → choices_of d name ≡ us → Contains (choices_of d name) u
    by [] e = absurd (some e)
    by (v ∷ us) e =
        let found = any_found (bytes_eq u.id) (ids_in (v ∷ us)) (ap (λ (all : List Uid). is_choice (ids_in all) u.id) (sym e) ∙ h) in
        let one = contains_from_map (λ (w : Uid). w.id) (v ∷ us) found.0 found.1 in
        let there : Contains (choices_of d name) one.0 = subst (λ (all : List Uid). Contains all one.0) (sym e) one.1 in
        let type_is : one.0.type_name ≡ u.type_name = (listed_of d name one.0 there).named ∙ sym named in
        let id_is : one.0.id ≡ u.id = one.2 ∙ sym (bytes_eq_true u.id found.0 found.2) in
        subst (Contains (choices_of d name)) (λ i. record { type_name = type_is i; id = id_is i }) there

-- ---- declared types

shape_there : (o : Option EntityType) → is_some (option_map (λ (t : EntityType). t.shape) o) ≡ is_some o
shape_there None = refl
shape_there (Some t) = refl

abbrev attrs_by : Declarations → List ℕ → Bool → Option Ty
attrs_by d name b = cond b (Some (Record [])) (option_map (λ (t : EntityType). t.shape) (entity_type d name))

declared_by : (d : Declarations) (name : List ℕ) (b : Bool) → (is_some (attrs_by d name b) ≡ true) ↔ (IsEntityType d name ⊎ IsTrue b)
declared_by d name true = (λ h. inr refl, λ h. refl)
declared_by d name false = (
  λ h. inl (sym (shape_there (entity_type d name)) ∙ h),
  λ h. elim h [
    | inl there ↦ shape_there (entity_type d name) ∙ there
    | inr no_more ↦ absurd cc
  ],
)

-- a type's attributes are there just where it is declared
pub declared_is : (d : Declarations) (name : List ℕ) → (is_some (attrs_of d name) ≡ true) ↔ IsDeclared d name
declared_is d name = declared_by d name (is_action_type d name)

-- and of a type that is no one of actions, just where it is one of entities
pub entity_is : (d : Declarations) (name : List ℕ) → is_action_type d name ≡ false → (is_some (attrs_of d name) ≡ true) ↔ IsEntityType d name
entity_is d name e =
    let same : attrs_of d name ≡ attrs_by d name false = ap (attrs_by d name) e in (
      λ h. sym (shape_there (entity_type d name)) ∙ ap (λ (o : Option Ty). is_some o) (sym same) ∙ h,
      λ h. ap (λ (o : Option Ty). is_some o) same ∙ shape_there (entity_type d name) ∙ h,
    )

-- ---- what tests of these tell

pub declared_told : (d : Declarations) (name : List ℕ) (b : Bool) → b ≡ is_some (attrs_of d name) → IsTrue b ↔ IsDeclared d name
declared_told d name b is = let same = declared_is d name in (λ h. same.0 (sym is ∙ h), λ p. is ∙ same.1 p)

-- a declared action
action_there : (d : Declarations) (u : Uid) → Contains (action_uids d) u → IsSome (action d u)
action_there d u h =
    let a = contains_from_map (λ (b : Action). b.uid) d.actions u h in
    found_some (λ (b : Action). uid_eq u b.uid) d.actions (any_contained (λ (b : Action). uid_eq u b.uid) d.actions a.0 a.1 ((uid_eq-Decides u a.0.uid).1 (sym a.2)))

pub there_action : (d : Declarations) (u : Uid) → IsSome (action d u) → Contains (action_uids d) u
there_action d u h =
    let a = some_of (action d u) h in
    let it = action_declared d u a.0 a.1 in
    subst (Contains (action_uids d)) (sym it.1) (contains_map (λ (b : Action). b.uid) d.actions a.0 it.0)

pub action_told : (d : Declarations) (u : Uid) (b : Bool) → b ≡ is_some (action_ancestors d u) → IsTrue b ↔ Contains (action_uids d) u
action_told d u b is =
    let same = some_map (λ (a : Action). a.ancestors) (action d u) in (
      λ h. there_action d u (sym same ∙ sym is ∙ h),
      λ c. is ∙ same ∙ action_there d u c,
    )

-- an entity among others
among_by : (u v : Uid) (us : List Uid) (b : Bool) → is_eq (uid_cmp u v) ≡ b → (b || list_any (λ (w : Uid). is_eq (uid_cmp u w)) us) ≡ true
    → (list_any (λ (w : Uid). is_eq (uid_cmp u w)) us ≡ true → Contains us u) → Contains (v ∷ us) u
among_by u v us true e h later = subst (Contains (v ∷ us)) (sym (uid_cmp_level u v (is_eq_true (uid_cmp u v) e))) (contains_first v us)
among_by u v us false e h later = contains_rest v us u (later h)

among_found : (u : Uid) (us : List Uid) → list_any (λ (w : Uid). is_eq (uid_cmp u w)) us ≡ true → Contains us u
among_found u [] h = absurd cc
among_found u (v ∷ us) h = among_by u v us (is_eq (uid_cmp u v)) refl h (among_found u us)

pub among_told : (us : List Uid) (u : Uid) (b : Bool) → b ≡ list_any (λ (v : Uid). is_eq (uid_cmp u v)) us → IsTrue b ↔ Contains us u
among_told us u b is = (
  λ h. among_found u us (sym is ∙ h),
  λ c. is ∙ any_contained (λ (v : Uid). is_eq (uid_cmp u v)) us u c (ap is_eq (tied_itself uid_cmp_total u)),
)

-- ---- an entity with those that its type lists

abbrev IsTyped : Declarations → List ℕ → Type 0
IsTyped d name = IsTrue (is_some (attrs_of d name))

pub entity_fails : (d : Declarations) (written : List Uid) (u : Uid) (us chosen : List Uid) (a : Bool) → chosen ≡ choices_of d u.type_name → (IsTrue a ↔ (us ≡ chosen)) → a ≡ false → IsTrue false ↔ IsEntityLiteral d written u us
entity_fails d written u us chosen a is same e = (λ h. absurd cc, λ p. let t : a ≡ true = same.1 (p.0 ∙ sym is) in let both : true ≡ false = sym t ∙ e in cc)

-- what is written or listed, by the list itself
written_at : (d : Declarations) (written : List Uid) (u : Uid) (chosen : List Uid) (w : Bool) → chosen ≡ choices_of d u.type_name → (IsTrue w ↔ (Contains written u ⊎ Contains chosen u)) → IsTrue w ↔ IsWritten d written u
written_at d written u chosen w is told = subst (λ (us : List Uid). IsTrue w ↔ (Contains written u ⊎ Contains us u)) is told

pub entity_holds : (d : Declarations) (written : List Uid) (u : Uid) (us chosen : List Uid) (a w : Bool) → chosen ≡ choices_of d u.type_name → (IsTrue a ↔ (us ≡ chosen)) → a ≡ true
    → (IsTrue w ↔ (Contains written u ⊎ Contains chosen u)) → w ≡ true → IsTrue true ↔ IsEntityLiteral d written u us
entity_holds d written u us chosen a w is same e told f = (λ h. (same.0 e ∙ is, inl ((written_at d written u chosen w is told).0 f)), λ p. refl)

-- a declared type that lists no entities is one of entities
nameless_at : (d : Declarations) (u : Uid) (chosen : List Uid) (n : Bool) → chosen ≡ choices_of d u.type_name → (IsTrue n ↔ ((u.id ≡ []) × (chosen ≡ []) × IsTyped d u.type_name)) → IsTrue n ↔ IsNameless d u
nameless_at d u chosen n is told = (
  λ h. let p = told.0 h in let none = sym is ∙ p.1 in (p.0, (entity_is d u.type_name (no_actions d u.type_name none)).0 p.2, none),
  λ p. told.1 (p.0, is ∙ p.2, (entity_is d u.type_name (no_actions d u.type_name p.2)).1 p.1),
)

pub entity_default : (d : Declarations) (written : List Uid) (u : Uid) (us chosen : List Uid) (a w n : Bool) → chosen ≡ choices_of d u.type_name → (IsTrue a ↔ (us ≡ chosen)) → a ≡ true
    → (IsTrue w ↔ (Contains written u ⊎ Contains chosen u)) → w ≡ false → (IsTrue n ↔ ((u.id ≡ []) × (chosen ≡ []) × IsTyped d u.type_name)) → IsTrue n ↔ IsEntityLiteral d written u us
entity_default d written u us chosen a w n is same e told f nameless = (
  λ h. (same.0 e ∙ is, inr ((nameless_at d u chosen n is nameless).0 h)),
  λ p. elim p.1 [
    | inl x ↦ absurd (false≢true (sym f ∙ (written_at d written u chosen w is told).1 x))
    | inr y ↦ (nameless_at d u chosen n is nameless).1 y
  ],
)
