-- A list that is built element by element beside another.
use Rattle.std.proofs.Common.{◌≡◌, ℕ, suc, List, [], ◌∷◌, ◌++◌, Some, length, map, refl, sym, ap, subst, ◌∙◌, inl, inr, append_assoc, Contains, IsPermutation}
use Rattle.std.specs.List.{AllZip, slice_get}
use Rattle.std.specs.List.Sorted.{IsStrictlySortedBy}
use Rattle.std.proofs.lemmas.List.Sorted.{Contains-permutation, IsPermutation-map, IsPermutation-sym}
use Rattle.std.proofs.lemmas.Option.{slice_get-map}
use Rattle.std.specs.Map.{keys_of}
use Rattle.std.specs.Option.{option_map}
use Rattle.sc_lists.proofs.ListLaws.{contains_nothing, contains_split, contains_rest, contains_first, zip_push}
use Rattle.sc_names.specs.Uids.{text_cmp, uid_cmp}
use Rattle.sc_schema.specs.declared.declarations.Action.{Action}
use Rattle.sc_schema.specs.declared.declarations.EntityType.{EntityType}
use Rattle.sc_schema.specs.declared.expanded.ExpandedAction.{ExpandedAction}
use Rattle.sc_schema.specs.declared.expanded.ExpandedEntityType.{ExpandedEntityType}
use Rattle.sc_names.specs.declared.uid.Uid.{Uid}
use Rattle.sc_schema_json.specs.Above.{Links, AreAbove, NamesKeys}
use Rattle.sc_schema_json.specs.Schemas.{AreInOrder, type_links, action_links, IsEntityTypeOf, IsActionOf, AreTypesOf, AreActionsOf}
use Rattle.sc_schema_json.proofs.LinksLaws.{are_above_permuted, keys_of_links, named_permuted}

-- ---- one list beside the front of another

zip_length : {D T : Type 0} (Of : D → T → Type 0) (ds : List D) (ts : List T) → AllZip Of ds ts → length ds ≡ length ts
zip_length Of [] [] all = refl
zip_length Of [] (t ∷ ts) all = absurd all
zip_length Of (d ∷ ds) [] all = absurd all
zip_length Of (d ∷ ds) (t ∷ ts) all = ap suc (zip_length Of ds ts all.1)

-- of the whole list these are still to come, and what is built is made of those before
pub record AreBuilt {D T : Type 0} (Of : D → T → Type 0) (all rest : List D) (built : List T) : Type 0 where
  pub done : List D
  pub whole : done ++ rest ≡ all
  pub each : AllZip Of done built

pub built_first : {D T : Type 0} (Of : D → T → Type 0) (all : List D) → AreBuilt Of all all []
built_first Of all = record { done = []; whole = refl; each = tt }

pub built_next : {D T : Type 0} (Of : D → T → Type 0) (all left rest : List D) (built new : List T) (d : D) (t : T) → AreBuilt Of all left built → left ≡ d ∷ rest → Of d t → new ≡ built ++ t ∷ [] → AreBuilt Of all rest new
built_next {D} {T} Of all left rest built new d t b next of is =
    record {
      done = b.done ++ d ∷ [];
      whole = append_assoc b.done (d ∷ []) rest ∙ (ap (λ (ds : List D). b.done ++ ds) (sym next) ∙ b.whole);
      each = subst (λ (ts : List T). AllZip Of (b.done ++ d ∷ []) ts) (sym is) (zip_push Of b.done built d t b.each of);
    }

no_more : {X : Type 0} (xs : List X) → xs ++ [] ≡ xs
no_more [] = refl
no_more {X} (x ∷ xs) = ap (λ (ys : List X). x ∷ ys) (no_more xs)

pub built_whole : {D T : Type 0} (Of : D → T → Type 0) (all rest : List D) (built : List T) → AreBuilt Of all rest built → rest ≡ [] → AllZip Of all built
built_whole {D} Of all rest built b none =
    subst (λ (ds : List D). AllZip Of ds built) (sym (no_more b.done) ∙ (ap (λ (ds : List D). b.done ++ ds) (sym none) ∙ b.whole)) b.each

get_next : {X : Type 0} (xs : List X) (x : X) (ys : List X) → slice_get (xs ++ x ∷ ys) (length xs) ≡ Some x
get_next [] x ys = refl
get_next (y ∷ xs) x ys = get_next xs x ys

-- the next of the list stands at the place after what is built
pub built_at : {D T : Type 0} (Of : D → T → Type 0) (all left rest : List D) (built : List T) (d : D) → AreBuilt Of all left built → left ≡ d ∷ rest → slice_get all (length built) ≡ Some d
built_at {D} Of all left rest built d b next =
    ap (λ (ds : List D). slice_get ds (length built)) (sym b.whole ∙ ap (λ (ds : List D). b.done ++ ds) next)
    ∙ (ap (slice_get (b.done ++ d ∷ rest)) (sym (zip_length Of b.done built b.each)) ∙ get_next b.done d rest)

-- ---- what stands beside an element

module _ {D T : Type 0} (Of : D → T → Type 0) where
  zip_left : (ds : List D) (ts : List T) → AllZip Of ds ts → (t : T) → Contains ts t → (d : D) × Contains ds d × Of d t
  zip_left [] [] all t has = absurd (contains_nothing t has)
  zip_left [] (u ∷ us) all t has = absurd all
  zip_left (e ∷ es) [] all t has = absurd all
  zip_left (e ∷ es) (u ∷ us) all t has = elim (contains_split u us t has) [
    | inl same ↦ (e, contains_first e es, subst (Of e) same all.0)
    | inr more ↦ later (zip_left es us all.1 t more)
  ] where
    later : (d : D) × Contains es d × Of d t → (d : D) × Contains (e ∷ es) d × Of d t
    later found = (found.0, contains_rest e es found.0 found.1, found.2)

  zip_right : (ds : List D) (ts : List T) → AllZip Of ds ts → (d : D) → Contains ds d → (t : T) × Contains ts t × Of d t
  zip_right [] ts all d has = absurd (contains_nothing d has)
  zip_right (e ∷ es) [] all d has = absurd all
  zip_right (e ∷ es) (u ∷ us) all d has = elim (contains_split e es d has) [
    | inl same ↦ (u, contains_first u us, subst (λ (x : D). Of x u) same all.0)
    | inr more ↦ later (zip_right es us all.1 d more)
  ] where
    later : (t : T) × Contains us t × Of d t → (t : T) × Contains (u ∷ us) t × Of d t
    later found = (found.0, contains_rest u us found.0 found.1, found.2)

  zip_keys : {K : Type 0} (declared : D → K) (key : T → K) → ((d : D) (t : T) → Of d t → key t ≡ declared d) → (ds : List D) (ts : List T) → AllZip Of ds ts → map declared ds ≡ map key ts
  zip_keys declared key same [] [] all = refl
  zip_keys declared key same [] (t ∷ ts) all = absurd all
  zip_keys declared key same (d ∷ ds) [] all = absurd all
  zip_keys {K} declared key same (d ∷ ds) (t ∷ ts) all =
      ap (λ (k : K). k ∷ map declared ds) (sym (same d t all.0)) ∙ ap (λ (ks : List K). key t ∷ ks) (zip_keys declared key same ds ts all.1)

-- ---- entity types and actions

pub types_sorted : (ds : List ExpandedEntityType) → IsStrictlySortedBy text_cmp (map (λ (d : ExpandedEntityType). d.name) ds) → IsStrictlySortedBy text_cmp (keys_of (type_links ds))
types_sorted ds ascending = subst (IsStrictlySortedBy text_cmp) (sym (keys_of_links (λ (d : ExpandedEntityType). d.name) (λ (d : ExpandedEntityType). d.parents) ds)) ascending

pub types_named : (ds sorted : List ExpandedEntityType) → IsPermutation ds sorted → NamesKeys (type_links ds) → NamesKeys (type_links sorted)
types_named ds sorted permutation = named_permuted (type_links ds) (type_links sorted) (IsPermutation-map (λ (d : ExpandedEntityType). (d.name, d.parents)) ds sorted permutation)

-- the type that is made of the declaration at a place
pub type_made : (ds : List ExpandedEntityType) (links : Links (List ℕ)) (at : ℕ) (d : ExpandedEntityType) (ancestors : List (List ℕ)) (t : EntityType) → links ≡ type_links ds → slice_get ds at ≡ Some d
    → t ≡ record { name = d.name; ancestors = ancestors; shape = d.shape; tags = d.tags; choices = d.choices } → ((name : List ℕ) (above : List (List ℕ)) → slice_get links at ≡ Some (name, above) → AreAbove text_cmp links name ancestors)
    → IsEntityTypeOf (type_links ds) d t
type_made ds links at d ancestors t are there is told =
    let listed : slice_get links at ≡ Some (d.name, d.parents) =
    ap (λ (ls : Links (List ℕ)). slice_get ls at) are ∙ (slice_get-map (λ (e : ExpandedEntityType). (e.name, e.parents)) ds at ∙ ap (option_map (λ (e : ExpandedEntityType). (e.name, e.parents))) there) in
    let above : AreAbove text_cmp (type_links ds) d.name ancestors = subst (λ (ls : Links (List ℕ)). AreAbove text_cmp ls d.name ancestors) are (told d.name d.parents listed) in
    record {
      name = ap (λ (u : EntityType). u.name) is;
      ancestors = subst (λ (names : List (List ℕ)). AreAbove text_cmp (type_links ds) d.name names) (sym (ap (λ (u : EntityType). u.ancestors) is)) above;
      shape = ap (λ (u : EntityType). u.shape) is;
      tags = ap (λ (u : EntityType). u.tags) is;
      choices = ap (λ (u : EntityType). u.choices) is;
    }

type_permuted : (ds sorted : List ExpandedEntityType) → IsPermutation ds sorted → (d : ExpandedEntityType) (t : EntityType) → IsEntityTypeOf (type_links sorted) d t → IsEntityTypeOf (type_links ds) d t
type_permuted ds sorted permutation d t of =
    record {
      name = of.name;
      ancestors = are_above_permuted text_cmp (type_links ds) (type_links sorted) d.name t.ancestors (IsPermutation-map (λ (e : ExpandedEntityType). (e.name, e.parents)) ds sorted permutation) of.ancestors;
      shape = of.shape;
      tags = of.tags;
      choices = of.choices;
    }

pub types_built : (ds sorted : List ExpandedEntityType) (types : List EntityType) → IsPermutation ds sorted → IsStrictlySortedBy text_cmp (map (λ (d : ExpandedEntityType). d.name) sorted)
    → AllZip (IsEntityTypeOf (type_links sorted)) sorted types → AreTypesOf ds types
types_built ds sorted types permutation ascending all =
    record {
      ascending =
          subst (IsStrictlySortedBy text_cmp) (zip_keys (IsEntityTypeOf (type_links sorted)) (λ (d : ExpandedEntityType). d.name) (λ (t : EntityType). t.name) (λ d t of. of.name) sorted types all) ascending;
      each = λ t has. made t (zip_left (IsEntityTypeOf (type_links sorted)) sorted types all t has);
      all = λ d has. makes d (zip_right (IsEntityTypeOf (type_links sorted)) sorted types all d (Contains-permutation ds sorted d permutation has));
    } where
      made : (t : EntityType) → (d : ExpandedEntityType) × Contains sorted d × IsEntityTypeOf (type_links sorted) d t → (d : ExpandedEntityType) × Contains ds d × IsEntityTypeOf (type_links ds) d t
      made t found = (found.0, Contains-permutation sorted ds found.0 (IsPermutation-sym ds sorted permutation) found.1, type_permuted ds sorted permutation found.0 t found.2)

      makes : (d : ExpandedEntityType) → (t : EntityType) × Contains types t × IsEntityTypeOf (type_links sorted) d t → (t : EntityType) × Contains types t × IsEntityTypeOf (type_links ds) d t
      makes d found = (found.0, found.1, type_permuted ds sorted permutation d found.0 found.2)

pub actions_sorted : (ds : List ExpandedAction) → IsStrictlySortedBy uid_cmp (map (λ (d : ExpandedAction). d.uid) ds) → IsStrictlySortedBy uid_cmp (keys_of (action_links ds))
actions_sorted ds ascending = subst (IsStrictlySortedBy uid_cmp) (sym (keys_of_links (λ (d : ExpandedAction). d.uid) (λ (d : ExpandedAction). d.parents) ds)) ascending

pub actions_named : (ds sorted : List ExpandedAction) → IsPermutation ds sorted → NamesKeys (action_links ds) → NamesKeys (action_links sorted)
actions_named ds sorted permutation = named_permuted (action_links ds) (action_links sorted) (IsPermutation-map (λ (d : ExpandedAction). (d.uid, d.parents)) ds sorted permutation)

-- the action that is made of the declaration at a place
pub action_made : (ds : List ExpandedAction) (links : Links Uid) (at : ℕ) (d : ExpandedAction) (ancestors : List Uid) (a : Action) → links ≡ action_links ds → slice_get ds at ≡ Some d
    → a.uid ≡ d.uid → a.ancestors ≡ ancestors → AreInOrder d.principals a.principals → AreInOrder d.resources a.resources → a.context ≡ d.context
    → ((u : Uid) (above : List Uid) → slice_get links at ≡ Some (u, above) → AreAbove uid_cmp links u ancestors) → IsActionOf (action_links ds) d a
action_made ds links at d ancestors a are there uid above principals resources context told =
    let listed : slice_get links at ≡ Some (d.uid, d.parents) =
    ap (λ (ls : Links Uid). slice_get ls at) are ∙ (slice_get-map (λ (e : ExpandedAction). (e.uid, e.parents)) ds at ∙ ap (option_map (λ (e : ExpandedAction). (e.uid, e.parents))) there) in
    let all : AreAbove uid_cmp (action_links ds) d.uid ancestors = subst (λ (ls : Links Uid). AreAbove uid_cmp ls d.uid ancestors) are (told d.uid d.parents listed) in
    record {
      uid = uid;
      ancestors = subst (λ (us : List Uid). AreAbove uid_cmp (action_links ds) d.uid us) (sym above) all;
      principals = principals;
      resources = resources;
      context = context;
    }

action_permuted : (ds sorted : List ExpandedAction) → IsPermutation ds sorted → (d : ExpandedAction) (a : Action) → IsActionOf (action_links sorted) d a → IsActionOf (action_links ds) d a
action_permuted ds sorted permutation d a of =
    record {
      uid = of.uid;
      ancestors = are_above_permuted uid_cmp (action_links ds) (action_links sorted) d.uid a.ancestors (IsPermutation-map (λ (e : ExpandedAction). (e.uid, e.parents)) ds sorted permutation) of.ancestors;
      principals = of.principals;
      resources = of.resources;
      context = of.context;
    }

pub actions_built : (ds sorted : List ExpandedAction) (actions : List Action) → IsPermutation ds sorted → IsStrictlySortedBy uid_cmp (map (λ (d : ExpandedAction). d.uid) sorted)
    → AllZip (IsActionOf (action_links sorted)) sorted actions → AreActionsOf ds actions
actions_built ds sorted actions permutation ascending all =
    record {
      ascending = subst (IsStrictlySortedBy uid_cmp) (zip_keys (IsActionOf (action_links sorted)) (λ (d : ExpandedAction). d.uid) (λ (a : Action). a.uid) (λ d a of. of.uid) sorted actions all) ascending;
      each = λ a has. made a (zip_left (IsActionOf (action_links sorted)) sorted actions all a has);
      all = λ d has. makes d (zip_right (IsActionOf (action_links sorted)) sorted actions all d (Contains-permutation ds sorted d permutation has));
    } where
      made : (a : Action) → (d : ExpandedAction) × Contains sorted d × IsActionOf (action_links sorted) d a → (d : ExpandedAction) × Contains ds d × IsActionOf (action_links ds) d a
      made a found = (found.0, Contains-permutation sorted ds found.0 (IsPermutation-sym ds sorted permutation) found.1, action_permuted ds sorted permutation found.0 a found.2)

      makes : (d : ExpandedAction) → (a : Action) × Contains actions a × IsActionOf (action_links sorted) d a → (a : Action) × Contains actions a × IsActionOf (action_links ds) d a
      makes d found = (found.0, found.1, action_permuted ds sorted permutation d found.0 found.2)
