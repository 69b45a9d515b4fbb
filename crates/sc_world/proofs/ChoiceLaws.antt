-- Choices as they are looked up and tested, and the first entity of a type.
use Rattle.std.proofs.Common.{◌≡◌, ◌==◌, ◌↔◌, ℕ, List, [], ◌∷◌, length, Bool, true, false, Option, Some, None, IsTrue, option_map, unwrap_or, slice_get, refl, ap, sym, subst, ◌∙◌}
use Rattle.std.proofs.Math.Dec.{eqb-suc-zero}
use Rattle.std.specs.List.{AllByRecursion, list_any}
use Rattle.std.specs.Str.{bytes_eq, IsUtf8}
use Rattle.std.proofs.lemmas.Bool.{or_left}
use Rattle.std.proofs.lemmas.Slice.Eq.{bytes_eq-Decides}
use Rattle.sc_lists.proofs.ListLaws.{all_element}
use Rattle.sc_names.specs.declared.uid.Uid.{Uid}
use Rattle.sc_schema.specs.declared.declarations.EntityType.{EntityType}
use Rattle.sc_schema.specs.Declarations.{Declarations, entity_type, is_action_type, choices_of, some_of}
use Rattle.sc_schema.specs.Lawful.{IsLawful, IsLawfulType}
use Rattle.sc_schema.proofs.LawfulLaws.{ascii_text}
use Rattle.sc_schema.proofs.LookupLaws.{type_declared}
use Rattle.sc_values.specs.Proper.{IsUidText}
use Rattle.sc_world.specs.Choices.{is_choice, IsChoice}
use Rattle.sc_world.specs.Defaults.{first_entity}

-- ---- as they are looked up

pub same_choices : (cs ids : List (List ℕ)) → Some ids ≡ some_of cs → ids ≡ cs
same_choices [] ids is = absurd cc
same_choices (c ∷ cs) ids is = cc

pub no_choices : (cs : List (List ℕ)) → None ≡ some_of cs → cs ≡ []
no_choices [] is = refl
no_choices (c ∷ cs) is = absurd cc

-- ---- as they are tested

pub among_none : (ids : List (List ℕ)) (id : List ℕ) (b : Bool) → b ≡ (length ids == 0) → b ≡ true → true ≡ is_choice ids id
among_none [] id b is h = refl
among_none (c ∷ cs) id b is h = let no : true ≡ false = sym h ∙ is ∙ eqb-suc-zero (length cs) in absurd cc

pub among_some : (ids : List (List ℕ)) (id : List ℕ) (b r : Bool) → b ≡ (length ids == 0) → b ≡ false → r ≡ list_any (bytes_eq id) ids → r ≡ is_choice ids id
among_some [] id b r is h told = let no : false ≡ true = sym h ∙ is in absurd cc
among_some (c ∷ cs) id b r is h told = told

-- ---- the first entity of a type

pub first_absent : (name : List ℕ) (ids : List (List ℕ)) → None ≡ slice_get ids 0 → ◌≡◌ {A = Uid} (record { type_name = name; id = [] }) (first_entity name ids)
first_absent name [] is = refl
first_absent name (id ∷ ids) is = absurd cc

pub first_found : (name id : List ℕ) (ids : List (List ℕ)) → Some id ≡ slice_get ids 0 → ◌≡◌ {A = Uid} (record { type_name = name; id = id }) (first_entity name ids)
first_found name id [] is = absurd cc
first_found name id (other ∷ ids) is = let same : id ≡ other = cc in λ i. record { type_name = name; id = same i }

pub first_type : (name : List ℕ) (ids : List (List ℕ)) → (first_entity name ids).type_name ≡ name
first_type name [] = refl
first_type name (id ∷ ids) = refl

pub first_text : (name : List ℕ) (ids : List (List ℕ)) → IsUtf8 name → AllByRecursion IsUtf8 ids → IsUidText (first_entity name ids)
first_text name [] text h = (text, ascii_text [] refl)
first_text name (id ∷ ids) text h = (text, h.0)

pub first_choice : (name : List ℕ) (ids : List (List ℕ)) → is_choice ids (first_entity name ids).id ≡ true
first_choice name [] = refl
first_choice name (id ∷ ids) = or_left (bytes_eq id id) (list_any (bytes_eq id) ids) ((bytes_eq-Decides id id).1 refl)

-- ---- of a schema

module _ (s : Declarations) (lawful : IsLawful s) where
  declared_type : (name : List ℕ) (t : EntityType) → entity_type s name ≡ Some t → IsLawfulType s t × (name ≡ t.name)
  declared_type name t found = let there = type_declared s name t found in (all_element (IsLawfulType s) s.types t lawful.each_type there.0, there.1)

  abbrev choices_in : Option EntityType → List (List ℕ)
  choices_in o = unwrap_or (option_map (λ (t : EntityType). t.choices) o) []

  texts_at : (name : List ℕ) (o : Option EntityType) → entity_type s name ≡ o → AllByRecursion IsUtf8 (choices_in o)
  texts_at name None found = tt
  texts_at name (Some t) found = (declared_type name t found).0.ids.texts

  pub choice_texts : (name : List ℕ) → AllByRecursion IsUtf8 (choices_of s name)
  choice_texts name = texts_at name (entity_type s name) refl

  none_at : (name : List ℕ) (o : Option EntityType) → is_action_type s name ≡ true → entity_type s name ≡ o → choices_in o ≡ []
  none_at name None kind found = refl
  none_at name (Some t) kind found =
      let there = declared_type name t found in
      let both : true ≡ false = sym kind ∙ (ap (is_action_type s) there.1 ∙ there.0.no_action) in
      absurd cc

  -- types of actions have no choices
  pub action_choices : (name : List ℕ) → is_action_type s name ≡ true → choices_of s name ≡ []
  action_choices name kind = none_at name (entity_type s name) kind refl

  pub action_choice : (u : Uid) → is_action_type s u.type_name ≡ true → IsChoice s u
  action_choice u kind = subst (λ (ids : List (List ℕ)). IsTrue (is_choice ids u.id)) (sym (action_choices u.type_name kind)) refl
