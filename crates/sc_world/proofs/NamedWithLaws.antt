-- What a world stores where nothing is given.
use Rattle.std.proofs.Common.{◌≡◌, ◌++◌, List, [], ◌∷◌, false, true, Option, None, IsSome, Contains, inl, inr, refl, ap, sym, subst, ◌∙◌}
use Rattle.std.specs.Prelude.{unwrap_or}
use Rattle.std.proofs.lemmas.List.Elements.{Contains-append_left, Contains-append_cases}
use Rattle.sc_lists.proofs.ListLaws.{contains_nothing}
use Rattle.sc_names.specs.declared.uid.Uid.{Uid}
use Rattle.sc_schema.specs.Declarations.{Declarations}
use Rattle.sc_schema.specs.Lawful.{IsLawful}
use Rattle.sc_values.specs.declared.value.Value.TheVariants.{Record}
use Rattle.sc_world.specs.declared.entity.EntityData.{EntityData}
use Rattle.sc_world.specs.declared.world.Request.{Request}
use Rattle.sc_world.specs.Defaults.{default_data}
use Rattle.sc_world.specs.Given.{data_with, AreAsGiven, IsNamedWith, of_schema, of_request, of_policy, of_given, of_entity, StoresNamedWith}
use Rattle.sc_world.specs.Named.{uids_in, uids_in_data, attribute_uids, IsNamed, by_schema, by_request, by_policy, by_entity, StoresNamed, AreDefaults}
use Rattle.sc_world.specs.Stores.{Entities, stored}
use Rattle.sc_world.proofs.DefaultEntityLaws.{default_ancestor}
use Rattle.sc_world.proofs.UidsLaws.{uids_Record}

none_stored : (u : Uid) → stored u [] ≡ None
unfolding stored
none_stored u = refl

by_default : (s : Declarations) (u : Uid) → data_with s [] u ≡ default_data s u
by_default s u = ap (λ (o : Option EntityData). unwrap_or o (default_data s u)) (none_stored u)

no_tag_uids : (u : Uid) → Contains (uids_in (Record [])) u → ⊥
no_tag_uids u has = contains_nothing u (subst (λ (us : List Uid). Contains us u) (uids_Record []) has)

module _ (s : Declarations) (lawful : IsLawful s) (r : Request) (literals : List Uid) where
  -- what is stored of an entity by default names what its attributes do, and declared actions
  default_named : (u v : Uid) → IsNamed s r literals u → Contains (uids_in_data (default_data s u)) v → IsNamed s r literals v
  default_named u v before has = elim (Contains-append_cases (attribute_uids s u) (uids_in (Record []) ++ (default_data s u).ancestors) v has) [
    | inl in_attrs ↦ by_entity u before in_attrs
    | inr later ↦ elim (Contains-append_cases (uids_in (Record [])) (default_data s u).ancestors v later) [
      | inl in_tags ↦ absurd (no_tag_uids v in_tags)
      | inr above ↦ by_schema (default_ancestor s lawful u v above)
    ]
  ]

  to_named : (u : Uid) → IsNamedWith s [] r literals u → IsNamed s r literals u
  to_named u (of_schema has) = by_schema has
  to_named u (of_request has) = by_request has
  to_named u (of_policy has) = by_policy has
  to_named u (of_given here) = let no : false ≡ true = subst (λ (o : Option EntityData). IsSome o) (none_stored u) here in absurd cc
  to_named v (of_entity u before has) = default_named u v (to_named u before) (subst (λ (e : EntityData). Contains (uids_in_data e) v) (by_default s u) has)

  from_named : (u : Uid) → IsNamed s r literals u → IsNamedWith s [] r literals u
  from_named u (by_schema has) = of_schema has
  from_named u (by_request has) = of_request has
  from_named u (by_policy has) = of_policy has
  from_named v (by_entity u before has) =
      let here = Contains-append_left (attribute_uids s u) (uids_in (Record []) ++ (default_data s u).ancestors) v has in
      of_entity u (from_named u before) (subst (λ (e : EntityData). Contains (uids_in_data e) v) (sym (by_default s u)) here)

  pub stores_named : (es : Entities) → StoresNamedWith s [] r literals es → StoresNamed s r literals es
  stores_named es exact u = (λ h. to_named u ((exact u).0 h), λ h. (exact u).1 (from_named u h))

pub are_defaults : (s : Declarations) (es : Entities) → AreAsGiven s [] es → AreDefaults s es
are_defaults s [] h = tt
are_defaults s (x ∷ es) h = (h.0 ∙ by_default s x.0, are_defaults s es h.1)
