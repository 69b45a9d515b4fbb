-- What is stored of an entity, against what a declared action stores.
use Rattle.std.proofs.Common.{◌≡◌, ◌↔◌, List, [], Bool, true, false, Option, Some, None, IsTrue, refl, sym, ap, ◌∙◌}
use Rattle.std.specs.Prelude.{option_map}
use Rattle.sc_names.specs.declared.uid.Uid.{Uid}
use Rattle.sc_schema.specs.declared.declarations.Action.{Action}
use Rattle.sc_schema.specs.Declarations.{Declarations, action, action_ancestors, is_action_type}
use Rattle.sc_schema.specs.Lawful.{IsLawful}
use Rattle.sc_schema.proofs.LookupLaws.{action_found, action_declared}
use Rattle.sc_world.specs.declared.entity.EntityData.{EntityData}
use Rattle.sc_world.specs.WellFormed.{Entry, action_data, IsAction}
use Rattle.sc_world.specs.Tests.{IsStoredAction, HasActionData}

pub action_tested : (s : Declarations) (u : Uid) (e : EntityData) (t b : Bool) → t ≡ is_action_type s u.type_name → t ≡ true
    → (IsTrue b ↔ IsStoredAction s (u, e)) → IsTrue b ↔ IsAction s (u, e)
action_tested s u e t b asked holds test = (λ h told. test.0 h, λ h. test.1 (h (sym asked ∙ holds)))

-- ---- an action by what is found under its uid

abbrev ancestors_in : Option Action → Option (List Uid)
ancestors_in o = option_map (λ (a : Action). a.ancestors) o

record IsFound (o : Option Action) (ancestors : List Uid) : Type 0 where
  it : Action
  found : o ≡ Some it
  above : ancestors ≡ it.ancestors

found_with : (o : Option Action) (ancestors : List Uid) → Some ancestors ≡ ancestors_in o → IsFound o ancestors
found_with None ancestors is = absurd cc
found_with (Some a) ancestors is = record { it = a; found = refl; above = cc }

one_entry : (u : Uid) (e : EntityData) (a : Action) → u ≡ a.uid → e.attrs ≡ [] → e.ancestors ≡ a.ancestors → e.tags ≡ [] → ◌≡◌ {A = Entry} (u, e) (a.uid, action_data a)
one_entry u e a uid attrs ancestors tags = λ i. (uid i, record { attrs = attrs i; ancestors = ancestors i; tags = tags i })

-- a stored action is what is found under its uid
found_stored : (s : Declarations) (u : Uid) (e : EntityData) → IsLawful s → (stored : IsStoredAction s (u, e)) → action s u ≡ Some stored.0
found_stored s u e lawful stored = ap (λ (x : Entry). action s x.0) stored.2 ∙ action_found s stored.0 lawful stored.1

same_ancestors : (o : Option Action) (a : Action) (ancestors : List Uid) → o ≡ Some a → Some ancestors ≡ ancestors_in o → a.ancestors ≡ ancestors
same_ancestors o a ancestors found is = let one : Some ancestors ≡ Some a.ancestors = is ∙ ap ancestors_in found in cc

pub declared_tested : (s : Declarations) (u : Uid) (e : EntityData) (ancestors : List Uid) (b : Bool) → IsLawful s → Some ancestors ≡ action_ancestors s u
    → (IsTrue b ↔ HasActionData ancestors e) → IsTrue b ↔ IsStoredAction s (u, e)
declared_tested s u e ancestors b lawful is test = (
  λ h.
      let told = test.0 h in
      let f = found_with (action s u) ancestors is in
      let declared = action_declared s u f.it f.found in
      (f.it, declared.0, one_entry u e f.it declared.1 told.0 (told.1 ∙ f.above) told.2),
  λ stored. test.1 (
    ap (λ (x : Entry). x.1.attrs) stored.2,
    ap (λ (x : Entry). x.1.ancestors) stored.2 ∙ same_ancestors (action s u) stored.0 ancestors (found_stored s u e lawful stored) is,
    ap (λ (x : Entry). x.1.tags) stored.2,
  ),
)

none_found : (o : Option Action) (a : Action) → o ≡ Some a → None ≡ ancestors_in o → ⊥
none_found o a found is = let no : None ≡ Some a.ancestors = is ∙ ap ancestors_in found in absurd cc

pub undeclared_tested : (s : Declarations) (u : Uid) (e : EntityData) → IsLawful s → None ≡ action_ancestors s u → IsTrue false ↔ IsStoredAction s (u, e)
undeclared_tested s u e lawful is = (
  λ h. absurd cc,
  λ stored. absurd (none_found (action s u) stored.0 (found_stored s u e lawful stored) is),
)
