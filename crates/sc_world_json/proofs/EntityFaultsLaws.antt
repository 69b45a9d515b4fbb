-- A step of the walk over the stored entities: what is looked at next has a fault, or none.
use Rattle.std.proofs.Common.{◌≡◌, ◌<◌, ◌≤◌, ◌∙◌, ℕ, ◌+◌, List, [], Bool, length, get_or, drop, Option, Some, None, codes, refl, sym, ap}
use Rattle.std.specs.Prelude.{not, option_map}
use Rattle.std.specs.Option.{option_or}
use Rattle.std.specs.BTreeSet.{insert_key}
use Rattle.std.specs.Fmt.{decimal}
use Rattle.serde_json.specs.Data.{Data}
use Rattle.serde_json.specs.Find.{get}
use Rattle.serde_json.specs.View.{view, items_view}
use Rattle.serde_json.specs.declared.value.Value.{Value}
use Rattle.sc_lists.specs.Ordered.{is_in}
use Rattle.sc_names.specs.declared.uid.Uid.{Uid}
use Rattle.sc_names.specs.Uids.{uid_cmp}
use Rattle.sc_world_json.specs.declared.fault.WorldFault.{WorldFault}
use Rattle.sc_world_json.specs.declared.form.Form.TheVariants.{Object}
use Rattle.sc_world_json.specs.declared.level.Level.TheVariants.{Entity}
use Rattle.sc_world_json.specs.Faults.{fault_unless, under, value_fault, entity_fault, entities_fault}
use Rattle.sc_world_json.specs.Worlds.{uid_of}
use Rattle.sc_json.proofs.WalkLaws.{items_next, items_end}

pub form_fault : (before : List Uid) (d : Data) (fault : WorldFault) → Some fault ≡ value_fault (Object Entity) d → Some fault ≡ entity_fault before d
form_fault before d fault told = rw (← told) refl

pub uid_fault : (before : List Uid) (d : Data) (uid : Uid) (is_new : Bool) (fault : Option WorldFault)
    → None ≡ value_fault (Object Entity) d → uid ≡ uid_of (get (codes "uid") d) → is_new ≡ not (is_in uid_cmp uid before) → fault ≡ fault_unless is_new
    → option_map (under (codes "uid")) fault ≡ entity_fault before d
uid_fault before d uid is_new fault told is new asked =
    let repeated : fault ≡ fault_unless (not (is_in uid_cmp (uid_of (get (codes "uid") d)) before)) =
    asked ∙ (ap fault_unless new ∙ ap (λ (u : Uid). fault_unless (not (is_in uid_cmp u before))) is) in
    ap (option_map (under (codes "uid"))) repeated ∙ rw (← told) refl

abbrev uid_in : Value → Uid
uid_in x = uid_of (get (codes "uid") (view x))

entities_fault-next : (before : List Uid) (vs : List Value) (n : ℕ) (x : Value) → x ≡ get_or vs n x → n < length vs
    → entities_fault before n (items_view (drop n vs)) ≡ option_or (option_map (under (decimal n)) (entity_fault before (view x))) (entities_fault (insert_key uid_cmp before (uid_in x)) (n + 1) (items_view (drop (n + 1) vs)))
unfolding entities_fault
entities_fault-next before vs n x here within = ap (entities_fault before n) (items_next vs n x here within)

pub fault_of_entity : (before : List Uid) (vs : List Value) (n : ℕ) (x : Value) (fault : WorldFault) → x ≡ get_or vs n x → n < length vs
    → entities_fault [] 0 (items_view vs) ≡ entities_fault before n (items_view (drop n vs)) → Some fault ≡ entity_fault before (view x)
    → Some (under (decimal n) fault) ≡ entities_fault [] 0 (items_view vs)
fault_of_entity before vs n x fault here within rest told = sym (rest ∙ (entities_fault-next before vs n x here within ∙ rw (← told) refl))

pub no_fault_of_entity : (before after : List Uid) (vs : List Value) (n : ℕ) (x : Value) → x ≡ get_or vs n x → n < length vs
    → entities_fault [] 0 (items_view vs) ≡ entities_fault before n (items_view (drop n vs)) → None ≡ entity_fault before (view x) → after ≡ insert_key uid_cmp before (uid_in x)
    → entities_fault [] 0 (items_view vs) ≡ entities_fault after (n + 1) (items_view (drop (n + 1) vs))
no_fault_of_entity before after vs n x here within rest told put = rest ∙ (entities_fault-next before vs n x here within ∙ rw (← told, put) refl)

pub no_entities_left : (before : List Uid) (vs : List Value) (n : ℕ) → length vs ≤ n
    → entities_fault [] 0 (items_view vs) ≡ entities_fault before n (items_view (drop n vs)) → None ≡ entities_fault [] 0 (items_view vs)
unfolding entities_fault
no_entities_left before vs n beyond rest = sym (rest ∙ ap (entities_fault before n) (items_end vs n beyond))
