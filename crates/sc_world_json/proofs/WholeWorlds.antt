-- The JSON of a world that is made of values has whole numbers.
use Rattle.std.proofs.Common.{ℕ, List, [], ◌∷◌, map, refl, sym, subst}
use Rattle.std.specs.List.{AllByRecursion}
use Rattle.serde_json.specs.Data.{Data}
use Rattle.serde_json.specs.View.{items_of}
use Rattle.sc_names.specs.declared.uid.Uid.{Uid}
use Rattle.sc_values.specs.declared.value.Value.{Value, Value-F, roll-Value, map-Value, ind-Value, fold-roll-Value}
use Rattle.sc_values.specs.declared.value.Value.TheOpen as v
use Rattle.sc_values.specs.declared.value.Value.TheVariants as value
use Rattle.sc_values.specs.declared.value.Value.TheVariants.{rolls-Set, rolls-Record}
use Rattle.sc_values.specs.Proper.{IsProper, IsProperRecord}
use Rattle.sc_world.specs.declared.entity.EntityData.{EntityData}
use Rattle.sc_world.specs.declared.world.World.{World}
use Rattle.sc_world.specs.WellFormed.{IsProperEntry, IsProperWorld}
use Rattle.sc_world_json.specs.Text.{value_step, value_data, fields_data, uid_data, entity_data, world_data}
use Rattle.sc_world_json.proofs.ProperLaws.{held, proper_members, proper_fields}
use Rattle.sc_world_json.proofs.TextLaws.{Field, value_data-Record}
use Rattle.sc_world_json.proofs.WholeLaws.{IsWhole, AreWhole, HaveWhole}

abbrev WholeIfProper : Value → Type 0
WholeIfProper x = IsProper x → IsWhole (value_data x)

abbrev Known : Type 0
Known = (x : Value) × WholeIfProper x

abbrev forget : Value-F Known → Value-F Value
forget = map-Value Known Value (λ k. k.0)

members : (ks : List Known) → AllByRecursion IsProper (map (λ (k : Known). k.0) ks) → AreWhole (items_of (map value_data (map (λ (k : Known). k.0) ks)))
members [] h = tt
members (k ∷ ks) h = (k.1 h.0, members ks h.1)

fields : (ks : List (List ℕ × Known)) → AllByRecursion (λ (f : Field). IsProper f.1) (map (λ (k : List ℕ × Known). (k.0, k.1.0)) ks) → HaveWhole (fields_data (map (λ (k : List ℕ × Known). (k.0, k.1.0)) ks))
fields [] h = tt
fields (k ∷ ks) h = (k.1.1 h.0, fields ks h.1)

layer : (y : Value-F Known) → IsProper (roll-Value (forget y)) → IsWhole (value_step (map-Value Value Data value_data (forget y)))
layer (v.Bool b) h = tt
layer (v.Long n) h = record { integer = n; in_range = (held (v.Long n) h).0; is = refl }
layer (v.String text) h = tt
layer (v.Entity u) h = ((tt, (tt, tt)), tt)
layer (v.Set ks) h = members ks (proper_members _ (subst IsProper (rolls-Set _) h))
layer (v.Record ks) h = fields ks (proper_fields _ (subst IsProper (rolls-Record _) h))
layer (v.Decimal n) h = ((tt, (tt, tt)), tt)
layer (v.Ip ip) h = ((tt, (tt, tt)), tt)

pub whole-value : (x : Value) → IsProper x → IsWhole (value_data x)
unfolding value_data
whole-value = ind-Value WholeIfProper (λ x y e. subst (λ z. IsProper (roll-Value z) → IsWhole (value_data (roll-Value z))) e (λ h. subst IsWhole (sym (fold-roll-Value Data value_step (forget y))) (layer y h)))

whole-fields : (fs : List Field) → IsProperRecord fs → HaveWhole (fields_data fs)
whole-fields fs h = subst IsWhole (value_data-Record fs) (whole-value (value.Record fs) h)

whole-uids : (us : List Uid) → AreWhole (items_of (map uid_data us))
whole-uids [] = tt
whole-uids (u ∷ us) = ((tt, (tt, tt)), whole-uids us)

whole-entities : (xs : List (Uid × EntityData)) → AllByRecursion IsProperEntry xs → AreWhole (items_of (map entity_data xs))
whole-entities [] h = tt
whole-entities (x ∷ xs) h =
    ((whole-fields x.1.attrs h.0.attrs, (whole-uids x.1.ancestors, (whole-fields x.1.tags h.0.tags, ((tt, (tt, tt)), tt)))), whole-entities xs h.1)

pub whole-world : (w : World) → IsProperWorld w → IsWhole (world_data w)
whole-world w h = (whole-entities w.store h.entries, (((tt, (tt, tt)), (whole-fields w.request.context h.context, ((tt, (tt, tt)), ((tt, (tt, tt)), tt)))), tt))
