-- The JSON of a world that is made of values has texts of UTF-8, and each name once, in order.
use Rattle.std.proofs.Common.{◌≡◌, ℕ, List, [], ◌∷◌, map, IsUtf8, codes, refl, sym, ap, subst}
use Rattle.std.specs.List.{AllByRecursion}
use Rattle.std.specs.List.Sorted.{IsStrictlySortedBy}
use Rattle.std.specs.Map.{keys_of}
use Rattle.std.proofs.lemmas.Str.{IsUtf8-from_ascii}
use Rattle.json.proofs.Printed.Utf8.{IsUtf8-are_ascii}
use Rattle.serde_json.specs.Data.{Data, object}
use Rattle.serde_json.specs.View.{items_of}
use Rattle.sc_names.specs.declared.uid.Uid.{Uid}
use Rattle.sc_names.specs.Uids.{text_cmp}
use Rattle.sc_decimal.specs.DecimalText.{decimal_text}
use Rattle.sc_ip.specs.IpText.{ip_text}
use Rattle.sc_values.specs.declared.value.Value.{Value, Value-F, roll-Value, map-Value, ind-Value, fold-roll-Value}
use Rattle.sc_values.specs.declared.value.Value.TheOpen as v
use Rattle.sc_values.specs.declared.value.Value.TheVariants as value
use Rattle.sc_values.specs.declared.value.Value.TheVariants.{rolls-Set, rolls-Record}
use Rattle.sc_values.specs.Proper.{IsProper, IsProperRecord, IsUidText}
use Rattle.sc_world.specs.declared.entity.EntityData.{EntityData}
use Rattle.sc_world.specs.declared.world.World.{World}
use Rattle.sc_world.specs.WellFormed.{IsProperEntry, IsProperWorld}
use Rattle.sc_world_json.specs.Text.{value_step, value_data, fields_data, uid_data, extension_data, entity_data, world_data}
use Rattle.sc_world_json.proofs.AsciiLaws.{decimal_low, ip_low}
use Rattle.sc_world_json.proofs.ProperLaws.{held, proper_members, proper_fields}
use Rattle.sc_world_json.proofs.TextLaws.{Field, value_data-Record}
use Rattle.sc_json.specs.Trees.{keys}
use Rattle.sc_world_json.proofs.TidyLaws.{IsTidy, AreTidy, HaveTidy}

-- ---- objects of fixed form

tidy-uid : (u : Uid) → IsUidText u → IsTidy (uid_data u)
unfolding IsStrictlySortedBy
tidy-uid u h = (((refl, tt), (tt, tt)), (IsUtf8-are_ascii (codes "id") refl, h.1, (IsUtf8-are_ascii (codes "type") refl, h.0, tt)))

tidy-extension : (name text : List ℕ) → IsUtf8 name → IsUtf8 text → IsTidy (extension_data name text)
unfolding IsStrictlySortedBy
tidy-extension name text h k = (
  (tt, tt),
  (
    IsUtf8-are_ascii (codes "__extn") refl,
    (((refl, tt), (tt, tt)), (IsUtf8-are_ascii (codes "arg") refl, k, (IsUtf8-are_ascii (codes "fn") refl, h, tt))),
    tt,
  ),
)

-- ---- values

abbrev TidyIfProper : Value → Type 0
TidyIfProper x = IsProper x → IsTidy (value_data x)

abbrev Known : Type 0
Known = (x : Value) × TidyIfProper x

abbrev forget : Value-F Known → Value-F Value
forget = map-Value Known Value (λ k. k.0)

members : (ks : List Known) → AllByRecursion IsProper (map (λ (k : Known). k.0) ks) → AreTidy (items_of (map value_data (map (λ (k : Known). k.0) ks)))
members [] h = tt
members (k ∷ ks) h = (k.1 h.0, members ks h.1)

abbrev known_fields : List (List ℕ × Known) → List Field
known_fields ks = map (λ (k : List ℕ × Known). (k.0, k.1.0)) ks

fields : (ks : List (List ℕ × Known)) → AllByRecursion (λ (f : Field). IsProper f.1) (known_fields ks) → AllByRecursion IsUtf8 (keys_of (known_fields ks)) → HaveTidy (fields_data (known_fields ks))
fields [] h t = tt
fields (k ∷ ks) h t = (t.0, k.1.1 h.0, fields ks h.1 t.1)

names-fields : (fs : List Field) → keys (fields_data fs) ≡ keys_of fs
names-fields [] = refl
names-fields (f ∷ fs) = ap (λ (ns : List (List ℕ)). f.0 ∷ ns) (names-fields fs)

layer : (y : Value-F Known) → IsProper (roll-Value (forget y)) → IsTidy (value_step (map-Value Value Data value_data (forget y)))
unfolding IsStrictlySortedBy
layer (v.Bool b) h = tt
layer (v.Long n) h = tt
layer (v.String text) h = (held (v.String text) h).0
layer (v.Entity u) h = ((tt, tt), (IsUtf8-are_ascii (codes "__entity") refl, tidy-uid u (held (v.Entity u) h).0, tt))
layer (v.Set ks) h = members ks (proper_members _ (subst IsProper (rolls-Set _) h))
layer (v.Record ks) h =
    let level = (held (v.Record (known_fields ks)) h).0 in (
      subst (IsStrictlySortedBy text_cmp) (sym (names-fields (known_fields ks))) level.0,
      fields ks (proper_fields _ (subst IsProper (rolls-Record _) h)) level.1,
    )
layer (v.Decimal n) h =
    tidy-extension (codes "decimal") (decimal_text n) (IsUtf8-are_ascii (codes "decimal") refl) (IsUtf8-from_ascii (decimal_text n) (decimal_low n (held (v.Decimal n) h).0))
layer (v.Ip ip) h =
    tidy-extension (codes "ip") (ip_text ip) (IsUtf8-are_ascii (codes "ip") refl) (IsUtf8-from_ascii (ip_text ip) (ip_low ip (held (v.Ip ip) h).0))

pub tidy-value : (x : Value) → IsProper x → IsTidy (value_data x)
unfolding value_data
tidy-value = ind-Value TidyIfProper (λ x y e. subst (λ z. IsProper (roll-Value z) → IsTidy (value_data (roll-Value z))) e (λ h. subst IsTidy (sym (fold-roll-Value Data value_step (forget y))) (layer y h)))

-- ---- worlds

tidy-record : (fs : List Field) → IsProperRecord fs → IsTidy (object (fields_data fs))
tidy-record fs h = subst IsTidy (value_data-Record fs) (tidy-value (value.Record fs) h)

tidy-uids : (us : List Uid) → AllByRecursion IsUidText us → AreTidy (items_of (map uid_data us))
tidy-uids [] h = tt
tidy-uids (u ∷ us) h = (tidy-uid u h.0, tidy-uids us h.1)

tidy-entity : (x : Uid × EntityData) → IsProperEntry x → IsTidy (entity_data x)
unfolding IsStrictlySortedBy
tidy-entity x h = (
  ((refl, (refl, (refl, tt))), ((refl, (refl, tt)), ((refl, tt), (tt, tt)))),
  (
    IsUtf8-are_ascii (codes "attrs") refl,
    tidy-record x.1.attrs h.attrs,
    (
      IsUtf8-are_ascii (codes "parents") refl,
      tidy-uids x.1.ancestors h.ancestor_texts,
      (IsUtf8-are_ascii (codes "tags") refl, tidy-record x.1.tags h.tags, (IsUtf8-are_ascii (codes "uid") refl, tidy-uid x.0 h.uid, tt)),
    ),
  ),
)

tidy-entities : (xs : List (Uid × EntityData)) → AllByRecursion IsProperEntry xs → AreTidy (items_of (map entity_data xs))
tidy-entities [] h = tt
tidy-entities (x ∷ xs) h = (tidy-entity x h.0, tidy-entities xs h.1)

pub tidy-world : (w : World) → IsProperWorld w → IsTidy (world_data w)
unfolding IsStrictlySortedBy
tidy-world w h = (
  ((refl, tt), (tt, tt)),
  (
    IsUtf8-are_ascii (codes "entities") refl,
    tidy-entities w.store h.entries,
    (
      IsUtf8-are_ascii (codes "request") refl,
      (
        ((refl, (refl, (refl, tt))), ((refl, (refl, tt)), ((refl, tt), (tt, tt)))),
        (
          IsUtf8-are_ascii (codes "action") refl,
          tidy-uid w.request.action h.action,
          (
            IsUtf8-are_ascii (codes "context") refl,
            tidy-record w.request.context h.context,
            (
              IsUtf8-are_ascii (codes "principal") refl,
              tidy-uid w.request.principal h.principal,
              (IsUtf8-are_ascii (codes "resource") refl, tidy-uid w.request.resource h.resource, tt),
            ),
          ),
        ),
      ),
      tt,
    ),
  ),
)
