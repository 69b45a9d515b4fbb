-- What closed terms tell of an entity is made of values of its type.
use Rattle.std.proofs.Common.{◌≡◌, ℕ, Bool, true, false, List, [], ◌∷◌, map, flat_map, Option, Some, None, unwrap_or, refl, sym, ap, ◌∙◌, subst}
use Rattle.std.specs.List.{AllByRecursion}
use Rattle.std.specs.List.Sorted.{IsStrictlySortedBy}
use Rattle.std.specs.Map.{keys_of}
use Rattle.std.specs.Str.{IsUtf8}
use Rattle.std.proofs.lemmas.Map.Lookups.{exact_bytes}
use Rattle.sc_lists.specs.Members.{Has}
use Rattle.sc_lists.proofs.MemberLaws.{Has-map, Has-flat_map, flat_map-Has}
use Rattle.sc_laws.proofs.OptionLaws.{same_some}
use Rattle.sc_ip.specs.Addresses.{IsIp}
use Rattle.sc_bits.specs.Addresses.{ip_of}
use Rattle.sc_bits.specs.Blocks.{AreBlockBits}
use Rattle.sc_names.specs.declared.uid.Uid.{Uid}
use Rattle.sc_names.specs.Uids.{text_cmp, uid_cmp}
use Rattle.sc_names.proofs.UidLaws.{uid_cmp_total, uid_cmp_level, text_total}
use Rattle.sc_schema.specs.declared.declarations.Env.{Env}
use Rattle.sc_schema.specs.declared.ty.Ty.{Ty}
use Rattle.sc_schema.specs.Declarations.{Declarations, attrs_of, tags_of, context_of}
use Rattle.sc_schema.specs.Lawful.{IsLawful, IsRecordTypeOf, IsTypeOf}
use Rattle.sc_values.specs.declared.value.Value.{Value, Value-F, out-Value, roll-Value, roll-out-Value}
use Rattle.sc_values.specs.declared.value.Value.TheVariants as value
use Rattle.sc_values.specs.declared.value.Value.TheVariants.{rolls-Record}
use Rattle.sc_values.specs.declared.value.Value.TheOpen as v
use Rattle.sc_values.specs.Proper.{IsProper, IsProperRecord, IsUidText}
use Rattle.sc_values.specs.Records.{Fields}
use Rattle.sc_world.specs.Conforms.{conforms}
use Rattle.sc_world.specs.Defaults.{default_attrs, default_fields}
use Rattle.sc_world.specs.Stores.{Entities}
use Rattle.sc_sorts.specs.declared.sort.Sort.{Sort}
use Rattle.sc_sorts.specs.declared.sort.Sort.TheVariants as sort
use Rattle.sc_sorts.specs.declared.sort.Sort.TheVariants.{rolls-Record as sort_rolls-Record}
use Rattle.sc_sorts.specs.declared.sort.Sort.TheOpen as s
use Rattle.sc_sorts.specs.Defaults.{is_option, default_of}
use Rattle.sc_sorts.specs.Entities.{choices_of, entity_sort}
use Rattle.sc_sorts.specs.Inside.{SortFields}
use Rattle.sc_sorts.specs.OfTypes.{sort_of}
use Rattle.sc_sorts.specs.declared.node.Leaf.TheVariants as leafs
use Rattle.sc_sorts.specs.declared.node.UnaryOp.TheVariants as unary
use Rattle.sc_sorts.specs.declared.node.BinaryOp.TheVariants as binary
use Rattle.sc_terms.specs.Trees.{Tree, leaf, one, two}
use Rattle.sc_terms.specs.TreeSorts.{tree_sort}
use Rattle.sc_terms.specs.Values.{fields_seen, value_in, record_in}
use Rattle.sc_term_laws.specs.Fitting.{IsOfSort, fits, is_record_of}
use Rattle.sc_term_laws.specs.Judging.{IsTermOf}
use Rattle.sc_term_laws.specs.Judging as judged
use Rattle.sc_term_laws.proofs.DefaultTypeLaws.{no_option, default_agrees}
use Rattle.sc_term_laws.proofs.FitDefaults.{default_is}
use Rattle.sc_term_laws.proofs.FitLaws.{sights_of}
use Rattle.sc_term_laws.proofs.FitSets.{value_of}
use Rattle.sc_term_laws.proofs.FitVals.{fits_at}
use Rattle.sc_term_laws.proofs.SortsLawful.{type_lawful, tags_lawful}
use Rattle.sc_closure_rules.specs.Closure.{Closed}
use Rattle.sc_closure_rules.specs.Goals.{IsGoal}
use Rattle.sc_model_laws.specs.Vals.{Model, assigned, val_of}
use Rattle.sc_model_laws.specs.Models.{IsModel}
use Rattle.sc_model_laws.specs.ValueLaws.{AreNamesIn}
use Rattle.sc_model_laws.proofs.ConformingLaws.{fits_conforms}
use Rattle.sc_model_laws.proofs.DefaultLaws.{nothing}
use Rattle.sc_model_laws.proofs.EntityLaws.{of_attributes, of_keys, of_tag, attributes_sort, ancestors_sort, keys_sort, tag_sort, named_type}
use Rattle.sc_model_laws.proofs.FittingLaws.{AreMade, assigned_sorted, values_fit, uid_text}
use Rattle.sc_model_world_laws.specs.Laws.{AreTexts}
use Rattle.sc_model_world_laws.specs.Rebuilt.{first_said, attributes_said, ancestors_said, keys_said, tag_said, context_said, in_order, tag_default, tag_at, data_of, given_from}
use Rattle.sc_model_world_laws.proofs.FirstLaws.{said_each}
use Rattle.sc_model_world_laws.proofs.GivenLaws.{given_there}
use Rattle.sc_model_world_laws.proofs.OrderLaws.{ordered_has, has_ordered, ordered_ascends}
use Rattle.sc_model_world_laws.proofs.SaidLaws.{SaysAttributes, attributes_told, ancestors_told, says_ancestor, keys_told, tag_told, context_told}
use Rattle.sc_model_world_laws.proofs.TypeLaws.{attributes_type, context_type, default_seen, record_sort}

-- a value of a record sort is the record of its fields
pub record_whole : (fs : SortFields) (x : Value) → fits (sort.Record fs) x ≡ true → x ≡ value.Record (fields_seen (out-Value x))
record_whole fs x h = by (out-Value x) refl (ap (λ (q : Value → Bool). q x) (sym (fits_at (sort.Record fs) (s.Record fs) (sort_rolls-Record fs))) ∙ h) where
  by : (y : Value-F Value) → out-Value x ≡ y → is_record_of (sights_of fs) y ≡ true → x ≡ value.Record (fields_seen y)
  by (v.Record r) e f = sym (roll-out-Value x) ∙ ap roll-Value e ∙ rolls-Record r
  by _ e f = absurd cc

pub context_of_term : (d : Declarations) (env : Env) (literals : List Uid) (j k : Sort) → IsTermOf d env literals j (leaf (leafs.Context k)) → (t : Ty) × (context_of d env.action ≡ Some t) × (k ≡ sort_of t)
context_of_term d env literals _ _ (judged.of_context t e) = (t, e, refl)

pub context_sort : (k : Sort) → tree_sort (leaf (leafs.Context k)) ≡ k
unfolding tree_sort
context_sort k = refl

module _ (d : Declarations) (env : Env) (literals : List Uid) (goal : Tree) (made : AreMade d env literals goal) (m : Model) (model : IsModel d env goal m) (lawful : IsLawful d) (is : IsGoal d env literals goal) where
  -- ---- ancestors

  pub record IsAncestor (u w : Uid) : Type 0 where
    pub own : Sort
    pub entity : Tree
    pub closed : Closed d env goal (one (unary.Ancestors own) entity)
    pub named : m.uid entity ≡ u
    pub member : Tree
    pub among : Has (assigned m (one (unary.Ancestors own) entity)) member
    pub said : m.uid member ≡ w

  pub is_ancestor : (u w : Uid) → Has (data_of d m u).ancestors w → IsAncestor u w
  is_ancestor u w h =
      let y = flat_map-Has (ancestors_said m u) m.closed w (ordered_has uid_cmp_total uid_cmp_level (flat_map (ancestors_said m u) m.closed) w h) in
      let it = ancestors_told m u y.0 w y.2 in
      record {
        own = it.own;
        entity = it.entity;
        closed = subst (Closed d env goal) it.is ((model.listed y.0).0 y.1);
        named = it.named;
        member = it.member;
        among = it.among;
        said = it.said;
      }

  pub ancestor_is : (u : Uid) (k : Sort) (e y : Tree) → Closed d env goal (one (unary.Ancestors k) e) → m.uid e ≡ u → Has (assigned m (one (unary.Ancestors k) e)) y → Has (data_of d m u).ancestors (m.uid y)
  ancestor_is u k e y c q h =
      has_ordered uid_cmp_total uid_cmp_level (flat_map (ancestors_said m u) m.closed) (m.uid y)
      (Has-flat_map (ancestors_said m u) m.closed (one (unary.Ancestors k) e) (m.uid y) ((model.listed (one (unary.Ancestors k) e)).1 c) (says_ancestor m u k e y q h))

  pub ancestors_ascend : (u : Uid) → IsStrictlySortedBy uid_cmp (data_of d m u).ancestors
  ancestors_ascend u = ordered_ascends uid_cmp_total uid_cmp_level (flat_map (ancestors_said m u) m.closed)

  -- ---- keys

  abbrev pub keys_at : Uid → List (List ℕ)
  keys_at u = in_order text_cmp (flat_map (keys_said m u) m.closed)

  pub record IsKey (u : Uid) (key : List ℕ) : Type 0 where
    pub entity : Tree
    pub closed : Closed d env goal (one unary.Keys entity)
    pub named : m.uid entity ≡ u
    pub member : Tree
    pub among : Has (assigned m (one unary.Keys entity)) member
    pub said : m.text member ≡ key

  pub is_key : (u : Uid) (key : List ℕ) → Has (keys_at u) key → IsKey u key
  is_key u key h =
      let y = flat_map-Has (keys_said m u) m.closed key (ordered_has text_total exact_bytes (flat_map (keys_said m u) m.closed) key h) in
      let it = keys_told m u y.0 key y.2 in
      record { entity = it.entity; closed = subst (Closed d env goal) it.is ((model.listed y.0).0 y.1); named = it.named; member = it.member; among = it.among; said = it.said }

  pub keys_ascend : (u : Uid) → IsStrictlySortedBy text_cmp (keys_at u)
  keys_ascend u = ordered_ascends text_total exact_bytes (flat_map (keys_said m u) m.closed)

  pub tag_keys_are : (u : Uid) (ks : List (List ℕ)) → keys_of (map (tag_at d m u) ks) ≡ ks
  tag_keys_are u [] = refl
  tag_keys_are u (k ∷ ks) = ap (λ (js : List (List ℕ)). k ∷ js) (tag_keys_are u ks)

  -- an entity of a type without tags has none
  pub no_keys : (u : Uid) → tags_of d u.type_name ≡ None → keys_at u ≡ []
  no_keys u e = nothing (keys_at u) (λ key h.
      let it = is_key u key h in
      let p = of_keys d env literals (tree_sort (one unary.Keys it.entity)) it.entity (made (one unary.Keys it.entity) it.closed) in
      let name_is : p.name ≡ u.type_name = sym (named_type d env literals goal made m model p.name it.entity p.sorted) ∙ ap (λ (w : Uid). w.type_name) it.named in
      let both : Some p.type ≡ None = sym p.declared ∙ ap (tags_of d) name_is ∙ e in
      absurd cc)

  module _ (addressed : (f : ℕ → Bool) → AreBlockBits f → IsIp (ip_of f)) (texts : AreTexts d env goal m) where
    -- some store in which each entity of a closed term is
    abbrev es : Entities
    es = given_from d m (map m.uid m.closed)

    named_in : AreNamesIn d env goal m es
    named_in = record {
      texts = texts.texts;
      ids = texts.ids;
      stored = λ x c. given_there d m (map m.uid m.closed) (m.uid x) (Has-map m.uid m.closed x ((model.listed x).1 c));
    }

    value_fits : (k : Sort) (x : Tree) → is_option k ≡ false → Closed d env goal x → tree_sort x ≡ k → IsOfSort d es k (value_in (val_of m k x))
    value_fits k x n c e = value_of d es k (val_of m k x) n (values_fit d env literals goal made m model lawful is addressed es named_in k x c e)

    pub uid_is_text : (k : Sort) (e y : Tree) (above : List ℕ) → k ≡ entity_sort d above → Has (assigned m (one (unary.Ancestors k) e)) y → IsUidText (m.uid y)
    uid_is_text k e y above own h =
        let there = assigned_sorted d env literals goal made m model k (one (unary.Ancestors k) e) y (ancestors_sort k e) h in
        uid_text d env literals goal made m model lawful is addressed es named_in above (choices_of d above) y there.0 (there.1 ∙ own)

    pub entity_text : (name : List ℕ) (us : List Uid) (x : Tree) → Closed d env goal x → tree_sort x ≡ sort.Entity name us → IsUidText (m.uid x)
    entity_text name us x c e = uid_text d env literals goal made m model lawful is addressed es named_in name us x c e

    -- ---- records

    -- fields of a record type
    pub record AreOfType (t : Ty) (r : Fields) : Type 0 where
      pub proper : IsProperRecord r
      pub conform : conforms t (value.Record r) ≡ true

    of_type : (t : Ty) → IsRecordTypeOf d t → (x : Value) → IsOfSort d es (sort_of t) x → AreOfType t (fields_seen (out-Value x))
    of_type t h x i =
        let fs = record_sort d t h in
        let whole = record_whole fs.0 x (ap (λ (k : Sort). fits k x) (sym fs.1) ∙ i.of_sort) in
        record {
          proper = subst IsProper whole i.proper;
          conform = ap (conforms t) (sym whole) ∙ fits_conforms d t h.proper x i.of_sort;
        }

    default_of_type : (o : Option Ty) (t : Ty) → o ≡ Some t → IsRecordTypeOf d t → AreOfType t (default_fields d o)
    default_of_type o t e h =
        subst (AreOfType t) (sym (default_seen d lawful o t e h)) (of_type t h (default_of (sort_of t)) (default_is d es lawful (sort_of t) (type_lawful d lawful t h.proper)))

    closed_of_type : (t : Ty) (own : Sort) (y : Tree) → IsRecordTypeOf d t → own ≡ sort_of t → Closed d env goal y → tree_sort y ≡ own → AreOfType t (record_in (val_of m own y))
    closed_of_type t own y h q c e =
        of_type t h (value_in (val_of m own y))
        (subst (λ (k : Sort). IsOfSort d es k (value_in (val_of m own y))) q (value_fits own y (ap is_option q ∙ no_option t) c e))

    attributes_from : (u : Uid) (t : Ty) → attrs_of d u.type_name ≡ Some t → (y : Tree) (r : Fields) → Has m.closed y → SaysAttributes m u y r → AreOfType t r
    attributes_from u t e y r h it =
        let c : Closed d env goal (one (unary.Attributes it.own) it.entity) = subst (Closed d env goal) it.is ((model.listed y).0 h) in
        let p = of_attributes d env literals (tree_sort (one (unary.Attributes it.own) it.entity)) it.own it.entity (made (one (unary.Attributes it.own) it.entity) c) in
        let name_is : p.name ≡ u.type_name = sym (named_type d env literals goal made m model p.name it.entity p.sorted) ∙ ap (λ (w : Uid). w.type_name) it.named in
        let type_is : p.type ≡ t = same_some (sym p.declared ∙ ap (attrs_of d) name_is ∙ e) in
        subst (AreOfType t) (ap (λ (z : Tree). record_in (val_of m it.own z)) (sym it.is) ∙ sym it.said)
        (closed_of_type t it.own (one (unary.Attributes it.own) it.entity) (attributes_type d lawful u.type_name t e) (p.own ∙ ap sort_of type_is) c (attributes_sort it.own it.entity))

    pub attributes_of_type : (u : Uid) (t : Ty) → attrs_of d u.type_name ≡ Some t → AreOfType t (data_of d m u).attrs
    attributes_of_type u t e =
        said_each (attributes_said m u) (default_attrs d u.type_name) (AreOfType t) m.closed
        (λ y r h q. attributes_from u t e y r h (attributes_told m u y r q))
        (default_of_type (attrs_of d u.type_name) t e (attributes_type d lawful u.type_name t e))

    pub context_of_type : (t : Ty) → context_of d env.action ≡ Some t → AreOfType t (unwrap_or (first_said (context_said m) m.closed) (default_fields d (context_of d env.action)))
    context_of_type t e =
        said_each (context_said m) (default_fields d (context_of d env.action)) (AreOfType t) m.closed
        (λ y r h q.
        let it = context_told m y r q in
        let c : Closed d env goal (leaf (leafs.Context it.own)) = subst (Closed d env goal) it.is ((model.listed y).0 h) in
        let p = context_of_term d env literals (tree_sort (leaf (leafs.Context it.own))) it.own (made (leaf (leafs.Context it.own)) c) in
        let type_is : p.0 ≡ t = same_some (sym p.1 ∙ e) in
        subst (AreOfType t) (ap (λ (z : Tree). record_in (val_of m it.own z)) (sym it.is) ∙ sym it.said)
        (closed_of_type t it.own (leaf (leafs.Context it.own)) (context_type d lawful env.action t e) (p.2 ∙ ap sort_of type_is) c (context_sort it.own)))
        (default_of_type (context_of d env.action) t e (context_type d lawful env.action t e))

    -- ---- tags

    pub record IsOfType (t : Ty) (x : Value) : Type 0 where
      pub proper : IsProper x
      pub conform : conforms t x ≡ true

    one_of_type : (t : Ty) → IsTypeOf d t → (x : Value) → IsOfSort d es (sort_of t) x → IsOfType t x
    one_of_type t h x i = record { proper = i.proper; conform = fits_conforms d t h x i.of_sort }

    pub tag_of_type : (u : Uid) (t : Ty) (key : List ℕ) → tags_of d u.type_name ≡ Some t → IsOfType t (tag_at d m u key).1
    tag_of_type u t key e =
        let h = tags_lawful d lawful u.type_name t e in
        said_each (tag_said m u key) (tag_default d (tags_of d u.type_name)) (IsOfType t) m.closed
        (λ y x i q.
        let it = tag_told m u key y x q in
        let c : Closed d env goal (two (binary.Tag it.own) it.entity it.under) = subst (Closed d env goal) it.is ((model.listed y).0 i) in
        let p = of_tag d env literals (tree_sort (two (binary.Tag it.own) it.entity it.under)) it.own it.entity it.under (made (two (binary.Tag it.own) it.entity it.under) c) in
        let name_is : p.name ≡ u.type_name = sym (named_type d env literals goal made m model p.name it.entity p.sorted) ∙ ap (λ (w : Uid). w.type_name) it.named in
        let type_is : p.type ≡ t = same_some (sym p.declared ∙ ap (tags_of d) name_is ∙ e) in
        let own_is : it.own ≡ sort_of t = p.own ∙ ap sort_of type_is in
        subst (IsOfType t) (ap (λ (z : Tree). value_in (val_of m it.own z)) (sym it.is) ∙ sym it.said)
        (one_of_type t h (value_in (val_of m it.own (two (binary.Tag it.own) it.entity it.under)))
        (subst (λ (k : Sort). IsOfSort d es k (value_in (val_of m it.own (two (binary.Tag it.own) it.entity it.under)))) own_is
        (value_fits it.own (two (binary.Tag it.own) it.entity it.under) (ap is_option own_is ∙ no_option t) c (tag_sort it.own it.entity it.under)))))
        (subst (IsOfType t) (default_agrees d lawful t h ∙ ap (tag_default d) (sym e)) (one_of_type t h (default_of (sort_of t)) (default_is d es lawful (sort_of t) (type_lawful d lawful t h))))

    pub key_text : (u : Uid) (key : List ℕ) → Has (keys_at u) key → IsUtf8 key
    key_text u key h =
        let it = is_key u key h in
        let there = assigned_sorted d env literals goal made m model sort.String (one unary.Keys it.entity) it.member (keys_sort it.entity) it.among in
        subst IsUtf8 it.said (texts.texts it.member there.0)

    each_of_type : (u : Uid) (t : Ty) → tags_of d u.type_name ≡ Some t → (ks : List (List ℕ)) → AllByRecursion (λ (f : List ℕ × Value). IsOfType t f.1) (map (tag_at d m u) ks)
    each_of_type u t e [] = tt
    each_of_type u t e (k ∷ ks) = (tag_of_type u t k e, each_of_type u t e ks)

    pub tags_of_type : (u : Uid) (t : Ty) → tags_of d u.type_name ≡ Some t → AllByRecursion (λ (f : List ℕ × Value). IsOfType t f.1) (data_of d m u).tags
    tags_of_type u t e = each_of_type u t e (keys_at u)
