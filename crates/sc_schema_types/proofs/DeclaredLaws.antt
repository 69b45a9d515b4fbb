-- What a schema names is declared: each common type that is named has a body.
use Rattle.std.proofs.Common.{◌≡◌, ◌⊎◌, ℕ, List, [], ◌∷◌, map, Bool, true, false, cond, Some, Contains, refl, sym, ap, ◌∙◌, inl, inr, subst}
use Rattle.std.specs.List.{AllByRecursion, flat_map, find}
use Rattle.std.specs.Str.{bytes_eq}
use Rattle.std.proofs.lemmas.List.Elements.{Contains-append_cases}
use Rattle.sc_lists.proofs.TextLaws.{bytes_eq_true}
use Rattle.sc_lists.proofs.ListLaws.{contains_nothing, contains_split}
use Rattle.sc_schema.specs.declared.ty.Presence.{Presence}
use Rattle.sc_schema.specs.declared.resolved_common_type.ResolvedCommonType.{ResolvedCommonType}
use Rattle.sc_schema.specs.declared.resolved_type.ResolvedType.{ResolvedType, ResolvedType-F, roll-ResolvedType, map-ResolvedType, ind-ResolvedType}
use Rattle.sc_schema.specs.declared.resolved_type.ResolvedType.TheOpen as r
use Rattle.sc_schema.specs.declared.resolved_schema.ResolvedSchema.{ResolvedSchema}
use Rattle.sc_schema.specs.Resolved.{common_types, common_names, IsResolvedLevel, IsResolvedType, IsResolved}
use Rattle.sc_schema_types.specs.References.{Names, names_in, names_step, body_among, body_of}
use Rattle.sc_schema_types.specs.Orders.{IsOrder}
use Rattle.sc_schema_types.proofs.AgreeLaws.{names-roll}
use Rattle.sc_schema_types.proofs.BodiesLaws.{body_first}
use Rattle.sc_schema_types.proofs.EveryLaws.{at_level, in_Set, in_Record}
use Rattle.sc_schema_types.proofs.NamesLaws.{Attribute}
use Rattle.sc_schema_types.proofs.TextsLaws.{bytes_same}

-- ---- bodies

body_among-first : (c : ResolvedCommonType) (types : List ResolvedCommonType) (q : List ℕ) → body_among (c ∷ types) q ≡ cond (bytes_eq q c.name) (Some c.body) (body_among types q)
unfolding body_among
body_among-first c types q = body_first (bytes_eq q c.name) c (find (λ (d : ResolvedCommonType). bytes_eq q d.name) types)

body_among-none : (q : List ℕ) (body : ResolvedType) → body_among [] q ≡ Some body → ⊥
unfolding body_among
body_among-none q body is = absurd cc

-- a common type that has this name and this body
pub record HasBody (P : ResolvedCommonType → Type 0) (q : List ℕ) (body : ResolvedType) : Type 0 where
  pub type : ResolvedCommonType
  pub named : q ≡ type.name
  pub stands : type.body ≡ body
  pub holds : P type

pub has_body : (P : ResolvedCommonType → Type 0) (types : List ResolvedCommonType) (q : List ℕ) (body : ResolvedType) → AllByRecursion P types → body_among types q ≡ Some body → HasBody P q body
has_body P [] q body all is = absurd (body_among-none q body is)
has_body P (c ∷ types) q body all is = here (bytes_eq q c.name) refl (sym (body_among-first c types q) ∙ is) (has_body P types q body all.1) where
  here : (b : Bool) → bytes_eq q c.name ≡ b → cond b (Some c.body) (body_among types q) ≡ Some body → (body_among types q ≡ Some body → HasBody P q body) → HasBody P q body
  here true same found rest = record { type = c; named = bytes_eq_true q c.name same; stands = (let e : Some c.body ≡ Some body = found in cc); holds = all.0 }
  here false same found rest = rest found

pub named_has_body : (types : List ResolvedCommonType) (q : List ℕ) → Contains (map (λ (c : ResolvedCommonType). c.name) types) q → (body : ResolvedType) × (body_among types q ≡ Some body)
named_has_body [] q has = absurd (contains_nothing q has)
named_has_body (c ∷ types) q has = here (bytes_eq q c.name) refl (contains_split c.name (map (λ (d : ResolvedCommonType). d.name) types) q has) (named_has_body types q) where
  here : (b : Bool) → bytes_eq q c.name ≡ b → (c.name ≡ q) ⊎ Contains (map (λ (d : ResolvedCommonType). d.name) types) q → (Contains (map (λ (d : ResolvedCommonType). d.name) types) q → (body : ResolvedType) × (body_among types q ≡ Some body))
      → (body : ResolvedType) × (body_among (c ∷ types) q ≡ Some body)
  here true same found rest = (c.body, body_among-first c types q ∙ ap (λ (t : Bool). cond t (Some c.body) (body_among types q)) same)
  here false other (inl is) rest = absurd (let no : true ≡ false = sym (bytes_same q c.name (sym is)) ∙ other in cc)
  here false other (inr later) rest = let p = rest later in (p.0, body_among-first c types q ∙ ap (λ (t : Bool). cond t (Some c.body) (body_among types q)) other ∙ p.1)

module _ (s : ResolvedSchema) where
  -- a common type that has a body stands in an order
  pub body_in_order : (order : Names) (q : List ℕ) (body : ResolvedType) → IsOrder s order → body_of s q ≡ Some body → Contains order q
  body_in_order order q body h is =
      let found = has_body (λ (c : ResolvedCommonType). Contains order c.name) (common_types s) q body h.all is in
      subst (Contains order) (sym found.named) found.holds

  pub body_resolved : (q : List ℕ) (body : ResolvedType) → IsResolved s → body_of s q ≡ Some body → IsResolvedType s body
  body_resolved q body h is =
      let found = has_body (λ (c : ResolvedCommonType). IsResolvedType s c.body) (common_types s) q body h.each_common is in
      subst (IsResolvedType s) found.stands found.holds

  -- ---- names

  abbrev IsNamed : ResolvedType → Type 0
  IsNamed type = IsResolvedType s type → (q : List ℕ) → Contains (names_in type) q → Contains (common_names s) q

  abbrev Known : Type 0
  Known = (type : ResolvedType) × IsNamed type

  abbrev forget : ResolvedType-F Known → ResolvedType-F ResolvedType
  forget = map-ResolvedType Known ResolvedType (λ e. e.0)

  abbrev forget_fields : List (List ℕ × Presence × Known) → List Attribute
  forget_fields = map (λ (e : List ℕ × Presence × Known). (e.0, e.1, e.2.0))

  abbrev names_of : List Attribute → Names
  names_of fields = flat_map (λ (a : List ℕ × Presence × Names). a.2) (map (λ (a : Attribute). (a.0, a.1, names_in a.2)) fields)

  named_fields : (es : List (List ℕ × Presence × Known)) (q : List ℕ) → AllByRecursion (λ (a : Attribute). IsResolvedType s a.2) (forget_fields es) → Contains (names_of (forget_fields es)) q → Contains (common_names s) q
  named_fields [] q all has = absurd (contains_nothing q has)
  named_fields (e ∷ es) q all has = pick (Contains-append_cases (names_in e.2.0) (names_of (forget_fields es)) q has) (named_fields es q all.1) where
    pick : Contains (names_in e.2.0) q ⊎ Contains (names_of (forget_fields es)) q → (Contains (names_of (forget_fields es)) q → Contains (common_names s) q) → Contains (common_names s) q
    pick (inl here) rest = e.2.1 all.0 q here
    pick (inr later) rest = rest later

  one_name : (name q : List ℕ) → Contains (common_names s) name → (name ≡ q) ⊎ Contains [] q → Contains (common_names s) q
  one_name name q has (inl is) = subst (Contains (common_names s)) is has
  one_name name q has (inr none) = absurd (contains_nothing q none)

  named_step : (y : ResolvedType-F Known) (q : List ℕ) → IsResolvedType s (roll-ResolvedType (forget y)) → Contains (names_step (map-ResolvedType ResolvedType Names names_in (forget y))) q → Contains (common_names s) q
  named_step r.Boolean q h has = absurd (contains_nothing q has)
  named_step r.Long q h has = absurd (contains_nothing q has)
  named_step r.String q h has = absurd (contains_nothing q has)
  named_step r.Decimal q h has = absurd (contains_nothing q has)
  named_step r.Ip q h has = absurd (contains_nothing q has)
  named_step (r.Entity name) q h has = absurd (contains_nothing q has)
  named_step (r.Set e) q h has = e.1 (in_Set (IsResolvedLevel s) e.0 h) q has
  named_step (r.Record es) q h has = named_fields es q (in_Record (IsResolvedLevel s) (forget_fields es) h) has
  named_step (r.Common name) q h has = one_name name q (at_level (IsResolvedLevel s) (r.Common name) h) (contains_split name [] q has)

  named_layer : (y : ResolvedType-F Known) → IsNamed (roll-ResolvedType (forget y))
  named_layer y h q has = named_step y q h (subst (λ (ns : Names). Contains ns q) (names-roll (forget y)) has)

  -- each common type that a type names is declared
  pub names_declared : (type : ResolvedType) → IsResolvedType s type → (q : List ℕ) → Contains (names_in type) q → Contains (common_names s) q
  names_declared = ind-ResolvedType IsNamed (λ x y e. subst (λ (z : ResolvedType-F ResolvedType). IsNamed (roll-ResolvedType z)) e (named_layer y))
