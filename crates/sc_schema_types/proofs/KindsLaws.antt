-- The entity types of a schema, each with its choices.
use Rattle.std.proofs.Common.{◌≡◌, ◌∙◌, ℕ, List, [], ◌∷◌, ◌++◌, map, Bool, true, false, cond, Some, option_map, unwrap_or, Contains, inl, inr, refl, sym, ap, subst}
use Rattle.std.specs.Prelude.{find}
use Rattle.std.specs.List.{flat_map}
use Rattle.std.specs.Str.{bytes_eq}
use Rattle.std.proofs.lemmas.List.{map-append}
use Rattle.std.proofs.lemmas.Slice.Eq.{bytes_eq-Decides}
use Rattle.sc_lists.proofs.ListLaws.{contains_nothing, contains_first, contains_rest, contains_split}
use Rattle.sc_lists.proofs.TextLaws.{bytes_eq_true}
use Rattle.sc_schema.specs.declared.ty.EntityKind.{EntityKind}
use Rattle.sc_schema.specs.declared.resolved_entity_type.ResolvedEntityType.{ResolvedEntityType}
use Rattle.sc_schema.specs.declared.resolved_namespace.ResolvedNamespace.{ResolvedNamespace}
use Rattle.sc_schema.specs.declared.resolved_schema.ResolvedSchema.{ResolvedSchema}
use Rattle.sc_schema.specs.Resolved.{entity_types, entity_names}
use Rattle.sc_schema_types.specs.Expansions.{Kinds, kind_of_type, kinds_of, kind_among}

pub each_mapped : {N X Y : Type 0} (g : N → List X) (f : X → Y) (ns : List N) → flat_map (λ n. map f (g n)) ns ≡ map f (flat_map g ns)
each_mapped g f [] = refl
each_mapped g f (n ∷ ns) = ap (λ ys. map f (g n) ++ ys) (each_mapped g f ns) ∙ sym (map-append f (g n) (flat_map g ns))

-- the entity type of a name among one and others, by whether it is the one
either_kind : (b : Bool) (t : ResolvedEntityType) (others : Kinds) (name : List ℕ) → EntityKind
either_kind b t others name = record {
  name = name;
  choices = unwrap_or (option_map (λ (x : EntityKind). x.choices) (cond b (Some (kind_of_type t)) (find (λ (x : EntityKind). bytes_eq name x.name) others))) [];
}

first_or_later : (b : Bool) (t : ResolvedEntityType) (others : Kinds) (name : List ℕ) → (b ≡ true → t.name ≡ name) → (b ≡ false → Contains others (kind_among others name))
    → Contains (kind_of_type t ∷ others) (either_kind b t others name)
unfolding either_kind
first_or_later true t others name same later = subst (λ (x : List ℕ). Contains (kind_of_type t ∷ others) (record { name = x; choices = t.choices })) (same refl) (contains_first (kind_of_type t) others)
first_or_later false t others name same later = contains_rest (kind_of_type t) others (kind_among others name) (later refl)

-- a name in a list that isn't the first
elsewhere : (first : List ℕ) (others : List (List ℕ)) (name : List ℕ) → bytes_eq name first ≡ false → Contains (first ∷ others) name → Contains others name
elsewhere first others name other has = elim (contains_split first others name has) [
  | inl same ↦ absurd (let no : true ≡ false = sym ((bytes_eq-Decides name first).1 (sym same)) ∙ other in cc)
  | inr later ↦ later
]

-- a declared entity type is one of those of the schema, with its choices
kind_declared : (ts : List ResolvedEntityType) (name : List ℕ) → Contains (map (λ (t : ResolvedEntityType). t.name) ts) name → Contains (map kind_of_type ts) (kind_among (map kind_of_type ts) name)
unfolding either_kind
kind_declared [] name has = absurd (contains_nothing name has)
kind_declared (t ∷ ts) name has =
    first_or_later (bytes_eq name t.name) t (map kind_of_type ts) name (λ e. sym (bytes_eq_true name t.name e))
    (λ e. kind_declared ts name (elsewhere t.name (map (λ (u : ResolvedEntityType). u.name) ts) name e has))

pub declared_kind : (s : ResolvedSchema) (name : List ℕ) → Contains (entity_names s) name → Contains (kinds_of s) (kind_among (kinds_of s) name)
declared_kind s name has =
    subst (λ (kinds : Kinds). Contains kinds (kind_among kinds name)) (sym (each_mapped (λ (n : ResolvedNamespace). n.entity_types) kind_of_type s.namespaces)) (kind_declared (entity_types s) name has)
