-- An order, or a cycle, of the common types in a table is one of the schema's.
use Rattle.std.proofs.Common.{◌≡◌, ℕ, List, [], ◌∷◌, map, Bool, true, false, cond, Option, Some, option_map, Contains, IsSome, refl, sym, ap, ◌∙◌, subst}
use Rattle.std.proofs.Math.Path.{fun_ext}
use Rattle.std.specs.BTreeMap.{is_at}
use Rattle.std.specs.Borrow.{Bor}
use Rattle.std.specs.List.{All, AllByRecursion, IsDistinct}
use Rattle.std.specs.Str.{bytes_eq}
use Rattle.std.specs.Map.{keys_of, lookup}
use Rattle.std.specs.Option.{is_some}
use Rattle.std.proofs.lemmas.List.Elements.{All-contains}
use Rattle.sc_lists.proofs.ListLaws.{contains_rest, contains_first}
use Rattle.sc_names.specs.Uids.{text_cmp}
use Rattle.sc_schema.specs.declared.resolved_common_type.ResolvedCommonType.{ResolvedCommonType}
use Rattle.sc_schema.specs.declared.resolved_type.ResolvedType.{ResolvedType}
use Rattle.sc_schema.specs.declared.resolved_schema.ResolvedSchema.{ResolvedSchema}
use Rattle.sc_schema.specs.Resolved.{common_types}
use Rattle.sc_schema_syntax.specs.declared.fault.SchemaFault.TheVariants.{TypeCycle}
use Rattle.sc_schema_types.specs.References.{Names, Bodies, references, body_of}
use Rattle.sc_schema_types.specs.Orders.{LeadsBack, IsOrder, IsLeastCycle, HasTypeCycle, cycle}
use Rattle.sc_schema_types.specs.Tables.{body_in}
use Rattle.sc_schema_types.proofs.BodiesLaws.{Entries}
use Rattle.sc_schema_types.proofs.DeclaredLaws.{named_has_body}
use Rattle.sc_schema_types.proofs.TextsLaws.{at_same}

-- ---- the names in a table

-- a name that has a body is one of them
pub keyed : (entries : Entries) (name : List ℕ) → IsSome (body_in entries name) → Contains (keys_of entries) name
keyed [] name h = absurd cc
keyed (e ∷ entries) name h = here (is_at (text_cmp name) e.0) refl h (keyed entries name) where
  here : (b : Bool) → is_at (text_cmp name) e.0 ≡ b → is_some (option_map (λ (y : Bor ResolvedType). y.now) (cond b (Some e.1) (lookup (is_at (text_cmp name)) entries))) ≡ true
      → (IsSome (body_in entries name) → Contains (keys_of entries) name) → Contains (e.0 ∷ keys_of entries) name
  here true same found rest = subst (Contains (e.0 ∷ keys_of entries)) (sym (at_same name e.0 same)) (contains_first e.0 (keys_of entries))
  here false other found rest = contains_rest e.0 (keys_of entries) name (rest found)

pub all_keyed : (entries : Entries) (names : Names) → names ≡ keys_of entries → (name : List ℕ) → IsSome (body_in entries name) → Contains names name
all_keyed entries names same name h = subst (λ (ns : Names). Contains ns name) (sym same) (keyed entries name h)

-- ---- orders and cycles

each_named : (order : Names) (types : List ResolvedCommonType) → ((q : List ℕ) → Contains (map (λ (c : ResolvedCommonType). c.name) types) q → Contains order q) → AllByRecursion (λ (c : ResolvedCommonType). Contains order c.name) types
each_named order [] f = tt
each_named order (c ∷ types) f = (
  f c.name (contains_first c.name (map (λ (d : ResolvedCommonType). d.name) types)),
  each_named order types (λ q has. f q (contains_rest c.name (map (λ (d : ResolvedCommonType). d.name) types) q has)),
)

some_is : (o : Option ResolvedType) (body : ResolvedType) → o ≡ Some body → IsSome o
some_is o body is = ap is_some is

module _ (s : ResolvedSchema) (entries : Entries) (same : (name : List ℕ) → body_in entries name ≡ body_of s name) where
  pub same_bodies : body_in entries ≡ body_of s
  same_bodies = fun_ext same

  pub order_is : (names order : Names) → names ≡ keys_of entries → All (Contains order) names × LeadsBack (references (body_in entries)) order × IsDistinct bytes_eq order → IsOrder s order
  order_is names order keys h = record {
    all = each_named order (common_types s) (λ q has. let p = named_has_body (common_types s) q has in
        All-contains (Contains order) names q h.0 (all_keyed entries names keys q (some_is (body_in entries q) p.0 (same q ∙ p.1))));
    leads_back = subst (λ (bodies : Bodies). LeadsBack (references bodies) order) same_bodies h.1;
  }

  pub cycle_is : (name : List ℕ) → IsLeastCycle (references (body_in entries)) name → HasTypeCycle s (TypeCycle name)
  cycle_is name h = cycle name (subst (λ (bodies : Bodies). IsLeastCycle (references bodies) name) same_bodies h)
