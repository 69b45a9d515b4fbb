-- Common types none of which reaches itself have an order.
use Rattle.std.proofs.Common.{◌≡◌, ◌<◌, ◌⊎◌, ◌↔◌, ℕ, List, [], ◌∷◌, length, take, min, get_or, Bool, true, Option, Some, None, Contains, IsSome, option_map, unwrap_or, refl, sym, ◌∙◌, inl, inr, subst, arith, length-take}
use Rattle.std.specs.List.{list_any}
use Rattle.std.specs.Str.{bytes_eq}
use Rattle.std.proofs.lemmas.Bool.{or_left, or_right}
use Rattle.std.proofs.lemmas.Cmp.{nat_list_cmp_total}
use Rattle.std.proofs.lemmas.List.{get_or-take}
use Rattle.std.proofs.lemmas.List.Elements.{All-from_recursion}
use Rattle.std.proofs.lemmas.Map.Views.{Contains-from_any}
use Rattle.std.proofs.lemmas.Option.{slice_get-get_or, slice_get_within, get_or_from_slice_get}
use Rattle.sc_lists.proofs.ListLaws.{contains_nothing, contains_split, contains_map, all_of_elements}
use Rattle.sc_lists.proofs.TextLaws.{bytes_eq_true}
use Rattle.sc_names.specs.Uids.{text_cmp}
use Rattle.sc_graphs.specs.Reaching as reaching
use Rattle.sc_graphs.proofs.KeyLaws.{place_of}
use Rattle.sc_graphs.proofs.OrderLaws.{IsArranged, ordered_or_cyclic}
use Rattle.sc_schema.specs.declared.resolved_common_type.ResolvedCommonType.{ResolvedCommonType}
use Rattle.sc_schema.specs.declared.resolved_type.ResolvedType.{ResolvedType}
use Rattle.sc_schema.specs.declared.resolved_schema.ResolvedSchema.{ResolvedSchema}
use Rattle.sc_schema.specs.Resolved.{common_types, common_names, IsResolved}
use Rattle.sc_schema_types.specs.References.{Names, Graph, LeadsTo, names_in, references, body_of}
use Rattle.sc_schema_types.specs.Orders.{IsOrder, IsLeastCycle, IsTypeCycle}
use Rattle.sc_schema_types.proofs.CyclesLaws.{has_body}
use Rattle.sc_schema_types.proofs.DeclaredLaws.{has_body as find_body, body_resolved, names_declared}
use Rattle.sc_schema_types.proofs.TextsLaws.{bytes_same}

-- ---- whether a body names a common type, as a test

abbrev names_it : Graph → List ℕ → List ℕ → Bool
names_it graph a b = list_any (bytes_eq b) (graph a)

found : (names : Names) (b : List ℕ) → Contains names b → list_any (bytes_eq b) names ≡ true
found [] b has = absurd (contains_nothing b has)
found (x ∷ names) b has = elim (contains_split x names b has) [
  | inl same ↦ or_left (bytes_eq b x) _ (bytes_same b x (sym same))
  | inr more ↦ or_right (bytes_eq b x) _ (found names b more)
]

decides : (graph : Graph) (a b : List ℕ) → (names_it graph a b ≡ true) ↔ LeadsTo graph a b
decides graph a b = (λ h. Contains-from_any bytes_eq_true b (graph a) h, λ has. found (graph a) b has)

-- ---- an order of the names

module _ (s : ResolvedSchema) (resolved : IsResolved s) where
  abbrev graph : Graph
  graph = references (body_of s)

  among : (c : ResolvedCommonType) → Contains (common_types s) c → Contains (common_names s) c.name
  among c has = contains_map (λ (d : ResolvedCommonType). d.name) (common_types s) c has

  with_body : (o : Option ResolvedType) (q : List ℕ) → body_of s q ≡ o → IsSome o → Contains (common_names s) q
  unfolding among
  with_body None q is some = absurd cc
  with_body (Some body) q is some =
      let type = find_body (λ (c : ResolvedCommonType). Contains (common_names s) c.name) (common_types s) q body (all_of_elements (λ (c : ResolvedCommonType). Contains (common_names s) c.name) (common_types s) among) is in
      subst (Contains (common_names s)) (sym type.named) type.holds

  leads_from : (a b : List ℕ) → LeadsTo graph a b → Contains (common_names s) a
  unfolding with_body
  leads_from a b leads = with_body (body_of s a) a refl (has_body (body_of s a) b leads)

  named_by : (o : Option ResolvedType) (a b : List ℕ) → body_of s a ≡ o → IsSome o → LeadsTo graph a b → Contains (common_names s) b
  named_by None a b is some leads = absurd cc
  named_by (Some body) a b is some leads = names_declared s body (body_resolved s a body resolved is) b (subst (λ (o : Option ResolvedType). Contains (unwrap_or (option_map names_in o) []) b) is leads)

  leads_to : (a b : List ℕ) → LeadsTo graph a b → Contains (common_names s) b
  unfolding named_by
  leads_to a b leads = named_by (body_of s a) a b refl (has_body (body_of s a) b leads) leads

  module _ (order : Names) (h : IsArranged (LeadsTo graph) (common_names s) order) where
    earlier : (i : ℕ) → i < length order → (b : List ℕ) → LeadsTo graph (get_or order i []) b → Contains (take i order) b
    unfolding leads_to
    earlier i within b leads =
        let p = place_of order b (h.all b (leads_to (get_or order i []) b leads)) in
        let less : p.0 < i = h.back i p.0 (get_or order i []) b (slice_get-get_or order i [] within) p.1 leads in
        let inside : p.0 < length order = slice_get_within order p.0 b p.1 in
        let short : length (take i order) ≡ min i (length order) = length-take i order in
        (p.0, omega (arith, less, inside, short), get_or-take i order p.0 b less ∙ get_or_from_slice_get order p.0 b b p.1)

    arranged_order : IsOrder s order
    unfolding among earlier
    arranged_order = record {
      all = all_of_elements (λ (c : ResolvedCommonType). Contains order c.name) (common_types s) (λ c has. h.all c.name (among c has));
      leads_back = λ i within. All-from_recursion (Contains (take i order)) (graph (get_or order i [])) (all_of_elements (Contains (take i order)) (graph (get_or order i [])) (λ b leads. earlier i within b leads));
    }

  pub order_or_cycle : ((order : Names) × IsOrder s order) ⊎ ((name : List ℕ) × IsTypeCycle s name)
  unfolding arranged_order
  order_or_cycle = told (ordered_or_cyclic nat_list_cmp_total (names_it graph) (decides graph) (common_names s) leads_from) where
    told : ((order : Names) × IsArranged (LeadsTo graph) (common_names s) order) ⊎ ((name : List ℕ) × reaching.IsLeastCycle text_cmp (LeadsTo graph) name) → ((order : Names) × IsOrder s order) ⊎ ((name : List ℕ) × IsTypeCycle s name)
    told (inl arranged) = inl (arranged.0, arranged_order arranged.0 arranged.1)
    told (inr cyclic) = inr cyclic
