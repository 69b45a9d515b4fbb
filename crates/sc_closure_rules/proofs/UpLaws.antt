-- Of a type that is none of actions the types above one above it are above it too.
use Rattle.std.proofs.Common.{◌≡◌, cond, ℕ, Bool, false, List, [], Option, Some, option_map, unwrap_or, Contains, sym, ap, ◌∙◌, subst}
use Rattle.std.specs.List.{AllByRecursion}
use Rattle.sc_laws.proofs.OptionLaws.{option_map_some}
use Rattle.sc_lists.proofs.ListLaws.{all_element}
use Rattle.sc_schema.specs.declared.declarations.EntityType.{EntityType}
use Rattle.sc_schema.specs.Declarations.{Declarations, ancestor_types, entity_type, is_action_type, types_above, in_order}
use Rattle.sc_schema.specs.Lawful.{IsLawful, IsTypeWithin}
use Rattle.sc_term_laws.proofs.SortsLawful.{lawful_type}

module _ (d : Declarations) (lawful : IsLawful d) where
  pub above_within : (name middle above : List ℕ) (names mores : List (List ℕ)) → is_action_type d name ≡ false → ancestor_types d name ≡ Some names → Contains names middle
      → ancestor_types d middle ≡ Some mores → Contains mores above → Contains names above
  above_within name middle above names mores n e c f g =
      let found : option_map (λ (t : EntityType). t.ancestors) (entity_type d name) ≡ Some names =
      ap (λ (b : Bool). cond b (Some (in_order (types_above d.actions name))) (option_map (λ (t : EntityType). t.ancestors) (entity_type d name))) (sym n) ∙ e in
      let t = option_map_some (λ (t : EntityType). t.ancestors) (entity_type d name) names found in
      let it = (lawful_type d lawful name t.0 t.1).0 in
      let within : IsTypeWithin d t.0.ancestors middle = all_element (IsTypeWithin d t.0.ancestors) t.0.ancestors middle it.closed (subst (λ (ns : List (List ℕ)). Contains ns middle) (sym t.2) c) in
      subst (λ (ns : List (List ℕ)). Contains ns above) t.2
      (all_element (Contains t.0.ancestors) mores above (subst (λ (o : Option (List (List ℕ))). AllByRecursion (Contains t.0.ancestors) (unwrap_or o [])) f within) g)
