-- The field that a name has among fields whose names ascend.
use Rattle.std.proofs.Common.{◌≡◌, ℕ, List, map, find, slice_get, Option, Some, None, Equal, sym, ap, subst, ◌∙◌}
use Rattle.std.specs.List.Sorted.{IsStrictlySortedBy}
use Rattle.std.specs.Prelude.{IsSomeAnd}
use Rattle.std.specs.Str.{bytes_eq}
use Rattle.std.proofs.lemmas.Cmp.{nat_list_cmp_total, tied_itself}
use Rattle.std.proofs.lemmas.Map.Lookups.{exact_bytes}
use Rattle.std.proofs.lemmas.Option.{slice_get-get_or}
use Rattle.std.proofs.lemmas.Slice.Eq.{bytes_eq-Decides}
use Rattle.sc_lists.specs.Ordered.{StandsAt, BelongsAt}
use Rattle.sc_lists.proofs.OrderedLaws.{is_in-stands, is_in-belongs}
use Rattle.sc_names.specs.Uids.{text_cmp}
use Rattle.sc_schema.proofs.PlaceLaws.{find_place, find_none}

level_name : (name : List ℕ) (o : Option (List ℕ)) → IsSomeAnd o (λ y. text_cmp name y ≡ Equal) → o ≡ Some name
level_name name None e = absurd e
level_name name (Some y) e = ap Some (sym (exact_bytes name y e))

abbrev pub names : {P T : Type 0} → List (List ℕ × P × T) → List (List ℕ)
names fields = map (λ f. f.0) fields

module _ {P T : Type 0} (fields : List (List ℕ × P × T)) (name : List ℕ) (at : ℕ) where
  pub field_there : IsStrictlySortedBy text_cmp (names fields) → StandsAt text_cmp (names fields) name at → slice_get fields at ≡ find (λ (f : List ℕ × P × T). bytes_eq name f.0) fields
  field_there ascend stands = find_place nat_list_cmp_total bytes_eq bytes_eq-Decides (λ (f : List ℕ × P × T). f.0) fields name at ascend (level_name name (slice_get (names fields) at) stands)

  pub no_field : BelongsAt text_cmp (names fields) name at → None ≡ find (λ (f : List ℕ × P × T). bytes_eq name f.0) fields
  no_field belongs = find_none bytes_eq bytes_eq-Decides (λ (f : List ℕ × P × T). f.0) fields name (λ has.
      let stands : StandsAt text_cmp (names fields) name has.0 = subst (λ o. IsSomeAnd o (λ y. text_cmp name y ≡ Equal)) (sym (slice_get-get_or (names fields) has.0 name has.1 ∙ ap Some has.2)) (tied_itself nat_list_cmp_total name) in
      let yes = is_in-stands nat_list_cmp_total (names fields) name has.0 stands in
      let no = is_in-belongs nat_list_cmp_total (names fields) name at belongs in
      cc)
