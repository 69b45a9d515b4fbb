-- The value that a model gives a term of each sort.
use Rattle.std.proofs.Common.{◌≡◌, ℕ, List, flat_map, map, ap, ◌∙◌}
use Rattle.std.proofs.lemmas.List.Folds.{flat_map-map}
use Rattle.sc_names.specs.declared.uid.Uid.{Uid}
use Rattle.sc_values.specs.declared.value.Value.TheVariants as value
use Rattle.sc_values.specs.Records.{Fields}
use Rattle.sc_sorts.specs.declared.sort.Sort.{Sort, Sort-F, map-Sort, out-Sort, fold_out-Sort}
use Rattle.sc_sorts.specs.declared.sort.Sort.TheVariants as sort
use Rattle.sc_sorts.specs.declared.sort.Sort.TheOpen as s
use Rattle.sc_sorts.specs.Inside.{SortField, SortFields}
use Rattle.sc_sorts.proofs.OutLaws.{out_Entity, out_Set, out_Record}
use Rattle.sc_terms.specs.Trees.{Tree}
use Rattle.sc_terms.specs.Folds.{field_term}
use Rattle.sc_terms.specs.Values.{Val, it, value_in, field_of, set_from}
use Rattle.sc_model_laws.specs.Vals.{Model, elements, val_step, val_of}

module _ (m : Model) where
  pub val_at : (k : Sort) (l : Sort-F Sort) (x : Tree) → out-Sort k ≡ l → val_of m k x ≡ val_step m (map-Sort Sort (Tree → Val) (val_of m) l) x
  unfolding val_of
  val_at k l x e = ap (λ (f : Tree → Val). f x) (fold_out-Sort (Tree → Val) (val_step m) k) ∙ ap (λ (z : Sort-F Sort). val_step m (map-Sort Sort (Tree → Val) (val_of m) z) x) e

  pub entity_val : (name : List ℕ) (us : List Uid) (x : Tree) → val_of m (sort.Entity name us) x ≡ it (value.Entity (m.uid x))
  entity_val name us x = val_at (sort.Entity name us) (s.Entity name us) x (out_Entity name us)

  pub set_val : (k : Sort) (x : Tree) → val_of m (sort.Set k) x ≡ it (value.Set (set_from (map (λ y. value_in (val_of m k y)) (elements m x))))
  set_val k x = val_at (sort.Set k) (s.Set k) x (out_Set k)

  -- the fields of a record
  abbrev pub fields_at : SortFields → Tree → Fields
  fields_at fs x = flat_map (λ (f : SortField). field_of (f.0, val_of m f.1 (field_term f.0 x))) fs

  abbrev seen_field : Tree → List ℕ × (Tree → Val) → Fields
  seen_field x f = field_of (f.0, f.1 (field_term f.0 x))

  pub record_val : (fs : SortFields) (x : Tree) → val_of m (sort.Record fs) x ≡ it (value.Record (fields_at fs x))
  record_val fs x =
      val_at (sort.Record fs) (s.Record fs) x (out_Record fs)
      ∙ ap (λ (r : Fields). it (value.Record r)) (flat_map-map (seen_field x) (λ (f : SortField). (f.0, val_of m f.1)) fs)
