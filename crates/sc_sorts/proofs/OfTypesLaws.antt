-- The sort of a type, by the sorts of the types inside it.
use Rattle.std.proofs.Common.{◌≡◌, ℕ, List, [], ◌∷◌, map, refl, sym, ap, ◌∙◌}
use Rattle.sc_schema.specs.declared.ty.Presence.{Presence}
use Rattle.sc_schema.specs.declared.ty.Ty.{Ty, fold-roll-Ty}
use Rattle.sc_schema.specs.declared.ty.Ty.TheVariants as ty
use Rattle.sc_schema.specs.declared.ty.Ty.TheVariants.{rolls-Set, rolls-Record}
use Rattle.sc_schema.specs.declared.ty.Ty.TheOpen as t
use Rattle.sc_sorts.specs.declared.sort.Sort.{Sort}
use Rattle.sc_sorts.specs.declared.sort.Sort.TheVariants as sort
use Rattle.sc_sorts.specs.OfTypes.{with_presence, sort_step, sort_of, field_sort}

map_map : {A B C : Type 0} (g : B → C) (f : A → B) (xs : List A) → map g (map f xs) ≡ map (λ x. g (f x)) xs
map_map g f [] = refl
map_map g f (x ∷ xs) = ap (λ ys. g (f x) ∷ ys) (map_map g f xs)

pub sort_of_Set : (member : Ty) → sort_of (ty.Set member) ≡ sort.Set (sort_of member)
unfolding sort_of
sort_of_Set member = ap (sort_of) (sym (rolls-Set member)) ∙ fold-roll-Ty Sort sort_step (t.Set member)

pub sort_of_Record : (fields : List (List ℕ × Presence × Ty)) → sort_of (ty.Record fields) ≡ sort.Record (map field_sort fields)
unfolding sort_of
sort_of_Record fields =
    ap sort_of (sym (rolls-Record fields))
    ∙ fold-roll-Ty Sort sort_step (t.Record fields)
    ∙ ap sort.Record (map_map (λ (f : List ℕ × Presence × Sort). (f.0, with_presence f.1 f.2)) (λ (f : List ℕ × Presence × Ty). (f.0, f.1, sort_of f.2)) fields)
