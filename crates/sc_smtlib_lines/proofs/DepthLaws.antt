-- The depth of each sort.
use Rattle.std.proofs.Common.{◌≡◌, ℕ, List, [], ◌∷◌, map, refl, sym, ap, ◌∙◌}
use Rattle.sc_names.specs.declared.uid.Uid.{Uid}
use Rattle.sc_sorts.specs.declared.sort.Sort.{Sort, Sort-F, roll-Sort, map-Sort}
use Rattle.sc_sorts.specs.declared.sort.Sort.TheVariants as sort
use Rattle.sc_sorts.specs.declared.sort.Sort.TheVariants.{rolls-Bool, rolls-Long, rolls-String, rolls-Decimal, rolls-Ip, rolls-Entity, rolls-Set, rolls-Record, rolls-Option}
use Rattle.sc_sorts.specs.declared.sort.Sort.TheOpen as s
use Rattle.sc_smtlib_terms.specs.Seen.{Seen, told_by}
use Rattle.sc_smtlib_terms.proofs.SeenLaws.{seen, told_roll}
use Rattle.sc_smtlib_lines.specs.Depths.{deeper, deepest, depth_step, depth}

roll : (y : Sort-F Sort) (x : Sort) → roll-Sort y ≡ x → depth x ≡ depth_step x (map-Sort Sort (Seen ℕ) (seen ℕ depth_step) y)
unfolding depth
roll y x e = ap depth (sym e) ∙ told_roll ℕ depth_step y ∙ ap (λ z. depth_step z (map-Sort Sort (Seen ℕ) (seen ℕ depth_step) y)) e

pub depth_Bool : depth sort.Bool ≡ 0
depth_Bool = roll s.Bool _ rolls-Bool

pub depth_Long : depth sort.Long ≡ 0
depth_Long = roll s.Long _ rolls-Long

pub depth_String : depth sort.String ≡ 0
depth_String = roll s.String _ rolls-String

pub depth_Decimal : depth sort.Decimal ≡ 0
depth_Decimal = roll s.Decimal _ rolls-Decimal

pub depth_Ip : depth sort.Ip ≡ 0
depth_Ip = roll s.Ip _ rolls-Ip

pub depth_Entity : (name : List ℕ) (choices : List Uid) → depth (sort.Entity name choices) ≡ 0
depth_Entity name choices = roll (s.Entity name choices) _ (rolls-Entity name choices)

pub depth_Set : (member : Sort) → depth (sort.Set member) ≡ deeper (depth member)
unfolding depth told_by
depth_Set member = roll (s.Set member) _ (rolls-Set member)

abbrev depth_at : List ℕ × Sort → ℕ
depth_at f = depth f.1

depths : (fields : List (List ℕ × Sort))
    → map (λ (f : List ℕ × Seen ℕ). f.1.1) (map (λ (f : List ℕ × Sort). (f.0, seen ℕ depth_step f.1)) fields) ≡ map depth_at fields
unfolding depth told_by
depths [] = refl
depths (f ∷ fields) = ap (λ ns. depth f.1 ∷ ns) (depths fields)

pub depth_Record : (fields : List (List ℕ × Sort)) → depth (sort.Record fields) ≡ deepest (map depth_at fields)
depth_Record fields = roll (s.Record fields) _ (rolls-Record fields) ∙ ap deepest (depths fields)

pub depth_Option : (held : Sort) → depth (sort.Option held) ≡ deeper (depth held)
unfolding depth told_by
depth_Option held = roll (s.Option held) _ (rolls-Option held)
