-- The outline of what a type stands for, construct by construct.
use Rattle.std.proofs.Common.{◌≡◌, ℕ, List, [], ◌∷◌, map, refl, ap, sym, ◌∙◌, true, false}
use Rattle.std.specs.List.{fold}
use Rattle.sc_schema.specs.declared.ty.Presence.{Presence}
use Rattle.sc_schema.specs.declared.resolved_type.ResolvedType.{ResolvedType, fold-roll-ResolvedType}
use Rattle.sc_schema.specs.declared.resolved_type.ResolvedType.TheVariants as type
use Rattle.sc_schema.specs.declared.resolved_type.ResolvedType.TheVariants.{rolls-Set, rolls-Record, rolls-Common}
use Rattle.sc_schema.specs.declared.resolved_type.ResolvedType.TheOpen as r
use Rattle.sc_schema_types.specs.declared.outline.Outline.{Outline}
use Rattle.sc_schema_types.specs.Tables.{nothing, around, beside, outlined, outlined_step}
use Rattle.sc_schema_types.proofs.NamesLaws.{Attribute}

abbrev Table : Type 0
Table = List ℕ → Outline

-- the outlines of attributes, the one beside the other
abbrev pub outlined_all : Table → Outline → List Attribute → Outline
outlined_all table = fold (λ o (a : Attribute). beside o (outlined table a.2))

fold-fields : (table : Table) (o : Outline) (fields : List Attribute) → fold (λ p (a : List ℕ × Presence × Outline). beside p a.2) o (map (λ (a : Attribute). (a.0, a.1, outlined table a.2)) fields) ≡ outlined_all table o fields
fold-fields table o [] = refl
fold-fields table o (a ∷ fields) = fold-fields table (beside o (outlined table a.2)) fields

pub outlined_Set : (table : Table) (x : ResolvedType) → outlined table (type.Set x) ≡ around false (outlined table x)
unfolding outlined
outlined_Set table x = ap (outlined table) (sym (rolls-Set x)) ∙ fold-roll-ResolvedType Outline (outlined_step table) (r.Set x)

pub outlined_Record : (table : Table) (fields : List Attribute) → outlined table (type.Record fields) ≡ around true (outlined_all table nothing fields)
unfolding outlined
outlined_Record table fields =
    ap (outlined table) (sym (rolls-Record fields)) ∙ fold-roll-ResolvedType Outline (outlined_step table) (r.Record fields) ∙ ap (around true) (fold-fields table nothing fields)

pub outlined_Common : (table : Table) (name : List ℕ) → outlined table (type.Common name) ≡ table name
unfolding outlined
outlined_Common table name = ap (outlined table) (sym (rolls-Common name)) ∙ fold-roll-ResolvedType Outline (outlined_step table) (r.Common name)
