-- The outline of what a type stands for, by those of what common types stand for.
use Rattle.std.proofs.Common.{◌≡◌, ℕ, List, [], ◌∷◌, map, true, false, Option, Some, None, option_map, unwrap_or, cond, Bool, refl, sym, ap, ◌∙◌, subst}
use Rattle.std.proofs.Math.Path.{fun_ext}
use Rattle.std.specs.BTreeMap.{is_at}
use Rattle.std.specs.List.{fold}
use Rattle.sc_names.specs.Uids.{text_cmp}
use Rattle.sc_schema.specs.declared.ty.Presence.{Presence}
use Rattle.sc_schema.specs.declared.ty.EntityKind.{EntityKind}
use Rattle.sc_schema.specs.declared.ty.Ty.{Ty}
use Rattle.sc_schema.specs.declared.ty.Ty.TheOpen as t
use Rattle.sc_schema.specs.declared.ty.Ty.TheVariants as ty
use Rattle.sc_schema.specs.declared.ty.Ty.TheVariants.{rolls-Bool, rolls-Long, rolls-String, rolls-Decimal, rolls-Ip, rolls-Entity, rolls-Set, rolls-Record}
use Rattle.sc_schema.specs.declared.resolved_type.ResolvedType.{ResolvedType, ResolvedType-F, roll-ResolvedType, map-ResolvedType, ind-ResolvedType, fold-roll-ResolvedType}
use Rattle.sc_schema.specs.declared.resolved_type.ResolvedType.TheOpen as r
use Rattle.sc_schema_types.specs.declared.outline.Outline.{Outline}
use Rattle.sc_schema_types.specs.References.{Names, Bodies}
use Rattle.sc_schema_types.specs.Expansions.{Kinds, kind_among, Meaning, expanded, expand_step}
use Rattle.sc_schema_types.specs.Faults.{fault_of}
use Rattle.sc_schema_types.specs.Tables.{changed, with_body, leaf, around, together, outline, outlined, outlined_step, outline_fault, meaning_by, outlines_by, judged_by}
use Rattle.sc_schema_types.proofs.AgreeLaws.{expanded-roll}
use Rattle.sc_schema_types.proofs.ExpansionLaws.{fields_of}
use Rattle.sc_schema_types.proofs.NamesLaws.{Attribute}
use Rattle.sc_schema_types.proofs.SizesLaws.{outline-roll, fault_by_outline}

outlined-roll : (table : List ℕ → Outline) (x : ResolvedType-F ResolvedType) → outlined table (roll-ResolvedType x) ≡ outlined_step table (map-ResolvedType ResolvedType Outline (outlined table) x)
unfolding outlined
outlined-roll table x = fold-roll-ResolvedType Outline (outlined_step table) x

-- ---- the outline of a type, construct by construct

outline_Bool : outline ty.Bool ≡ leaf
outline_Bool = ap outline (sym rolls-Bool) ∙ outline-roll t.Bool

outline_Long : outline ty.Long ≡ leaf
outline_Long = ap outline (sym rolls-Long) ∙ outline-roll t.Long

outline_String : outline ty.String ≡ leaf
outline_String = ap outline (sym rolls-String) ∙ outline-roll t.String

outline_Decimal : outline ty.Decimal ≡ leaf
outline_Decimal = ap outline (sym rolls-Decimal) ∙ outline-roll t.Decimal

outline_Ip : outline ty.Ip ≡ leaf
outline_Ip = ap outline (sym rolls-Ip) ∙ outline-roll t.Ip

outline_Entity : (kind : EntityKind) → outline (ty.Entity kind) ≡ leaf
outline_Entity kind = ap outline (sym (rolls-Entity kind)) ∙ outline-roll (t.Entity kind)

outline_Set : (u : Ty) → outline (ty.Set u) ≡ around false (outline u)
outline_Set u = ap outline (sym (rolls-Set u)) ∙ outline-roll (t.Set u)

abbrev Fields : Type 0
Fields = List (List ℕ × Presence × Ty)

abbrev outlines : Fields → List (List ℕ × Presence × Outline)
outlines = map (λ (f : List ℕ × Presence × Ty). (f.0, f.1, outline f.2))

outline_Record : (fields : Fields) → outline (ty.Record fields) ≡ around true (together (outlines fields))
outline_Record fields = ap outline (sym (rolls-Record fields)) ∙ outline-roll (t.Record fields)

-- ---- the outline of what a type stands for

module _ (k : Kinds) (m : Meaning) where
  abbrev table : List ℕ → Outline
  table q = outline (m q)

  abbrev IsOutlined : ResolvedType → Type 0
  IsOutlined type = outlined table type ≡ outline (expanded k m type)

  abbrev Known : Type 0
  Known = (type : ResolvedType) × IsOutlined type

  abbrev forget : ResolvedType-F Known → ResolvedType-F ResolvedType
  forget = map-ResolvedType Known ResolvedType (λ e. e.0)

  abbrev forget_fields : List (List ℕ × Presence × Known) → List Attribute
  forget_fields = map (λ (e : List ℕ × Presence × Known). (e.0, e.1, e.2.0))

  outlined_fields : (es : List (List ℕ × Presence × Known)) → map (λ (a : Attribute). (a.0, a.1, outlined table a.2)) (forget_fields es) ≡ outlines (fields_of k m (forget_fields es))
  outlined_fields [] = refl
  outlined_fields (e ∷ es) = let rest = outlined_fields es in λ i. (e.0, e.1, e.2.1 i) ∷ rest i

  outlined_layer_step : (y : ResolvedType-F Known) → outlined_step table (map-ResolvedType ResolvedType Outline (outlined table) (forget y)) ≡ outline (expand_step k m (map-ResolvedType ResolvedType Ty (expanded k m) (forget y)))
  outlined_layer_step r.Boolean = sym outline_Bool
  outlined_layer_step r.Long = sym outline_Long
  outlined_layer_step r.String = sym outline_String
  outlined_layer_step r.Decimal = sym outline_Decimal
  outlined_layer_step r.Ip = sym outline_Ip
  outlined_layer_step (r.Entity name) = sym (outline_Entity (kind_among k name))
  outlined_layer_step (r.Set e) = ap (around false) e.1 ∙ sym (outline_Set (expanded k m e.0))
  outlined_layer_step (r.Record es) = ap (λ (os : List (List ℕ × Presence × Outline)). around true (together os)) (outlined_fields es) ∙ sym (outline_Record (fields_of k m (forget_fields es)))
  outlined_layer_step (r.Common name) = refl

  outlined_layer : (y : ResolvedType-F Known) → IsOutlined (roll-ResolvedType (forget y))
  outlined_layer y = outlined-roll table (forget y) ∙ outlined_layer_step y ∙ ap outline (sym (expanded-roll k m (forget y)))

  pub outlined_is : (type : ResolvedType) → outlined table type ≡ outline (expanded k m type)
  outlined_is = ind-ResolvedType IsOutlined (λ x y e. subst (λ (z : ResolvedType-F ResolvedType). IsOutlined (roll-ResolvedType z)) e (outlined_layer y))

  pub judged : judged_by table ≡ fault_of k m
  judged = fun_ext (λ wanted. fun_ext (λ type. ap (outline_fault wanted) (outlined_is type) ∙ fault_by_outline wanted (expanded k m type)))

-- ---- tables of outlines

module _ (k : Kinds) (m : Meaning) (x : List ℕ) where
  outline_changed : (u : Ty) (q : List ℕ) (b : Bool) → cond b (outline u) (outline (m q)) ≡ outline (cond b u (m q))
  outline_changed u q true = refl
  outline_changed u q false = refl

  changed_outlines : (body : ResolvedType) → changed (table k m) x (outlined (table k m) body) ≡ table k (changed m x (expanded k m body))
  changed_outlines body = fun_ext (λ q. ap (λ (o : Outline). cond (is_at (text_cmp x) q) o (outline (m q))) (outlined_is k m body) ∙ outline_changed (expanded k m body) q (is_at (text_cmp x) q))

  put_outline : (o : Option ResolvedType) → unwrap_or (option_map (λ body. changed (table k m) x (outlined (table k m) body)) o) (table k m) ≡ table k (unwrap_or (option_map (λ body. changed m x (expanded k m body)) o) m)
  put_outline None = refl
  put_outline (Some body) = changed_outlines body

outlines_rest : (k : Kinds) (bodies : Bodies) (m : Meaning) (order : Names) → fold (with_body bodies outlined) (table k m) order ≡ table k (fold (with_body bodies (expanded k)) m order)
outlines_rest k bodies m [] = refl
outlines_rest k bodies m (x ∷ order) = ap (λ (f : List ℕ → Outline). fold (with_body bodies outlined) f order) (put_outline k m x (bodies x)) ∙ outlines_rest k bodies (with_body bodies (expanded k) m x) order

pub outlines_are : (k : Kinds) (bodies : Bodies) (order : Names) → outlines_by bodies order ≡ table k (meaning_by k bodies order)
outlines_are k bodies order = ap (λ (o : Outline). fold (with_body bodies outlined) (λ _. o) order) (sym outline_Bool) ∙ outlines_rest k bodies (λ _. ty.Bool) order

pub judged_by_outlines : (k : Kinds) (bodies : Bodies) (order : Names) → judged_by (outlines_by bodies order) ≡ fault_of k (meaning_by k bodies order)
judged_by_outlines k bodies order = ap judged_by (outlines_are k bodies order) ∙ judged k (meaning_by k bodies order)
