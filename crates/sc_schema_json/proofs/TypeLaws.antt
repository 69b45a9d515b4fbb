-- A type over some entity types is one over more of them.
use Rattle.std.proofs.Common.{Option, Some, None, IfSome}
use Rattle.sc_schema.specs.declared.ty.EntityKind.{EntityKind}
use Rattle.sc_schema.specs.declared.ty.Ty.{Ty, Ty-F}
use Rattle.sc_schema.specs.declared.ty.Ty.TheOpen as t
use Rattle.sc_schema.specs.Lawful.{IsLevelOver, IsTypeOver, IsRecordTypeOver}
use Rattle.sc_schema.proofs.EveryTypeLaws.{every_weaker}

module _ (known also : EntityKind → Type 0) (more : (kind : EntityKind) → known kind → also kind) where
  level_of : (x : Ty-F Ty) → IsLevelOver known x → IsLevelOver also x
  level_of t.True h = h
  level_of t.False h = h
  level_of t.Bool h = h
  level_of t.Long h = h
  level_of t.String h = h
  level_of t.Decimal h = h
  level_of t.Ip h = h
  level_of (t.Entity kind) h = more kind h
  level_of (t.Set member) h = h
  level_of (t.Record fields) h = h

  pub type_of : (x : Ty) → IsTypeOver known x → IsTypeOver also x
  type_of = every_weaker (IsLevelOver known) (IsLevelOver also) level_of

  pub record_type_of : (x : Ty) → IsRecordTypeOver known x → IsRecordTypeOver also x
  record_type_of x h = record { fields = h.fields; record_type = h.record_type; proper = type_of x h.proper }

  pub tags_of : (o : Option Ty) → IfSome o (IsTypeOver known) → IfSome o (IsTypeOver also)
  tags_of None h = tt
  tags_of (Some x) h = type_of x h
