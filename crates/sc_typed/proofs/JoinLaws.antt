-- Types that are joined: the row of records, and fields, those so far and those to come.
use Rattle.std.proofs.Common.{◌≡◌, List, ◌++◌, Option, option_map, ap, sym, ◌∙◌}
use Rattle.std.specs.Option.{option_and_then}
use Rattle.sc_schema.specs.declared.ty.Ty.{Ty, fold-roll-Ty}
use Rattle.sc_schema.specs.declared.ty.Ty.TheOpen as t
use Rattle.sc_schema.specs.declared.ty.Ty.TheVariants as ty
use Rattle.sc_schema.specs.declared.ty.Ty.TheVariants.{rolls-Record}
use Rattle.sc_typed.specs.Types.{Field, joining, join_step, join, join_fields, record_fields}

-- fields that are joined, before those to come
abbrev pub fields_to_come : List Field → List Field → List Field → Option (List Field)
fields_to_come front fs gs = option_map (λ (us : List Field). front ++ us) (join_fields (joining fs) gs)

-- a record type and another type
pub join_Record : (fs : List Field) (y : Ty) → join (ty.Record fs) y ≡ option_and_then (λ gs. option_map ty.Record (join_fields (joining fs) gs)) (record_fields y)
unfolding join
join_Record fs y = ap (λ z. join z y) (sym (rolls-Record fs)) ∙ ap (λ (f : Ty → Option Ty). f y) (fold-roll-Ty (Ty → Option Ty) join_step (t.Record fs))
