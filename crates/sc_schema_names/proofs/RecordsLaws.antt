-- What a record type is, and its first fault, by its attributes.
use Rattle.std.proofs.Common.{◌≡◌, ◌∙◌, ℕ, List, [], ◌∷◌, map, Option, Result, IfOk, codes, refl, ap, sym, subst}
use Rattle.std.specs.Option.{option_or}
use Rattle.sc_schema.specs.declared.ty.Presence.{Presence}
use Rattle.sc_schema_syntax.specs.declared.attribute.WrittenPresence.{WrittenPresence}
use Rattle.sc_schema_syntax.specs.declared.fault.SchemaFault.{SchemaFault}
use Rattle.sc_schema_syntax.specs.declared.written_type.WrittenType.{WrittenType, fold-roll-WrittenType}
use Rattle.sc_schema_syntax.specs.declared.written_type.WrittenType.TheVariants as written
use Rattle.sc_schema_syntax.specs.declared.written_type.WrittenType.TheVariants.{rolls-Record}
use Rattle.sc_schema_syntax.specs.declared.written_type.WrittenType.TheOpen as t
use Rattle.sc_schema.specs.declared.resolved_type.ResolvedType.{ResolvedType}
use Rattle.sc_schema.specs.declared.resolved_type.ResolvedType.TheVariants as type
use Rattle.sc_schema_names.specs.Names.{Known}
use Rattle.sc_schema_names.specs.Resolution.{presence_of, resolved_step, resolved_type, resolved_attribute}
use Rattle.sc_schema_names.specs.Unknown.{inside, first_member, type_fault_step, type_fault}

abbrev Attribute : Type 0 → Type 0
Attribute X = List ℕ × WrittenPresence × X

attributes : (known : Known) (namespace : List ℕ) (all : List (Attribute WrittenType))
    → map (λ (a : Attribute ResolvedType). (a.0, presence_of a.1, a.2)) (map (λ (a : Attribute WrittenType). (a.0, a.1, resolved_type known namespace a.2)) all)
    ≡ map (resolved_attribute known namespace) all
attributes known namespace [] = refl
attributes known namespace (a ∷ all) = ap (λ (rest : List (List ℕ × Presence × ResolvedType)). resolved_attribute known namespace a ∷ rest) (attributes known namespace all)

pub resolved_record : (known : Known) (namespace : List ℕ) (all : List (Attribute WrittenType))
    → resolved_type known namespace (written.Record all) ≡ type.Record (map (resolved_attribute known namespace) all)
unfolding resolved_type
resolved_record known namespace all =
    ap (resolved_type known namespace) (sym (rolls-Record all))
    ∙ (fold-roll-WrittenType ResolvedType (resolved_step known namespace) (t.Record all) ∙ ap type.Record (attributes known namespace all))

faults : (known : Known) (namespace : List ℕ) (all : List (Attribute WrittenType))
    → first_member (λ (a : Attribute (Option SchemaFault)). a.0) (λ a. a.2) (map (λ (a : Attribute WrittenType). (a.0, a.1, type_fault known namespace a.2)) all)
    ≡ first_member (λ (a : Attribute WrittenType). a.0) (λ a. type_fault known namespace a.2) all
faults known namespace [] = refl
faults known namespace (a ∷ all) = ap (option_or (inside a.0 (type_fault known namespace a.2))) (faults known namespace all)

pub record_fault_is : (known : Known) (namespace : List ℕ) (all : List (Attribute WrittenType))
    → type_fault known namespace (written.Record all)
    ≡ inside (codes "attributes") (first_member (λ (a : Attribute WrittenType). a.0) (λ a. type_fault known namespace a.2) all)
unfolding type_fault
record_fault_is known namespace all =
    ap (type_fault known namespace) (sym (rolls-Record all))
    ∙ (fold-roll-WrittenType (Option SchemaFault) (type_fault_step known namespace) (t.Record all) ∙ ap (inside (codes "attributes")) (faults known namespace all))

-- what a call told of a record's attributes, it told of the record
pub record_told : {E : Type 0} (r : Result (Option SchemaFault) E) (known : Known) (namespace : List ℕ) (w : WrittenType) (all : List (Attribute WrittenType)) → w ≡ written.Record all
    → IfOk r (λ fault. fault ≡ inside (codes "attributes") (first_member (λ (a : Attribute WrittenType). a.0) (λ a. type_fault known namespace a.2) all))
    → IfOk r (λ fault. fault ≡ type_fault known namespace w)
record_told r known namespace w all is told =
    subst (λ (z : Option SchemaFault). IfOk r (λ fault. fault ≡ z)) (sym (ap (type_fault known namespace) is ∙ record_fault_is known namespace all)) told
