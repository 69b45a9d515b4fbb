-- Types of entities that are told to be one are one.
use Rattle.std.proofs.Common.{◌≡◌, ◌&&◌, true}
use Rattle.std.specs.Cmp.Lexicographic.{pointwise}
use Rattle.std.specs.Str.{bytes_eq}
use Rattle.std.proofs.lemmas.Slice.Eq.{bytes_eq-Decides}
use Rattle.std.proofs.lemmas.Bool.{and_parts}
use Rattle.sc_schema.specs.declared.ty.EntityKind.{EntityKind}
use Rattle.sc_typed.proofs.SameLaws.{one_list}

pub one_kind : (a b : EntityKind) → (bytes_eq a.name b.name && pointwise bytes_eq a.choices b.choices) ≡ true → a ≡ b
one_kind a b h =
    let parts = and_parts (bytes_eq a.name b.name) (pointwise bytes_eq a.choices b.choices) h in
    let name = (bytes_eq-Decides a.name b.name).0 parts.0 in
    let choices = one_list bytes_eq (λ x y. (bytes_eq-Decides x y).0) a.choices b.choices parts.1 in
    λ i. record { name = name i; choices = choices i }
