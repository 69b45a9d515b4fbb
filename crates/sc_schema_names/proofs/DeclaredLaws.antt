-- What the sets of declared names tell.
use Rattle.std.proofs.Common.{◌≡◌, ℕ, List}
use Rattle.std.proofs.Math.Path.{fun_ext}
use Rattle.sc_lists.specs.Ordered.{is_in}
use Rattle.sc_names.specs.declared.uid.Uid.{Uid}
use Rattle.sc_names.specs.Uids.{text_cmp, uid_cmp}
use Rattle.sc_schema_syntax.specs.declared.written_schema.WrittenSchema.{WrittenSchema}
use Rattle.sc_schema_names.specs.declared.declared.Declared.{Declared}
use Rattle.sc_schema_names.specs.Names.{entity_types, common_types, actions, known_in}
use Rattle.sc_schema_names.specs.Tables.{known}

pub known_is : (d : Declared) (w : WrittenSchema)
    → ((n : List ℕ) → is_in text_cmp n d.entity_types.keys ≡ is_in text_cmp n (entity_types w))
    → ((n : List ℕ) → is_in text_cmp n d.common_types.keys ≡ is_in text_cmp n (common_types w))
    → ((u : Uid) → is_in uid_cmp u d.actions.keys ≡ is_in uid_cmp u (actions w))
    → known d ≡ known_in w
unfolding known known_in
known_is d w types commons uids =
    let is_type = fun_ext types in
    let is_common = fun_ext commons in
    let is_act = fun_ext uids in
    λ i. record { is_entity_type = is_type i; is_common_type = is_common i; is_action = is_act i }
