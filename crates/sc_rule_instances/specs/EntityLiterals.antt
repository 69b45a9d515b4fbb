-- The literal of an entity.
use Rattle.std.specs.Prelude.{Bool, false}
use Rattle.std.specs.Ordering.{is_eq}
use Rattle.sc_names.specs.declared.uid.Uid.{Uid}
use Rattle.sc_names.specs.Uids.{uid_cmp}
use Rattle.sc_sorts.specs.declared.node.Leaf.TheVariants.{Literal}
use Rattle.sc_sorts.specs.declared.node.Literal.TheVariants as literal
use Rattle.sc_terms.specs.Trees.{Tree, leaf}

abbrev pub is_entity_literal : Uid → Tree → Bool
is_entity_literal u (leaf (Literal (literal.Entity v choices))) = is_eq (uid_cmp u v)
is_entity_literal u _ = false
