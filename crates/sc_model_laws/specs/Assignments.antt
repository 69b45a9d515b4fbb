-- The truth of terms under an assignment of truth values to them.
use Rattle.std.specs.Prelude.{Bool, not, List, if◌then◌else◌}
use Rattle.std.specs.List.{list_any}
use Rattle.sc_sorts.specs.declared.node.Leaf.TheVariants.{Literal}
use Rattle.sc_sorts.specs.declared.node.Literal.TheVariants.{Bool as bool}
use Rattle.sc_sorts.specs.declared.node.UnaryOp.TheVariants.{Not}
use Rattle.sc_terms.specs.Trees.{Tree, leaf, one}
use Rattle.sc_rule_laws.specs.Signed.{Signed}

abbrev pub Assignment : Type 0
Assignment = Tree → Bool

-- `true` is true, `false` is false, a negation is true where what it negates isn't, and any other term is as it is
-- assigned
unfoldable pub lit : Assignment → Tree → Bool
lit m (leaf (Literal (bool b))) = b
lit m (one Not t) = not (lit m t)
lit m t = m t

-- the signed term has its truth
abbrev pub holds_under : Assignment → Signed → Bool
holds_under m s = if s.0 then lit m s.1 else not (lit m s.1)

-- some signed term has
unfoldable pub some_hold : Assignment → List Signed → Bool
some_hold m parts = list_any (holds_under m) parts
