-- Every literal that has bits has these places.
use Rattle.std.proofs.Common.{◌<◌, arith, ℕ}
use Rattle.sc_sorts.specs.declared.node.Leaf.TheVariants.{Literal}
use Rattle.sc_sorts.specs.declared.node.Leaf.TheVariants as leafs
use Rattle.sc_sorts.specs.declared.node.Literal.{Literal as AnyLiteral}
use Rattle.sc_sorts.specs.declared.node.Literal.TheVariants as literal
use Rattle.sc_sorts.specs.Literals.{IsPlaceOf}
use Rattle.sc_terms.specs.Trees.{Tree, leaf, one, two, choice, many}
use Rattle.sc_terms.specs.Folds.{IsPlaceIn}

place_of_literal : (l : AnyLiteral) (i : ℕ) → i < 64 → IsPlaceOf l i
place_of_literal (literal.Bool b) i h = tt
place_of_literal (literal.Long n) i h = h
place_of_literal (literal.String t) i h = tt
place_of_literal (literal.Decimal n) i h = h
place_of_literal (literal.Ip ip) i h = omega arith
place_of_literal (literal.Entity u us) i h = tt

pub place_of : (t : Tree) (i : ℕ) → i < 64 → IsPlaceIn t i
place_of (leaf (Literal l)) i h = place_of_literal l i h
place_of (leaf (leafs.None k)) i h = tt
place_of (leaf (leafs.Principal k)) i h = tt
place_of (leaf (leafs.Resource k)) i h = tt
place_of (leaf (leafs.Context k)) i h = tt
place_of (one o a) i h = tt
place_of (two o a b) i h = tt
place_of (choice c a b) i h = tt
place_of (many o ts) i h = tt
