-- Each literal that has bits has one at place 0.
use Rattle.std.proofs.Common.{arith}
use Rattle.sc_sorts.specs.declared.node.Leaf.TheVariants as leafs
use Rattle.sc_sorts.specs.declared.node.Literal.{Literal as Constant}
use Rattle.sc_sorts.specs.declared.node.Literal.TheVariants as literal
use Rattle.sc_sorts.specs.Literals.{IsPlaceOf}
use Rattle.sc_terms.specs.Trees.{Tree, leaf, one, two, choice, many}
use Rattle.sc_terms.specs.Folds.{IsPlaceIn}

of_literal : (l : Constant) → IsPlaceOf l 0
of_literal (literal.Bool b) = tt
of_literal (literal.Long n) = omega arith
of_literal (literal.String text) = tt
of_literal (literal.Decimal n) = omega arith
of_literal (literal.Ip ip) = omega arith
of_literal (literal.Entity u us) = tt

pub first_place : (t : Tree) → IsPlaceIn t 0
first_place (leaf (leafs.Literal l)) = of_literal l
first_place (leaf (leafs.None k)) = tt
first_place (leaf (leafs.Principal k)) = tt
first_place (leaf (leafs.Resource k)) = tt
first_place (leaf (leafs.Context k)) = tt
first_place (one o a) = tt
first_place (two o a b) = tt
first_place (choice c a b) = tt
first_place (many o ts) = tt
