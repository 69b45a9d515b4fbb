-- Places of bits that a term has are places of the literal that it may be.
use Rattle.std.proofs.Common.{◌<◌, ℕ, ap, subst}
use Rattle.sc_sorts.proofs.OutLaws.{out_Long, out_Decimal, out_Ip}
use Rattle.sc_sorts.specs.declared.node.Leaf.TheVariants as leafs
use Rattle.sc_sorts.specs.declared.node.Literal.TheVariants as literals
use Rattle.sc_terms.specs.Trees.{Tree, leaf, one, two, choice, many}
use Rattle.sc_terms.specs.TreeSorts.{tree_sort}
use Rattle.sc_terms.specs.Folds.{IsPlaceIn}
use Rattle.sc_term_definitions.specs.Definitions.{bits_in, bit_count}

pub place_in : (t : Tree) (i : ℕ) → i < bit_count (tree_sort t) → IsPlaceIn t i
unfolding tree_sort
place_in (leaf (leafs.Literal (literals.Bool b))) i h = tt
place_in (leaf (leafs.Literal (literals.Long n))) i h = subst (λ (k : ℕ). i < k) (ap bits_in out_Long) h
place_in (leaf (leafs.Literal (literals.String x))) i h = tt
place_in (leaf (leafs.Literal (literals.Decimal n))) i h = subst (λ (k : ℕ). i < k) (ap bits_in out_Decimal) h
place_in (leaf (leafs.Literal (literals.Ip x))) i h = subst (λ (k : ℕ). i < k) (ap bits_in out_Ip) h
place_in (leaf (leafs.Literal (literals.Entity u us))) i h = tt
place_in (leaf (leafs.None s)) i h = tt
place_in (leaf (leafs.Principal s)) i h = tt
place_in (leaf (leafs.Resource s)) i h = tt
place_in (leaf (leafs.Context s)) i h = tt
place_in (one o a) i h = tt
place_in (two o a b) i h = tt
place_in (choice c a b) i h = tt
place_in (many o ts) i h = tt
