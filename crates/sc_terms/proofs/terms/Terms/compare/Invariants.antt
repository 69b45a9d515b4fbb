use Rattle.std.proofs.Common.{◌≡◌, ◌<◌, length}
use Rattle.sc_terms.specs.Tables.{tree}
use Rattle.sc_terms.specs.Order.{tree_cmp}
use Rattle.sc_terms.proofs.terms.Terms.compare.Given as goal

abbrev pub invariant-loop-told : goal.invariant-loop-told
invariant-loop-told l =
    record {
      left_in : l.left < length l.self;
      right_in : l.right < length l.self;
      same : tree_cmp (tree l.self l.a) (tree l.self l.b) ≡ tree_cmp (tree l.self l.left) (tree l.self l.right);
    }

abbrev pub decreases-loop-told : goal.decreases-loop-told
decreases-loop-told l = l.left
