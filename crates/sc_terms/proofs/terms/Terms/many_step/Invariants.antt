use Rattle.std.proofs.Common.{◌≡◌, length}
use Rattle.sc_terms.specs.Tables.{node_parts, AreBelow}
use Rattle.sc_terms.specs.Order.{trees_cmp}
use Rattle.sc_terms.proofs.terms.Terms.many_step.Given as goal

abbrev pub invariant-loop-part : goal.invariant-loop-part
invariant-loop-part l =
    record {
      here : AreBelow l.n l.rest;
      there : AreBelow (length l.self) l.left;
      same : trees_cmp (node_parts l.self l.ps) (node_parts l.self l.qs) ≡ trees_cmp (node_parts l.self l.rest) (node_parts l.self l.left);
    }

abbrev pub decreases-loop-part : goal.decreases-loop-part
decreases-loop-part l = length l.rest
