use Rattle.std.proofs.Common.{◌≡◌, length}
use Rattle.sc_terms.specs.Tables.{node_parts, AreBelow}
use Rattle.sc_terms.specs.Folds.{among_parts}
use Rattle.sc_terms.proofs.terms.Terms.among.Given as goal

abbrev pub invariant-loop-part : goal.invariant-loop-part
invariant-loop-part l =
    record {
      here : AreBelow (length l.self) l.rest;
      same : among_parts l.name (node_parts l.self l.parts) ≡ among_parts l.name (node_parts l.self l.rest);
    }

abbrev pub decreases-loop-part : goal.decreases-loop-part
decreases-loop-part l = length l.rest
