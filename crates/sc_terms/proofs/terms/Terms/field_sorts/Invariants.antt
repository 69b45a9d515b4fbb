use Rattle.std.proofs.Common.{◌≡◌, ◌++◌, length}
use Rattle.sc_terms.specs.Tables.{node_parts, AreBelow}
use Rattle.sc_terms.specs.TreeSorts.{sorts_of}
use Rattle.sc_terms.proofs.terms.Terms.field_sorts.Given as goal

abbrev pub invariant-loop-part : goal.invariant-loop-part
invariant-loop-part l =
    record {
      here : AreBelow (length l.self) l.rest;
      whole : l.fields ++ sorts_of (node_parts l.self l.rest) ≡ sorts_of (node_parts l.self l.parts);
    }

abbrev pub decreases-loop-part : goal.decreases-loop-part
decreases-loop-part l = length l.rest
