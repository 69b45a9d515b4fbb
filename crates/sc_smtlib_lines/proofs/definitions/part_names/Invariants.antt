use Rattle.std.proofs.Common.{◌≡◌, ◌++◌, map, length}
use Rattle.sc_closure_rules.specs.Closure.{trees_in}
use Rattle.sc_terms.specs.Tables.{node_parts, AreBelow}
use Rattle.sc_smtlib_lines.specs.Gaining.{terms_of}
use Rattle.sc_smtlib_lines.specs.Names.{term_name}
use Rattle.sc_smtlib_lines.proofs.definitions.part_names.Given as goal

abbrev pub invariant-loop-part : goal.invariant-loop-part
invariant-loop-part l = record {
  within : AreBelow (length l.fn.names.terms.now) l.rest;
  listed : l.texts ++ map (term_name (terms_of l.fn.names)) (trees_in (node_parts l.fn.names.terms.now l.rest))
      ≡ map (term_name (terms_of l.fn.names)) (trees_in (node_parts l.fn.names.terms.now l.fn.parts));
}

abbrev pub decreases-loop-part : goal.decreases-loop-part
decreases-loop-part l = length l.rest
