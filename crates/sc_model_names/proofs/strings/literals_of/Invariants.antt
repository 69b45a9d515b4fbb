use Rattle.std.proofs.Common.{◌≡◌, ◌++◌, length, map}
use Rattle.sc_terms.specs.Tables.{tree}
use Rattle.sc_model_laws.specs.Names.{literal_entries}
use Rattle.sc_model_names.specs.Numbers.{AreIn, HaveTerms, named_terms}
use Rattle.sc_model_names.proofs.strings.literals_of.Given as goal

abbrev pub invariant-loop-n : goal.invariant-loop-n
invariant-loop-n l = record {
  within : AreIn l.problem.nodes l.rest;
  kept : HaveTerms l.problem.nodes l.entries;
  left : named_terms l.problem.nodes l.entries ++ literal_entries (map (tree l.problem.nodes) l.rest) ≡ literal_entries (map (tree l.problem.nodes) l.fn.strings);
}

abbrev pub decreases-loop-n : goal.decreases-loop-n
decreases-loop-n l = length l.rest
