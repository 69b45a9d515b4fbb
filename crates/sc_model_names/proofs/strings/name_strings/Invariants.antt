use Rattle.std.proofs.Common.{◌≡◌, length, map}
use Rattle.sc_terms.specs.Tables.{tree}
use Rattle.sc_model_values.specs.Models.{truth_in}
use Rattle.sc_model_laws.specs.Names.{named, literal_entries}
use Rattle.sc_model_names.specs.Numbers.{AreIn, HaveTerms, named_terms}
use Rattle.sc_model_names.specs.Tables.{texts_in}
use Rattle.sc_model_names.proofs.strings.name_strings.Given as goal

abbrev pub invariant-loop-x : goal.invariant-loop-x
invariant-loop-x l = record {
  within : AreIn l.problem.nodes l.rest;
  kept : HaveTerms l.problem.nodes l.entries;
  left : named (truth_in l.problem l.m) l.patterns (texts_in l.table) (named_terms l.problem.nodes l.entries) (map (tree l.problem.nodes) l.rest)
      ≡ named (truth_in l.problem l.m) l.patterns (texts_in l.table) (literal_entries (map (tree l.problem.nodes) l.fn.strings)) (map (tree l.problem.nodes) l.fn.strings);
}

abbrev pub decreases-loop-x : goal.decreases-loop-x
decreases-loop-x l = length l.rest
