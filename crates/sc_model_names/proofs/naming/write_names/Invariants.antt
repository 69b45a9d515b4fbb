use Rattle.std.proofs.Common.{◌≡◌, ◌++◌, length, map}
use Rattle.std.specs.List.{AllByRecursion}
use Rattle.std.specs.Str.{IsUtf8}
use Rattle.sc_terms.specs.Tables.{tree}
use Rattle.sc_model_names.specs.Models.{truth_in}
use Rattle.sc_model_names.specs.Namings.{name_of_term}
use Rattle.sc_model_names.specs.Numbers.{AreIn, named_terms}
use Rattle.sc_model_names.proofs.naming.write_names.Given as goal

abbrev pub invariant-loop-n : goal.invariant-loop-n
invariant-loop-n l = record {
  within : AreIn l.problem.nodes l.rest;
  texts : AllByRecursion IsUtf8 l.names;
  left : l.names ++ map (name_of_term (truth_in l.problem l.m) (named_terms l.problem.nodes l.strings) (named_terms l.problem.nodes l.ids)) (map (tree l.problem.nodes) l.rest)
      ≡ map (name_of_term (truth_in l.problem l.m) (named_terms l.problem.nodes l.strings) (named_terms l.problem.nodes l.ids)) (map (tree l.problem.nodes) l.fn.numbers);
}

abbrev pub decreases-loop-n : goal.decreases-loop-n
decreases-loop-n l = length l.rest
