use Rattle.std.proofs.Common.{◌≡◌, length, map}
use Rattle.sc_terms.specs.Tables.{tree}
use Rattle.sc_model_names.specs.Models.{truth_in}
use Rattle.sc_model_names.specs.Ids.{id_entries, identified}
use Rattle.sc_model_names.specs.Numbers.{AreIn, HaveTerms, named_terms}
use Rattle.sc_model_names.proofs.ids.identify.Given as goal

abbrev pub invariant-loop-x : goal.invariant-loop-x
invariant-loop-x l = record {
  within : AreIn l.problem.nodes l.rest;
  kept : HaveTerms l.problem.nodes l.entries;
  left : identified (truth_in l.problem l.m) (named_terms l.problem.nodes l.entries) (map (tree l.problem.nodes) l.rest)
      ≡ identified (truth_in l.problem l.m) (id_entries (map (tree l.problem.nodes) l.fn.entities)) (map (tree l.problem.nodes) l.fn.entities);
}

abbrev pub decreases-loop-x : goal.decreases-loop-x
decreases-loop-x l = length l.rest
