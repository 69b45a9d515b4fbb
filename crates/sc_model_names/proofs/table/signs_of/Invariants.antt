use Rattle.std.proofs.Common.{◌≡◌, take}
use Rattle.sc_terms.specs.Tables.{tree}
use Rattle.sc_model_values.specs.Models.{truth_in}
use Rattle.sc_model_laws.specs.Names.{signs_of}
use Rattle.sc_model_names.proofs.table.signs_of.Given as goal

abbrev pub invariant-loop-pattern : goal.invariant-loop-pattern
invariant-loop-pattern l = l.signs ≡ signs_of (truth_in l.problem l.m) (take l.pattern-index l.patterns) (tree l.problem.nodes l.x)
