use Rattle.std.proofs.Common.{◌≡◌, length}
use Rattle.sc_model_laws.specs.Names.{unused}
use Rattle.sc_model_names.specs.Numbers.{named_terms}
use Rattle.sc_model_names.proofs.names.unused.Given as goal

abbrev pub invariant-loop-text : goal.invariant-loop-text
invariant-loop-text l = unused (named_terms l.problem.nodes l.entries) l.rest ≡ unused (named_terms l.problem.nodes l.entries) l.fn.texts

abbrev pub decreases-loop-text : goal.decreases-loop-text
decreases-loop-text l = length l.rest
