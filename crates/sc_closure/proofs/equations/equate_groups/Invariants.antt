use Rattle.std.proofs.Common.{take}
use Rattle.sc_terms.specs.Tables.{tree}
use Rattle.sc_closure.specs.declared.roles.Meeting.TheVariants.{Equation}
use Rattle.sc_candidates.specs.Equations.{Equates}
use Rattle.sc_closure.specs.Following.{met_among}
use Rattle.sc_closure.proofs.equations.equate_groups.Given as goal

abbrev pub invariant-loop-group : goal.invariant-loop-group
invariant-loop-group l =
    Equates l.fn.terms l.terms l.initial.numbers.items l.numbers.items (met_among Equation l.fn.terms (take l.group-index l.groups) (tree l.fn.terms l.term)) (tree l.fn.terms l.term)
