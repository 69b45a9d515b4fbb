use Rattle.std.proofs.Common.{take}
use Rattle.sc_terms.specs.Tables.{tree}
use Rattle.sc_closure_rules.specs.Making.{Puts}
use Rattle.sc_closure.specs.Following.{met_among}
use Rattle.sc_closure.proofs.roles.meet_groups.Given as goal

abbrev pub invariant-loop-group : goal.invariant-loop-group
invariant-loop-group l =
    Puts l.fn.terms l.terms l.initial.numbers.items l.numbers.items (met_among l.meeting l.fn.terms (take l.group-index l.groups) (tree l.fn.terms l.term))
