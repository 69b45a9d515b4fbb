use Rattle.std.proofs.Common.{flat_map, take}
use Rattle.sc_terms.specs.Tables.{tree}
use Rattle.sc_candidates.specs.Crowds.{crowd_told}
use Rattle.sc_candidates.specs.Equations.{Equates}
use Rattle.sc_candidates.proofs.memberships.meet_crowds.Given as goal

abbrev pub invariant-loop-crowd : goal.invariant-loop-crowd
invariant-loop-crowd l =
    Equates l.fn.terms l.terms l.initial.numbers.items l.numbers.items (flat_map (crowd_told l.fn.terms (tree l.fn.terms l.term) (tree l.fn.terms l.set)) (take l.crowd-index l.crowds)) (tree l.fn.terms l.term)
