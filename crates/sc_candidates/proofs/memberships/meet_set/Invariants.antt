use Rattle.std.proofs.Common.{flat_map, take}
use Rattle.sc_terms.specs.Tables.{tree}
use Rattle.sc_closure_rules.specs.Making.{Puts}
use Rattle.sc_candidates.specs.Crowds.{set_of}
use Rattle.sc_candidates.proofs.memberships.meet_set.Given as goal

abbrev pub invariant-loop-crowd : goal.invariant-loop-crowd
invariant-loop-crowd l = Puts l.fn.terms l.terms l.initial.numbers.items l.numbers.items (flat_map (set_of l.fn.terms (tree l.fn.terms l.set)) (take l.crowd-index l.crowds))
