use Rattle.std.proofs.Common.{◌≡◌, false, take}
use Rattle.std.specs.List.{list_any}
use Rattle.sc_terms.specs.Tables.{tree}
use Rattle.sc_candidates.specs.Equations.{apart_from}
use Rattle.sc_candidates.proofs.equations.is_any_apart.Given as goal

abbrev pub invariant-loop-member : goal.invariant-loop-member
invariant-loop-member l = list_any (apart_from l.terms (tree l.terms l.term)) (take l.member-index l.members) ≡ false
