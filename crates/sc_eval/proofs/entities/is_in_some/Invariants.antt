use Rattle.std.proofs.Common.{◌≡◌, ◌||◌, drop, Ok}
use Rattle.std.specs.List.{list_any}
use Rattle.sc_eval.specs.Outcomes.{◌>>=◌}
use Rattle.sc_eval.specs.Entities.{all_entities, is_or_in, is_in_some}
use Rattle.sc_eval.proofs.entities.is_in_some.Given as goal

abbrev pub invariant-loop-member : goal.invariant-loop-member
invariant-loop-member l = (all_entities (drop l.member-index l.members) >>= λ bs. Ok (l.found || list_any (is_or_in l.world l.a) bs)) ≡ is_in_some l.world l.a l.members
