use Rattle.std.proofs.lemmas.Result.{on_ok_weaker}
use Rattle.sc_closure.proofs.TakesLaws.{takes_nothing, takes_part, part_within}
use Rattle.sc_closure.proofs.taking.take_part.Goals as goal

pub take_member-requires-clause-within : goal.take_member-requires-clause-within
take_member-requires-clause-within c = (part_within _ _ _ _ c.part_of.ensures c.in-Candidate.is).0

pub take_member-requires-clause-set_within : goal.take_member-requires-clause-set_within
take_member-requires-clause-set_within c = (part_within _ _ _ _ c.part_of.ensures c.in-Candidate.is).1

pub take_subset-requires-clause-from_within : goal.take_subset-requires-clause-from_within
take_subset-requires-clause-from_within c = (part_within _ _ _ _ c.part_of.ensures c.in-Subset.is).0

pub take_subset-requires-clause-to_within : goal.take_subset-requires-clause-to_within
take_subset-requires-clause-to_within c = (part_within _ _ _ _ c.part_of.ensures c.in-Subset.is).1

pub take_common-requires-clause-from_within : goal.take_common-requires-clause-from_within
take_common-requires-clause-from_within c = (part_within _ _ _ _ c.part_of.ensures c.in-Common.is).0

pub take_common-requires-clause-to_within : goal.take_common-requires-clause-to_within
take_common-requires-clause-to_within c = (part_within _ _ _ _ c.part_of.ensures c.in-Common.is).1

pub take_above-requires-clause-is : goal.take_above-requires-clause-is
take_above-requires-clause-is c = part_within _ _ _ _ c.part_of.ensures c.in-Above.is

pub returns-in-Nothing-clause-ok : goal.returns-in-Nothing-clause-ok
returns-in-Nothing-clause-ok c = takes_part _ _ _ _ _ _ _ _ _ c.part_of.ensures c.in-Nothing.is (takes_nothing _ _ _ c.requires.are)

pub returns-in-Candidate-clause-ok : goal.returns-in-Candidate-clause-ok
returns-in-Candidate-clause-ok c = on_ok_weaker c.take_member.result (takes_part _ _ _ _ _ _ _ _ _ c.part_of.ensures c.in-Candidate.is) c.take_member.ensures.ok

pub returns-in-Subset-clause-ok : goal.returns-in-Subset-clause-ok
returns-in-Subset-clause-ok c = on_ok_weaker c.take_subset.result (takes_part _ _ _ _ _ _ _ _ _ c.part_of.ensures c.in-Subset.is) c.take_subset.ensures.ok

pub returns-in-Common-clause-ok : goal.returns-in-Common-clause-ok
returns-in-Common-clause-ok c = on_ok_weaker c.take_common.result (takes_part _ _ _ _ _ _ _ _ _ c.part_of.ensures c.in-Common.is) c.take_common.ensures.ok

pub returns-in-Pattern-clause-ok : goal.returns-in-Pattern-clause-ok
returns-in-Pattern-clause-ok c = on_ok_weaker c.take_pattern.result (takes_part _ _ _ _ _ _ _ _ _ c.part_of.ensures c.in-Pattern.is) c.take_pattern.ensures.ok
