use Rattle.std.proofs.Common.{◌≡◌, map, take}
use Rattle.sc_typing_rules.specs.Rules.{leaf}
use Rattle.sc_typing_rules.proofs.leaves.all_leaves.Given as goal

abbrev pub invariant-loop-member : goal.invariant-loop-member
invariant-loop-member l = l.typed ≡ map (leaf l.schema) (take l.member-index l.members)
