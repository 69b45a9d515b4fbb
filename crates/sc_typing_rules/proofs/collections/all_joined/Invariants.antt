use Rattle.std.proofs.Common.{◌≡◌, drop}
use Rattle.sc_typing_rules.specs.Rules.{all_joined}
use Rattle.sc_typing_rules.proofs.collections.all_joined.Given as goal

abbrev pub invariant-loop-member : goal.invariant-loop-member
invariant-loop-member l = all_joined l.place l.ty (drop l.member-index l.members) ≡ all_joined l.place l.fn.ty l.members
