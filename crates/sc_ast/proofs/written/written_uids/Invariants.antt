use Rattle.std.proofs.Common.{◌≡◌, take}
use Rattle.sc_ast.specs.Literals.{literals}
use Rattle.sc_ast.proofs.written.written_uids.Given as goal

abbrev pub invariant-loop-policy : goal.invariant-loop-policy
invariant-loop-policy l = l.uids ≡ literals (take l.policy-index l.policies)
