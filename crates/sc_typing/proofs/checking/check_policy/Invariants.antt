use Rattle.std.proofs.Common.{◌≡◌, drop}
use Rattle.sc_typing.specs.Checking.{refusing, first_in}
use Rattle.sc_typing.proofs.checking.check_policy.Given as goal

abbrev pub invariant-loop-env : goal.invariant-loop-env
invariant-loop-env l = refusing (first_in l.schema l.i l.policy (drop l.env-index l.envs)) ≡ refusing (first_in l.schema l.i l.policy l.envs)
