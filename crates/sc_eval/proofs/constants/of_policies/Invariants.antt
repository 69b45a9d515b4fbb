use Rattle.std.proofs.Common.{ℕ, ◌<◌, get_or}
use Rattle.sc_ast.specs.declared.policy.Policy.{Policy}
use Rattle.sc_eval.specs.Written.{IsProperPolicy}
use Rattle.sc_eval.proofs.constants.of_policies.Given as goal

abbrev pub invariant-loop-policy : goal.invariant-loop-policy
invariant-loop-policy l = (k : ℕ) (d : Policy) → k < l.policy-index → IsProperPolicy (get_or l.policies k d)
