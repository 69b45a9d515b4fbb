use Rattle.std.proofs.Common.{◌≡◌, map, filter, take}
use Rattle.sc_symauth.specs.declared.compiled.CompiledPolicy.{CompiledPolicy}
use Rattle.sc_symauth.specs.Numbers.{has_effect}
use Rattle.sc_symauth.proofs.joining.codes_of.Given as goal

abbrev pub invariant-loop-policy : goal.invariant-loop-policy
invariant-loop-policy l = l.codes ≡ map (λ (p : CompiledPolicy). p.code) (filter (λ (p : CompiledPolicy). has_effect l.permitting p.effect) (take l.policy-index l.policies))
