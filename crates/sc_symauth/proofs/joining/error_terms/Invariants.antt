use Rattle.std.proofs.Common.{map, take}
use Rattle.sc_terms.specs.Tables.{Keeps}
use Rattle.sc_symauth.specs.declared.compiled.CompiledPolicy.{CompiledPolicy}
use Rattle.sc_symauth.specs.Standings.{error}
use Rattle.sc_constructs.specs.Numbers.{StandForAll, code_at}
use Rattle.sc_symauth.proofs.joining.error_terms.Given as goal

abbrev pub invariant-loop-policy : goal.invariant-loop-policy
invariant-loop-policy l = record {
  kept : Keeps l.fn.terms l.terms;
  made : StandForAll l.terms l.numbers (map (λ (p : CompiledPolicy). error (code_at l.fn.terms p.code)) (take l.policy-index l.policies));
}
