use Rattle.std.proofs.Common.{take}
use Rattle.sc_constructs.specs.Numbers.{HasVariables}
use Rattle.sc_terms.specs.Tables.{Keeps}
use Rattle.sc_symauth.specs.Standings.{all_compiled}
use Rattle.sc_symauth.specs.Numbers.{AreCompiled}
use Rattle.sc_symauth.proofs.deciding.compile_all.Given as goal

abbrev pub invariant-loop-policy : goal.invariant-loop-policy
invariant-loop-policy l = record {
  ready : HasVariables l.terms l.schema l.env l.setting.variables;
  kept : Keeps l.fn.terms l.terms;
  made : AreCompiled l.terms l.compiled (all_compiled l.schema l.env (take l.policy-index l.policies));
}
