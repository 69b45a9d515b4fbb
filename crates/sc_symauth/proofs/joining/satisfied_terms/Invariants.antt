use Rattle.std.proofs.Common.{map, take}
use Rattle.sc_terms.specs.Tables.{Keeps}
use Rattle.sc_constructs.specs.declared.opt.Opt.{Opt}
use Rattle.sc_symauth.specs.Standings.{satisfied}
use Rattle.sc_constructs.specs.Numbers.{StandForAll, code_at}
use Rattle.sc_symauth.proofs.joining.satisfied_terms.Given as goal

abbrev pub invariant-loop-code : goal.invariant-loop-code
invariant-loop-code l = record {
  kept : Keeps l.fn.terms l.terms;
  made : StandForAll l.terms l.numbers (map (λ (o : Opt). satisfied (code_at l.fn.terms o)) (take l.code-index l.codes));
}
