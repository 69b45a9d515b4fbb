use Rattle.std.proofs.Common.{◌≡◌, map, take}
use Rattle.sc_constructs.specs.declared.opt.Opt.{Opt}
use Rattle.sc_symeval.proofs.collections.oks.Given as goal

abbrev pub invariant-loop-code : goal.invariant-loop-code
invariant-loop-code l = l.numbers ≡ map (λ (o : Opt). o.ok) (take l.code-index l.codes)
