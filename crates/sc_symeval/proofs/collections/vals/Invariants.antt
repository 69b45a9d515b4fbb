use Rattle.std.proofs.Common.{◌≡◌, map, take}
use Rattle.sc_constructs.specs.declared.opt.Opt.{Opt}
use Rattle.sc_symeval.proofs.collections.vals.Given as goal

abbrev pub invariant-loop-code : goal.invariant-loop-code
invariant-loop-code l = l.numbers ≡ map (λ (o : Opt). o.val) (take l.code-index l.codes)
