use Rattle.std.proofs.Common.{◌≡◌, ◌∙◌, ◌∷◌, length, ap, arith}
use Rattle.std.proofs.lemmas.Bool.Decides.{nat_tests}
use Rattle.sc_closure.proofs.PuttingLaws.{behind_next}
use Rattle.sc_closure.proofs.numbers.behind.Goals as goal

pub loop-first-preserved : goal.loop-first-preserved
loop-first-preserved c =
    let is = c.in-Some.ensures.cases.0 in
    let first : c.in-Some.first.now ≡ c.args.n = grind (arith, nat_tests, c.if-first-n.false) in
    record {
      same = λ ks. behind_next ks _ _ _ _ is first ∙ c.loop-first.invariant.same ks;
      shorter = let one : length c.loop-first.rest.now ≡ length (c.in-Some.first.now ∷ c.in-Some.later.now) = ap length is in omega (arith, one, c.loop-first.invariant.shorter);
    }
