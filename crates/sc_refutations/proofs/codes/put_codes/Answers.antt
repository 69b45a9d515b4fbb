use Rattle.std.proofs.Common.{◌≡◌, ◌<◌, ◌++◌, ◌∷◌, [], false, length, arith, rules}
use Rattle.sc_clauses.specs.declared.lit.Lit.{Lit}
use Rattle.sc_refutations.proofs.AssumedLaws.{codes_after}
use Rattle.sc_refutations.proofs.codes.put_codes.Goals as goal

pub loop-lit-preserved : goal.loop-lit-preserved
loop-lit-preserved c =
    let d : Lit = record { atom = 0; negated = false } in
    let index : c.loop-lit.lit-index < length c.args.clause.now = omega arith in
    let e : c.push_reserved.new.self.items ≡ c.loop-lit.codes.items ++ c.in-Some.code ∷ [] = search rules in
    record {
      written = codes_after _ c.loop-lit.codes.items c.push_reserved.new.self.items c.args.clause.now c.loop-lit.lit-index d c.in-Some.code index e c.loop-lit.invariant.written c.in-Some.ensures.0;
      room = search rules;
    }
