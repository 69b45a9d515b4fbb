use Rattle.std.proofs.Common.{◌≡◌, ◌<◌, ◌++◌, ◌∷◌, [], false, length, arith, rules}
use Rattle.sc_clauses.specs.declared.lit.Lit.{Lit}
use Rattle.sc_refutations.proofs.ArenaLaws.{more_have}
use Rattle.sc_refutations.proofs.AssumedLaws.{codes_written, unlisted_fails}
use Rattle.sc_refutations.proofs.known.Known.codes_of.Goals as goal

pub returns-in_default : goal.returns-in_default
returns-in_default c =
    let d : Lit = record { atom = 0; negated = false } in
    let index : c.loop-lit.lit-index < length c.args.clause.now = omega arith in
    unlisted_fails c.args.self.now.count c.args.clause.now c.loop-lit.lit-index d index c.args.self.now.few c.in_default.ensures

pub loop-lit-preserved : goal.loop-lit-preserved
loop-lit-preserved c =
    let d : Lit = record { atom = 0; negated = false } in
    let index : c.loop-lit.lit-index < length c.args.clause.now = omega arith in
    let e : c.push.new.self.items ≡ c.loop-lit.codes.items ++ c.in-Some.code ∷ [] = search rules in
    record {
      codes = codes_written c.loop-lit.codes.items c.push.new.self.items c.args.clause.now c.loop-lit.lit-index d c.in-Some.code index e c.loop-lit.invariant.codes c.in-Some.ensures.0;
      have = more_have c.args.clause.now c.loop-lit.lit-index d index c.loop-lit.invariant.have c.in-Some.ensures.1;
    }
