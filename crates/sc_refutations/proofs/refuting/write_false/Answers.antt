use Rattle.std.proofs.Common.{◌≡◌, ◌&&◌, ◌<◌, sym, not, arith, get_or, length, false, true, rules}
use Rattle.sc_clauses.specs.Clauses.{negation}
use Rattle.sc_refutations.specs.Arenas.{lit_of}
use Rattle.sc_refutations.specs.Known.{marked}
use Rattle.sc_refutations.specs.Refutations.{is_listed, with_lit}
use Rattle.sc_refutations.proofs.AssumedLaws.{code_there, codes_fail, codes_more, codes_known, codes_put}
use Rattle.sc_refutations.proofs.refuting.write_false.Goals as goal

pub is_free-requires : goal.is_free-requires
is_free-requires c =
    let index : c.loop-code.code-index < length c.args.clause.now = omega arith in
    code_there c.args.clause.now c.loop-code.code-index index c.requires.codes

pub returns-then-not-is_free-clause-clause : goal.returns-then-not-is_free-clause-clause
returns-then-not-is_free-clause-clause c =
    let known = marked c.loop-code.known.step c.loop-code.known.marks.items in
    let lit = lit_of (get_or c.args.clause.now c.loop-code.code-index 0) in
    let index : c.loop-code.code-index < length c.args.clause.now = omega arith in
    let fails : is_listed (c.args.known.now.count) lit && not (known lit) ≡ false = cc in
    sym (codes_fail (c.args.known.now.count) known c.args.clause.now c.loop-code.code-index index c.loop-code.invariant.known fails)

pub loop-code-preserved : goal.loop-code-preserved
loop-code-preserved c =
    let known = marked c.loop-code.known.step c.loop-code.known.marks.items in
    let next = marked c.set_false.new.self.step c.set_false.new.self.marks.items in
    let lit = lit_of (get_or c.args.clause.now c.loop-code.code-index 0) in
    let index : c.loop-code.code-index < length c.args.clause.now = omega arith in
    let fits : is_listed (c.args.known.now.count) lit && not (known lit) ≡ true = cc in
    let more : next ≡ with_lit known (negation lit) = cc in
    record {
      number = omega arith;
      count = omega arith;
      clause = codes_more (c.args.known.now.count) known c.args.clause.now c.loop-code.code-index index c.loop-code.invariant.known c.loop-code.invariant.clause fits;
      known = codes_known known next c.args.clause.now c.loop-code.code-index index c.loop-code.invariant.known more;
      written = codes_put c.args.codes.now.items c.loop-code.codes.items c.push_reserved.new.self.items c.args.clause.now c.loop-code.code-index index c.loop-code.invariant.written c.push_reserved.ensures.items;
      room = (search rules);
    }
