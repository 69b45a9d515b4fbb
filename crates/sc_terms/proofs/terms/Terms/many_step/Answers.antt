use Rattle.std.proofs.Common.{rules}
use Rattle.sc_terms.proofs.Compares.{first_apart, first_same}
use Rattle.sc_terms.proofs.terms.Terms.many_step.Goals as goal

pub returns-then-not-is_same-clause-value : goal.returns-then-not-is_same-clause-value
returns-then-not-is_same-clause-value c =
    first_apart c.args.self.now c.loop-part.rest.now c.loop-part.left.now c.in-Some.later.now c.in-Some-split_first.others.now c.in-Some.part.now
    c.in-Some-split_first.other.now (search rules) (search rules) (search rules) _ _ c.loop-part.invariant.same (search rules)

pub loop-part-preserved : goal.loop-part-preserved
loop-part-preserved c = record {
  here = search rules;
  there = search rules;
  same = first_same c.args.self.now c.loop-part.rest.now c.loop-part.left.now c.in-Some.later.now c.in-Some-split_first.others.now c.in-Some.part.now
      c.in-Some-split_first.other.now (search rules) (search rules) (search rules) _ c.loop-part.invariant.same (search rules);
}
