use Rattle.std.proofs.Common.{rules}
use Rattle.th_equal.proofs.ChainLaws.{found_at, free_at}
use Rattle.th_equal.proofs.chains.broken_chain.Goals as goal

pub returns-in-Some-clause-found : goal.returns-in-Some-clause-found
returns-in-Some-clause-found c =
    found_at c.args.problem.now c.args.m.now _ c.in-Some.i c.in-Some.j c.in-Some.k c.number_at-a.result c.number_at-b.result c.number_at-c.result c.in_ok-numbers.ensures.named (search rules) (search rules) (search rules) (search rules)

pub returns-clause-none : goal.returns-clause-none
returns-clause-none c = free_at c.args.problem.now c.args.m.now _ c.laws.ensures c.in_ok-numbers.ensures.named c.in_ok-numbers.ensures.few (search rules)
