use Rattle.sc_term_laws.proofs.NodesJudged.{leaf_told, one_told, two_told, choice_told, many_told}
use Rattle.sc_term_laws.proofs.judging.node_test.Goals as goal

pub returns-in-Leaf : goal.returns-in-Leaf
returns-in-Leaf c = leaf_told _ _ _ c.args.terms.now _ _ _ c.in-Leaf.is c.leaf_test.ensures

pub returns-in-One : goal.returns-in-One
returns-in-One c = one_told _ _ _ _ c.args.good.now c.requires.told _ _ _ _ c.in-One.is c.requires.parts c.one_test.ensures

pub returns-in-Two : goal.returns-in-Two
returns-in-Two c = two_told _ _ _ _ c.args.good.now c.requires.told _ _ _ _ _ c.in-Two.is c.requires.parts c.two_test.ensures

pub returns-in-Choice : goal.returns-in-Choice
returns-in-Choice c = choice_told _ _ _ _ c.args.good.now c.requires.told _ _ _ _ _ c.in-Choice.is c.requires.parts c.three_test.ensures

pub returns-in-Many : goal.returns-in-Many
returns-in-Many c = many_told _ _ _ _ c.args.good.now c.requires.told _ _ _ _ c.in-Many.is c.requires.parts c.many_test.ensures
