use Rattle.sc_falsified.proofs.SizeLaws.{few_from}
use Rattle.sc_falsified.proofs.chains.beside.Goals as goal

pub returns-then-not-may_be_of_three-clause-none : goal.returns-then-not-may_be_of_three-clause-none
returns-then-not-may_be_of_three-clause-none g c =
    few_from (g.E.Equalities.truth c.args.items.now) (g.E.Equalities.size c.args.items.now) c.args.labels.now c.args.sizes.now c.args.a c.requires.labels c.requires.sizes c.requires.bound
    (c.may_be_of_three.ensures.within c.if-not-may_be_of_three.true) (c.may_be_of_three.ensures.few c.if-not-may_be_of_three.true)
