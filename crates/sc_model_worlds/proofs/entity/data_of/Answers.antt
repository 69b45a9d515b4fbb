use Rattle.sc_model_worlds.proofs.GivenLaws.{data_by}
use Rattle.sc_model_worlds.proofs.entity.data_of.Goals as goal

pub returns : goal.returns
returns c =
    data_by c.args.problem.now c.args.m.now c.args.names.now c.args.uid.now c.args.closed.now c.in_ok-attrs.attrs c.in_ok-ancestors.ancestors c.in_ok-tags.tags
    c.requires.all c.in_ok-attrs.ensures c.in_ok-ancestors.ensures c.in_ok-tags.ensures
