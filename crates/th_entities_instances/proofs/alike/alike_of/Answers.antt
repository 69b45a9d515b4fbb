use Rattle.std.proofs.Common.{◌∙◌, sym}
use Rattle.th_entities_instances.proofs.AlikeLaws.{alike_none, alike_some}
use Rattle.th_entities_instances.proofs.alike.alike_of.Goals as goal

pub returns-in_default : goal.returns-in_default
returns-in_default c = alike_none c.args.problem.now c.args.x c.args.y c.args.i c.term.result c.term.ensures.value (sym c.in_default.is ∙ c.half_of.ensures)

pub returns : goal.returns
returns c =
    alike_some c.args.problem.now c.args.x c.args.y c.args.i c.term.result c.term.ensures.value c.in-Some.half (sym c.in-Some.is ∙ c.half_of.ensures) c.term.ensures.within c.requires.x c.requires.y c.requires.x_other
    c.requires.y_other
