use Rattle.std.proofs.Common.{◌∙◌, sym}
use Rattle.th_entities.proofs.AlikeLaws.{unlike_free}
use Rattle.th_entities.proofs.alike.between.Goals as goal

pub returns-then-not-are_like-clause-none : goal.returns-then-not-are_like-clause-none
returns-then-not-are_like-clause-none c = unlike_free c.args.problem.now c.args.m.now c.args.a c.args.b c.requires.first c.requires.second c.args.tags (sym c.are_like.ensures ∙ c.if-not-are_like.true)
