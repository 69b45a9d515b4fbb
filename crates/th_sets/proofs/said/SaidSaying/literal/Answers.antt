use Rattle.std.proofs.Common.{◌∙◌, sym}
use Rattle.th_sets.proofs.RowLaws.{literal_at, literal_nowhere}
use Rattle.th_sets.proofs.said.SaidSaying.literal.Goals as goal

pub returns-in-Some : goal.returns-in-Some
returns-in-Some c = c.literal.ensures ∙ literal_at c.args.self.now.problem.now c.args.self.now.rule c.in-Some.rule c.args.place (sym c.placed.ensures.value ∙ c.in-Some.is)

pub returns-in-None : goal.returns-in-None
returns-in-None c = literal_nowhere c.args.self.now.problem.now c.args.self.now.rule c.args.place (sym c.placed.ensures.value ∙ c.in-None.is)
