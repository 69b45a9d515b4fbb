use Rattle.std.proofs.Common.{◌∙◌, sym}
use Rattle.th_sets.proofs.RowLaws.{count_at, count_nowhere}
use Rattle.th_sets.proofs.said.SaidSaying.count.Goals as goal

pub returns-in-Some : goal.returns-in-Some
returns-in-Some c = c.count.ensures ∙ count_at c.args.self.now.problem.now c.args.self.now.rule c.in-Some.rule (sym c.placed.ensures.value ∙ c.in-Some.is)

pub returns-in-None : goal.returns-in-None
returns-in-None c = count_nowhere c.args.self.now.problem.now c.args.self.now.rule (sym c.placed.ensures.value ∙ c.in-None.is)
