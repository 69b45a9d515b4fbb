use Rattle.sc_solver.specs.OtherLaws.{other_word}
use Rattle.sc_solver.proofs.SolvingLaws.{consistent, refuted, spent}
use Rattle.sc_solver.proofs.solving.solve.Goals as goal

pub find-requires : goal.find-requires
find-requires c = record { words = λ i h. other_word c.args.problem.now i h }

pub rebuild-requires : goal.rebuild-requires
rebuild-requires c = record {
  consistent = consistent c.args.problem.now c.args.budget _ c.in_ok-log.ensures c.in-Consistent.m c.in-Consistent.is;
}

pub returns-in-Refuted : goal.returns-in-Refuted
returns-in-Refuted c = refuted c.args.problem.now c.args.budget _ c.in_ok-log.ensures c.in-Refuted.log c.in-Refuted.is

pub returns-in-Spent : goal.returns-in-Spent
returns-in-Spent c = spent c.args.problem.now c.args.budget _ c.in_ok-log.ensures c.in-Spent.log c.in-Spent.is
