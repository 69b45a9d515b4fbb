use Rattle.std.proofs.Common.{rules}
use Rattle.sc_solver.proofs.ConsistentLaws.{truths_consistent}
use Rattle.sc_solver.proofs.rebuilding.rebuild.Goals as goal

pub names_of-requires : goal.names_of-requires
names_of-requires c = record {
  consistent = truths_consistent c.consistency_laws.ensures c.model_laws.ensures.consistent c.args.problem.now c.args.m.now c.laws.ensures
      (c.are_places_small.ensures.0 (search rules)) c.requires.consistent;
}
