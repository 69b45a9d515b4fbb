use Rattle.std.proofs.Common.{List, sym, subst}
use Rattle.sc_names.specs.declared.uid.Uid.{Uid}
use Rattle.sc_footprint.specs.Goals.{IsGoal}
use Rattle.sc_terms.specs.Tables.{tree}
use Rattle.sc_reports.proofs.AnalysisLaws.{query-declared, goal-stands}
use Rattle.sc_reports.proofs.PosedLaws.{query-goal}
use Rattle.sc_reports.proofs.analysing.problem_of.Goals as goal

pub goal-requires : goal.goal-requires
goal-requires c = c.requires.typed

pub close-requires-clause-within : goal.close-requires-clause-within
close-requires-clause-within c = let stands = goal-stands _ _ _ c.requires.typed c.in_ok-goal.ensures.ok in stands.2.within

pub close-requires-clause-goal : goal.close-requires-clause-goal
close-requires-clause-goal c =
    let s = c.args.schema.now in
    let env = c.args.env.now in
    let q = c.args.query.now in
    let stands = goal-stands _ _ _ c.requires.typed c.in_ok-goal.ensures.ok in
    subst (λ (us : List Uid). IsGoal s env us (tree c.goal.new.terms c.in_ok-goal.goal)) (sym c.lits.ensures)
    (subst (IsGoal s env q.literals) (sym stands.2.is)
    (query-goal c.posed_goals.ensures.goal s env q stands.0 c.laws-2.ensures.lawful c.requires.environment c.laws.ensures (query-declared c.declared_laws.ensures s env q c.laws.ensures c.requires) stands.1))
