use Rattle.std.proofs.Common.{rules, map, subst}
use Rattle.sc_terms.specs.Tables.{tree}
use Rattle.sc_model_values.specs.Models.{truth_in}
use Rattle.sc_model_names.specs.Tables.{IsEntered, AreEntered}
use Rattle.sc_model_names.proofs.TableLaws.{entered_one}
use Rattle.sc_model_names.proofs.table.table_of.Goals as goal

pub loop-x-preserved : goal.loop-x-preserved
loop-x-preserved c = record {
  within = search rules;
  so_far =
      entered_one (truth_in c.args.problem.now c.args.m.now) c.args.patterns.now c.args.wanted (map (tree c.args.problem.now.nodes) c.args.strings.now)
      (tree c.args.problem.now.nodes c.in-Some.x.now) (map (tree c.args.problem.now.nodes) c.in-Some.later.now) c.loop-x.table c.enter.new.table
      (subst (λ xs. AreEntered (truth_in c.args.problem.now c.args.m.now) c.args.patterns.now c.args.wanted (map (tree c.args.problem.now.nodes) c.args.strings.now) (map (tree c.args.problem.now.nodes) xs) c.loop-x.table) c.in-Some.ensures.cases.0 c.loop-x.invariant.so_far)
      (subst (IsEntered c.args.patterns.now c.args.wanted c.loop-x.table c.enter.new.table) c.in_ok-signs.ensures c.in_ok-enter.ensures);
}
