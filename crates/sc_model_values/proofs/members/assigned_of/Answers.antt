use Rattle.std.proofs.Common.{rules, ◌≤◌, ◌∙◌, length, flat_map}
use Rattle.sc_footprint.specs.Problems.{closed_terms}
use Rattle.sc_model_values.specs.Models.{truth_in}
use Rattle.sc_model_laws.specs.Vals.{member_in}
use Rattle.sc_terms.specs.Tables.{tree}
use Rattle.sc_model_values.proofs.AssignedLaws.{one_more, no_more, assigned_by}
use Rattle.sc_model_values.proofs.members.assigned_of.Goals as goal

pub loop-place-preserved : goal.loop-place-preserved
loop-place-preserved c = record {
  within = c.in_ok-put_member.ensures.within;
  so_far =
      one_more (tree c.args.problem.now.nodes) (member_in (truth_in c.args.problem.now c.args.m.now) (tree c.args.problem.now.nodes c.args.term)) c.args.problem.now.closed
      (flat_map (member_in (truth_in c.args.problem.now c.args.m.now) (tree c.args.problem.now.nodes c.args.term)) (closed_terms c.args.problem.now))
      c.loop-place.place c.closed_at-closed.result c.loop-place.members c.put_member.new.members c.closed_at-closed.ensures.number c.in_ok-put_member.ensures.value c.loop-place.invariant.so_far;
}

pub returns-clause-value : goal.returns-clause-value
returns-clause-value c = λ names.
    let done : length c.args.problem.now.closed ≤ c.loop-place.place = search rules in
    no_more (tree c.args.problem.now.nodes) (member_in (truth_in c.args.problem.now c.args.m.now) (tree c.args.problem.now.nodes c.args.term)) c.args.problem.now.closed
    (flat_map (member_in (truth_in c.args.problem.now c.args.m.now) (tree c.args.problem.now.nodes c.args.term)) (closed_terms c.args.problem.now))
    c.loop-place.place c.loop-place.members done c.loop-place.invariant.so_far
    ∙ assigned_by c.args.problem.now c.args.m.now names (tree c.args.problem.now.nodes c.args.term)
