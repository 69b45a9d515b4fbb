use Rattle.std.proofs.Common.{arith}
use Rattle.sc_reduction.specs.Marked.{trial_of}
use Rattle.sc_reduction.proofs.SearchLaws.{after_alike, after_large, after_spent}
use Rattle.sc_reduction.proofs.searching.search.Goals as goal
use Rattle.sc_reduction.proofs.searching.search.Goals.{in-Alike, in-Spent, in-OverLimit}

pub loop-place-preserved : goal.loop-place-preserved
loop-place-preserved c =
    let t = trial_of c.args.task.now c.args.left.now c.args.right.now in
    let i = c.loop-place.place in
    let envs = c.environments-env-items.result.now in
    let env = c.env-item.result in
    elim c.match-branch-2.branch [
      | in-Alike w ↦ after_alike t i envs env c.in_ok-compare.field-0 c.environments-env-items.ensures (omega arith) c.env-item.is c.in_ok-compare.ensures c.loop-place.found c.match-branch-2.found w.in-Alike.is w.found-is c.loop-place.invariant
      | in-Spent w ↦ after_spent t i envs env c.in_ok-compare.field-0 c.environments-env-items.ensures (omega arith) c.env-item.is c.in_ok-compare.ensures c.loop-place.found c.match-branch-2.found w.first_open-found.result w.in-Spent.log w.in-Spent.is w.found-is
          w.first_open-found.ensures c.loop-place.invariant
      | in-OverLimit w ↦ after_large t i envs env c.in_ok-compare.field-0 c.environments-env-items.ensures (omega arith) c.env-item.is c.in_ok-compare.ensures c.loop-place.found c.match-branch-2.found w.first_open-found-in-OverLimit.result w.in-OverLimit.is w.found-is
          w.first_open-found-in-OverLimit.ensures c.loop-place.invariant
    ]
