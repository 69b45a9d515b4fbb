use Rattle.std.proofs.Common.{arith, refl}
use Rattle.sc_symeval.specs.Compiling.{policy_code}
use Rattle.sc_constructs.proofs.NumbersLaws.{ready_later}
use Rattle.sc_terms.proofs.TableLaws.{keeps_then}
use Rattle.sc_goal.proofs.CompilingLaws.{more_marked, none_marked}
use Rattle.sc_goal.specs.Goals.{compiled}
use Rattle.sc_goal.proofs.compiling.compile_marked.Goals as goal
use Rattle.sc_goal.proofs.compiling.compile_marked.Goals.{then-marked+in_ok-code+in_ok-push, else-marked}

pub loop-place-preserved : goal.loop-place-preserved
loop-place-preserved c =
    let s = c.args.setting.now.schema.now in
    let env = c.args.setting.now.env.now in
    elim c.if-marked.branch [
      | then-marked+in_ok-code+in_ok-push w ↦ rw (w.terms-is, w.compiled-is) (record {
        ready = ready_later _ _ _ _ _ w.in_ok-code.ensures.kept c.loop-place.invariant.ready;
        kept = keeps_then _ _ _ c.loop-place.invariant.kept w.in_ok-code.ensures.kept;
        so_far = more_marked (compiled s env) c.args.marks.now c.args.policies.now c.loop-place.place (omega arith) (omega arith) _ _ _ _ _ w.index-policies-place.result w.index-policies-place.result.effect
            (policy_code s env w.index-policies-place.result) w.in_ok-code.code w.if-marked.true w.index-policies-place.is c.requires.typed refl c.loop-place.invariant.so_far w.in_ok-code.ensures.kept
            w.in_ok-code.ensures.ok w.in_ok-push.ensures.ok;
      })
      | else-marked w ↦ rw (w.terms-is, w.compiled-is) (record {
        ready = c.loop-place.invariant.ready;
        kept = c.loop-place.invariant.kept;
        so_far = none_marked (compiled s env) c.args.marks.now c.args.policies.now c.loop-place.place (omega arith) (omega arith) _ _ _ w.if-marked.false c.loop-place.invariant.so_far;
      })
    ]
