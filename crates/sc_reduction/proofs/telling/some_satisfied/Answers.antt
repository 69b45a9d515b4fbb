use Rattle.std.proofs.Common.{◌≡◌, ◌∙◌, ◌||◌, arith, ap, false, refl, sym, true}
use Rattle.sc_reduction.specs.Telling.{satisfied_with}
use Rattle.sc_reduction.proofs.TellingLaws.{AnyFrom, any_here, any_later, any_none, stands_at}
use Rattle.sc_reduction.proofs.telling.some_satisfied.Goals as goal
use Rattle.sc_reduction.proofs.telling.some_satisfied.Goals.{else-marked-via-then-marked+else-is_satisfied_with, else-marked-via-else-marked}

pub loop-place-preserved : goal.loop-place-preserved
loop-place-preserved c = λ w stand.
    let test = satisfied_with c.args.effect w in
    elim c.else-marked.branch [
      | else-marked-via-then-marked+else-is_satisfied_with b ↦
          c.loop-place.invariant w stand
          ∙ any_here test c.args.marks.now c.args.policies.now c.loop-place.place _ b.index-policies-place.result false (omega arith) (omega arith) b.if-marked.true b.index-policies-place.is
          (sym (b.is_satisfied_with.ensures w (stands_at w c.args.policies.now c.args.standings.now c.loop-place.place b.index-policies-place.result _ (omega arith) b.index-policies-place.is stand)) ∙ b.if-is_satisfied_with.false)
      | else-marked-via-else-marked b ↦ c.loop-place.invariant w stand ∙ any_later test c.args.marks.now c.args.policies.now c.loop-place.place _ (omega arith) (omega arith) b.if-marked.false
    ]

pub returns-then-is_satisfied_with : goal.returns-then-is_satisfied_with
returns-then-is_satisfied_with c = λ w stand.
    sym (c.loop-place.invariant w stand
    ∙ any_here (satisfied_with c.args.effect w) c.args.marks.now c.args.policies.now c.loop-place.place _ c.index-policies-place.result true (omega arith) (omega arith) c.if-marked.true c.index-policies-place.is
    (sym (c.is_satisfied_with.ensures w (stands_at w c.args.policies.now c.args.standings.now c.loop-place.place c.index-policies-place.result _ (omega arith) c.index-policies-place.is stand)) ∙ c.if-is_satisfied_with.true))

pub returns : goal.returns
returns c = λ w stand. sym (c.loop-place.invariant w stand ∙ any_none (satisfied_with c.args.effect w) c.args.marks.now c.args.policies.now c.loop-place.place (omega arith))
