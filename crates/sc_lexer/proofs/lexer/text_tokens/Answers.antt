use Rattle.std.proofs.Common.{◌≡◌, ◌≢◌, ◌-◌, length, ◌∙◌, sym, eqb-true, arith, rules, subst}
use Rattle.std.proofs.lemmas.Bool.Decides.{nat_tests}
use Rattle.sc_lexer.specs.Fronts.{IsNext, Stops}
use Rattle.sc_lexer.proofs.ReadingLaws.{Completes_more, Completes_end, Completes_fault, shorter}
use Rattle.sc_lexer.proofs.lexer.text_tokens.Goals as goal

pub returns-then-is_empty-clause-ok : goal.returns-then-is_empty-clause-ok
returns-then-is_empty-clause-ok c =
    let nothing : length c.after_blanks-rest.result.now ≡ 0 = eqb-true _ 0 (sym c.is_empty.ensures ∙ c.if-is_empty.true) in
    Completes_end _ _ _ _ _ c.loop-rest.invariant.1 c.after_blanks-rest.ensures.skips nothing

pub returns-in-Err-clause-err : goal.returns-in-Err-clause-err
returns-in-Err-clause-err c =
    let some : length c.after_blanks-rest.result.now ≢ 0 = grind (arith, nat_tests) in
    let stops = subst (λ bs. Stops c.loop-rest.like bs (length c.args.text.now - length c.after_blanks-rest.result.now) c.in-Err.fault) c.as_bytes.ensures.value c.in-Err.ensures.err in
    Completes_fault _ _ _ _ _ _ c.loop-rest.invariant.1 c.after_blanks-rest.ensures.skips some stops

pub loop-rest-smaller : goal.loop-rest-smaller
loop-rest-smaller c =
    let next = subst (λ bs. IsNext c.loop-rest.like bs c.in-Ok.front.kind c.in-Ok.front.len) c.as_bytes.ensures.value c.in-Ok.ensures.ok in
    rw c.range_from-left.ensures.value (shorter _ _ _ _ _ c.after_blanks-rest.ensures.within next)

pub loop-rest-preserved : goal.loop-rest-preserved
loop-rest-preserved c =
    let next = subst (λ bs. IsNext c.loop-rest.like bs c.in-Ok.front.kind c.in-Ok.front.len) c.as_bytes.ensures.value c.in-Ok.ensures.ok in
    (search rules, rw (c.in_ok-push.ensures.ok, c.is_like-like.ensures, c.as_bytes-in-loop-rest.ensures.value, c.range_from-left.ensures.value) (Completes_more _ _ _ _ _ _ _ c.loop-rest.invariant.1 c.after_blanks-rest.ensures.skips next))
