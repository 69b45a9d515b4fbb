use Rattle.std.proofs.Common.{arith}
use Rattle.sc_terms.proofs.TableLaws.{keeps_itself}
use Rattle.sc_terms.specs.Trees.{Tree}
use Rattle.sc_terms.specs.Tables.{tree}
use Rattle.sc_term_definitions.specs.Definitions.{place_agrees}
use Rattle.sc_term_definitions.proofs.MakingLaws.{stands_same, puts_start, puts_place, puts_end}
use Rattle.sc_term_definitions.proofs.inputs.put_agreements.Goals as goal

pub loop-place-init : goal.loop-place-init
loop-place-init c = puts_start _ _ _ _ 0 (keeps_itself _)

pub loop-place-preserved : goal.loop-place-preserved
loop-place-preserved c =
    let so_far = c.loop-place.invariant in
    let a_stays = so_far.kept.same c.args.a c.requires.a_in in
    let b_stays = so_far.kept.same c.args.b c.requires.b_in in
    let p = c.loop-place.place in
    rw c.in_ok-push.ensures.items
    (puts_place _ _ _ (place_agrees (tree c.args.terms.now c.args.a) (tree c.args.terms.now c.args.b)) _ _ 0 p _ (omega arith) so_far c.in_ok-n.ensures.kept
    (stands_same (λ (t : Tree). place_agrees t (tree c.args.terms.now c.args.b) p) a_stays
    (stands_same (λ (t : Tree). place_agrees (tree c.loop-place.terms c.args.a) t p) b_stays c.in_ok-n.ensures.ok)))

pub returns-clause-ok : goal.returns-clause-ok
returns-clause-ok c = puts_end _ _ _ _ _ 0 c.loop-place.place 128 (omega arith) c.loop-place.invariant
