use Rattle.std.proofs.Common.{arith}
use Rattle.sc_terms.proofs.TableLaws.{keeps_itself}
use Rattle.sc_terms.specs.Trees.{Tree}
use Rattle.sc_terms.specs.Tables.{tree}
use Rattle.sc_terms.specs.Folds.{equal_term, bit_term}
use Rattle.sc_term_definitions.proofs.MakingLaws.{stands_same, puts_start, puts_place, puts_end}
use Rattle.sc_term_definitions.proofs.inputs.put_equal_bits.Goals as goal

pub loop-place-init : goal.loop-place-init
loop-place-init c = puts_start _ _ _ _ 0 (keeps_itself _)

pub loop-place-preserved : goal.loop-place-preserved
loop-place-preserved c =
    let so_far = c.loop-place.invariant in
    let a_stays = so_far.kept.same c.args.a c.requires.a_in in
    let b_stays = so_far.kept.same c.args.b c.requires.b_in in
    let p = c.loop-place.place in
    rw c.in_ok-push.ensures.items
    (puts_place _ _ _ (λ i. equal_term (bit_term (tree c.args.terms.now c.args.a) i) (bit_term (tree c.args.terms.now c.args.b) i)) _ _ 0 p _ (omega arith) so_far c.in_ok-n.ensures.kept
    (stands_same (λ (t : Tree). equal_term (bit_term t p) (bit_term (tree c.args.terms.now c.args.b) p)) a_stays
    (stands_same (λ (t : Tree). equal_term (bit_term (tree c.loop-place.terms c.args.a) p) (bit_term t p)) b_stays c.in_ok-n.ensures.ok)))

pub returns-clause-ok : goal.returns-clause-ok
returns-clause-ok c = puts_end _ _ _ _ _ 0 c.loop-place.place c.args.count (omega arith) c.loop-place.invariant
