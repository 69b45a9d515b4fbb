use Rattle.std.proofs.Common.{arith}
use Rattle.sc_terms.proofs.TableLaws.{keeps_itself}
use Rattle.sc_terms.specs.Trees.{Tree}
use Rattle.sc_terms.specs.Tables.{tree}
use Rattle.sc_terms.specs.Folds.{bit_term}
use Rattle.sc_term_definitions.proofs.MakingLaws.{stands_same, puts_start, puts_place, puts_end}
use Rattle.sc_closure_rules.proofs.inside.put_bits.Goals as goal

pub loop-place-init : goal.loop-place-init
loop-place-init c = puts_start _ _ _ _ 0 (keeps_itself _)

pub loop-place-preserved : goal.loop-place-preserved
loop-place-preserved c =
    let so_far = c.loop-place.invariant in
    let stays = so_far.kept.same c.args.n c.requires.within in
    rw c.in_ok-push.ensures.items
    (puts_place _ _ _ (bit_term (tree c.args.terms.now c.args.n)) _ _ 0 c.loop-place.place _ (omega arith) so_far c.in_ok-m.ensures.kept
    (stands_same (λ (t : Tree). bit_term t c.loop-place.place) stays c.in_ok-m.ensures.ok))

pub returns-clause-ok : goal.returns-clause-ok
returns-clause-ok c = puts_end _ _ _ _ _ 0 c.loop-place.place c.args.count (omega arith) c.loop-place.invariant
