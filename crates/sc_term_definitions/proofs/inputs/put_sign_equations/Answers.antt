use Rattle.std.proofs.Common.{arith}
use Rattle.sc_terms.proofs.TableLaws.{keeps_itself}
use Rattle.sc_sorts.specs.declared.node.UnaryOp.TheVariants as unary
use Rattle.sc_terms.specs.Trees.{Tree, one}
use Rattle.sc_terms.specs.Tables.{tree}
use Rattle.sc_terms.specs.Folds.{equal_term}
use Rattle.sc_term_definitions.proofs.MakingLaws.{stands_same, puts_start, puts_place, puts_end}
use Rattle.sc_term_definitions.proofs.inputs.put_sign_equations.Goals as goal

pub loop-place-init : goal.loop-place-init
loop-place-init c = puts_start _ _ _ _ 64 (keeps_itself _)

pub loop-place-preserved : goal.loop-place-preserved
loop-place-preserved c =
    let so_far = c.loop-place.invariant in
    let stays = so_far.kept.same c.args.product c.requires in
    let p = c.loop-place.place in
    rw c.in_ok-push.ensures.items
    (puts_place _ _ _ (λ j. equal_term (one (unary.ProductRow 128 63) (tree c.args.terms.now c.args.product)) (one (unary.ProductRow 128 j) (tree c.args.terms.now c.args.product))) _ _ 64 p _ (omega arith) so_far c.in_ok-n.ensures.kept
    (stands_same (λ (t : Tree). equal_term (one (unary.ProductRow 128 63) t) (one (unary.ProductRow 128 p) t)) stays c.in_ok-n.ensures.ok))

pub returns-clause-ok : goal.returns-clause-ok
returns-clause-ok c = puts_end _ _ _ _ _ 64 c.loop-place.place 64 (omega arith) c.loop-place.invariant
