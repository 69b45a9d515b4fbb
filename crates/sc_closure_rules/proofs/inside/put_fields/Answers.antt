use Rattle.std.proofs.Common.{ℕ, List, arith}
use Rattle.sc_terms.specs.Trees.{Tree}
use Rattle.sc_terms.specs.Tables.{tree}
use Rattle.sc_terms.specs.Folds.{field_term}
use Rattle.sc_term_definitions.proofs.MakingLaws.{stands_same, puts_nothing}
use Rattle.sc_closure_rules.proofs.LoopLaws.{each_next, each_end}
use Rattle.sc_closure_rules.proofs.inside.put_fields.Goals as goal

pub loop-name-init : goal.loop-name-init
loop-name-init c = puts_nothing _ _

pub loop-name-preserved : goal.loop-name-preserved
loop-name-preserved c =
    let so_far = c.loop-name.invariant in
    let stays = so_far.kept.same c.args.n c.requires in
    each_next (λ (name : List ℕ). field_term name (tree c.args.terms.now c.args.n)) c.args.names.now _ _ _ _ c.loop-name.name-index so_far _ _ c.name-item.result c.in_ok-m.m c.loop-name-test.true c.name-item.is c.in_ok-m.ensures.kept
    (stands_same (λ (t : Tree). field_term c.name-item.result t) stays c.in_ok-m.ensures.ok)
    c.in_ok-push.ensures.items

pub returns-clause-ok : goal.returns-clause-ok
returns-clause-ok c = each_end (λ (name : List ℕ). field_term name (tree c.args.terms.now c.args.n)) c.args.names.now _ _ _ _ c.loop-name.name-index c.loop-name.invariant (omega (arith, c.loop-name-test.false))
