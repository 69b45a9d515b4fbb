use Rattle.std.proofs.Common.{ℕ, get_or, arith}
use Rattle.sc_terms.specs.Trees.{Tree}
use Rattle.sc_terms.specs.Tables.{tree}
use Rattle.sc_rule_laws.specs.Terms.{member}
use Rattle.sc_term_definitions.proofs.MakingLaws.{stands_same, puts_same, puts_nothing}
use Rattle.sc_term_definitions.proofs.MemberLaws.{read_at, within_at}
use Rattle.sc_closure_rules.proofs.LoopLaws.{each_next, each_end}
use Rattle.sc_closure_rules.proofs.StandingLaws.{each_stood}
use Rattle.sc_closure_rules.proofs.sets.put_memberships.Goals as goal

pub loop-other-init : goal.loop-other-init
loop-other-init c = puts_nothing _ _

pub loop-other-preserved : goal.loop-other-preserved
loop-other-preserved c =
    let so_far = c.loop-other.invariant in
    let i = c.loop-other.other-index in
    let others = c.args.others.now in
    let m = get_or others i 0 in
    let at = read_at others i c.loop-other-test.true in
    let other_stays = so_far.kept.same m (within_at _ others c.requires.others_in i m c.loop-other-test.true at) in
    let set_stays = so_far.kept.same c.args.set c.requires.set_in in
    each_next (λ (k : ℕ). member (tree c.args.terms.now k) (tree c.args.terms.now c.args.set)) others _ _ _ _ i so_far _ _ m c.in_ok-m.m c.loop-other-test.true at c.in_ok-m.ensures.kept
    (stands_same (λ (t : Tree). member t (tree c.args.terms.now c.args.set)) other_stays
    (stands_same (λ (t : Tree). member (tree c.loop-other.terms m) t) set_stays c.in_ok-m.ensures.ok))
    c.in_ok-push.ensures.items

pub returns-clause-ok : goal.returns-clause-ok
returns-clause-ok c =
    puts_same _ _ _ _ _ _ (each_stood (λ (t : Tree). member t (tree c.args.terms.now c.args.set)) c.args.terms.now c.args.others.now)
    (each_end (λ (k : ℕ). member (tree c.args.terms.now k) (tree c.args.terms.now c.args.set)) c.args.others.now _ _ _ _ c.loop-other.other-index c.loop-other.invariant (omega (arith, c.loop-other-test.false)))
