use Rattle.std.proofs.Common.{ℕ, get_or, sym, arith}
use Rattle.std.proofs.lemmas.Simd.{map-map}
use Rattle.sc_terms.specs.Trees.{Tree}
use Rattle.sc_terms.specs.Tables.{tree}
use Rattle.sc_rule_laws.specs.Terms.{member}
use Rattle.sc_closure_rules.proofs.MakingLaws.{stands_same, puts_same, puts_nothing}
use Rattle.sc_closure_rules.proofs.MemberLaws.{read_at, within_at}
use Rattle.sc_closure_rules.proofs.LoopLaws.{each_next, each_end}
use Rattle.sc_candidates.proofs.memberships.put_in_each.Goals as goal

pub loop-set-init : goal.loop-set-init
loop-set-init c = puts_nothing _ _

pub member-requires-clause-b_in : goal.member-requires-clause-b_in
member-requires-clause-b_in c =
    let i = c.loop-set.set-index in
    let sets = c.args.sets.now in
    omega (arith, within_at _ sets c.requires.sets_in i (get_or sets i 0) c.loop-set-test.true (read_at sets i c.loop-set-test.true), c.loop-set.invariant.kept.longer)

pub loop-set-preserved : goal.loop-set-preserved
loop-set-preserved c =
    let so_far = c.loop-set.invariant in
    let i = c.loop-set.set-index in
    let sets = c.args.sets.now in
    let n = get_or sets i 0 in
    let at = read_at sets i c.loop-set-test.true in
    let n_stays = so_far.kept.same n (within_at _ sets c.requires.sets_in i n c.loop-set-test.true at) in
    let term_stays = so_far.kept.same c.args.term c.requires.term_in in
    each_next (λ (k : ℕ). member (tree c.args.terms.now c.args.term) (tree c.args.terms.now k)) sets _ _ _ _ i so_far _ _ n c.in_ok-m.m c.loop-set-test.true at c.in_ok-m.ensures.kept
    (stands_same (λ (t : Tree). member (tree c.args.terms.now c.args.term) t) n_stays
    (stands_same (λ (t : Tree). member t (tree c.loop-set.terms n)) term_stays c.in_ok-m.ensures.ok))
    c.in_ok-push.ensures.items

pub returns-clause-ok : goal.returns-clause-ok
returns-clause-ok c =
    puts_same _ _ _ _ _ _ (sym (map-map (member (tree c.args.terms.now c.args.term)) (tree c.args.terms.now) c.args.sets.now))
    (each_end (λ (k : ℕ). member (tree c.args.terms.now c.args.term) (tree c.args.terms.now k)) c.args.sets.now _ _ _ _ c.loop-set.set-index c.loop-set.invariant (omega (arith, c.loop-set-test.false)))
