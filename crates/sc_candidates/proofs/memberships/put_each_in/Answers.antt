use Rattle.std.proofs.Common.{ℕ, get_or, sym, arith}
use Rattle.std.proofs.lemmas.Simd.{map-map}
use Rattle.sc_terms.specs.Trees.{Tree}
use Rattle.sc_terms.specs.Tables.{tree}
use Rattle.sc_rule_laws.specs.Terms.{member}
use Rattle.sc_closure_rules.proofs.MakingLaws.{stands_same, puts_same, puts_nothing}
use Rattle.sc_closure_rules.proofs.MemberLaws.{read_at, within_at}
use Rattle.sc_closure_rules.proofs.LoopLaws.{each_next, each_end}
use Rattle.sc_candidates.proofs.memberships.put_each_in.Goals as goal

pub loop-member-init : goal.loop-member-init
loop-member-init c = puts_nothing _ _

pub member-requires-clause-a_in : goal.member-requires-clause-a_in
member-requires-clause-a_in c =
    let i = c.loop-member.member-index in
    let members = c.args.members.now in
    omega (arith, within_at _ members c.requires.members_in i (get_or members i 0) c.loop-member-test.true (read_at members i c.loop-member-test.true), c.loop-member.invariant.kept.longer)

pub loop-member-preserved : goal.loop-member-preserved
loop-member-preserved c =
    let so_far = c.loop-member.invariant in
    let i = c.loop-member.member-index in
    let members = c.args.members.now in
    let n = get_or members i 0 in
    let at = read_at members i c.loop-member-test.true in
    let n_stays = so_far.kept.same n (within_at _ members c.requires.members_in i n c.loop-member-test.true at) in
    let set_stays = so_far.kept.same c.args.set c.requires.set_in in
    each_next (λ (k : ℕ). member (tree c.args.terms.now k) (tree c.args.terms.now c.args.set)) members _ _ _ _ i so_far _ _ n c.in_ok-m.m c.loop-member-test.true at c.in_ok-m.ensures.kept
    (stands_same (λ (t : Tree). member t (tree c.args.terms.now c.args.set)) n_stays
    (stands_same (λ (t : Tree). member (tree c.loop-member.terms n) t) set_stays c.in_ok-m.ensures.ok))
    c.in_ok-push.ensures.items

pub returns-clause-ok : goal.returns-clause-ok
returns-clause-ok c =
    puts_same _ _ _ _ _ _ (sym (map-map (λ (t : Tree). member t (tree c.args.terms.now c.args.set)) (tree c.args.terms.now) c.args.members.now))
    (each_end (λ (k : ℕ). member (tree c.args.terms.now k) (tree c.args.terms.now c.args.set)) c.args.members.now _ _ _ _ c.loop-member.member-index c.loop-member.invariant (omega (arith, c.loop-member-test.false)))
