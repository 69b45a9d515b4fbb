use Rattle.std.proofs.Common.{List, get_or, arith}
use Rattle.sc_sorts.specs.declared.node.Node.{Node}
use Rattle.sc_terms.specs.Trees.{Tree}
use Rattle.sc_terms.specs.Tables.{tree}
use Rattle.sc_closure_rules.proofs.MakingLaws.{puts_nothing}
use Rattle.sc_closure_rules.proofs.MemberLaws.{read_at, within_at}
use Rattle.sc_candidates.specs.Ancestors.{both_told}
use Rattle.sc_candidates.proofs.CrowdLoopLaws.{terms_next, terms_end}
use Rattle.sc_candidates.proofs.ancestors.meet_entities.Goals as goal

pub loop-other-init : goal.loop-other-init
loop-other-init c = puts_nothing _ _

pub put_both-requires-clause-other_in : goal.put_both-requires-clause-other_in
put_both-requires-clause-other_in c =
    let i = c.loop-other.other-index in
    let all = c.args.all_above.now in
    omega (arith, within_at _ all c.requires.all_in i (get_or all i 0) c.loop-other-test.true (read_at all i c.loop-other-test.true), c.loop-other.invariant.kept.longer)

pub loop-other-preserved : goal.loop-other-preserved
loop-other-preserved c =
    let kept = c.loop-other.invariant.kept in
    let i = c.loop-other.other-index in
    let all = c.args.all_above.now in
    let n = get_or all i 0 in
    let at = read_at all i c.loop-other-test.true in
    let n_stays = kept.same n (within_at _ all c.requires.all_in i n c.loop-other-test.true at) in
    let above_stays = kept.same c.args.above c.requires.above_in in
    terms_next (λ (xs : List Node) (t : Tree). both_told (tree xs c.args.above) t) all _ _ _ _ i _ _ n c.loop-other.invariant c.loop-other-test.true at (λ j. both_told (above_stays j) (n_stays j))
    c.in_ok-put_both.ensures.ok

pub returns-clause-ok : goal.returns-clause-ok
returns-clause-ok c =
    terms_end (λ (xs : List Node) (t : Tree). both_told (tree xs c.args.above) t) c.args.all_above.now _ _ _ _ c.loop-other.other-index c.loop-other.invariant (omega (arith, c.loop-other-test.false))
