use Rattle.std.proofs.Common.{List, get_or, append-nil, arith}
use Rattle.sc_sorts.specs.declared.node.Node.{Node}
use Rattle.sc_terms.specs.Trees.{Tree}
use Rattle.sc_terms.specs.Tables.{tree}
use Rattle.sc_closure_rules.proofs.MakingLaws.{puts_nothing, puts_same}
use Rattle.sc_closure_rules.proofs.MemberLaws.{read_at, within_at}
use Rattle.sc_candidates.specs.Ancestors.{up_of}
use Rattle.sc_candidates.proofs.CrowdLoopLaws.{terms_next, terms_end}
use Rattle.sc_candidates.proofs.ancestors.meet_above.Goals as goal

pub loop-above-init : goal.loop-above-init
loop-above-init c = puts_nothing _ _

pub put_up-requires-clause-above_in : goal.put_up-requires-clause-above_in
put_up-requires-clause-above_in c =
    let i = c.loop-above.above-index in
    let all = c.args.all_above.now in
    omega (arith, within_at _ all c.requires.all_in i (get_or all i 0) c.loop-above-test.true (read_at all i c.loop-above-test.true), c.loop-above.invariant.kept.longer)

pub loop-above-preserved : goal.loop-above-preserved
loop-above-preserved c =
    let kept = c.loop-above.invariant.kept in
    let i = c.loop-above.above-index in
    let all = c.args.all_above.now in
    let n = get_or all i 0 in
    let at = read_at all i c.loop-above-test.true in
    let n_stays = kept.same n (within_at _ all c.requires.all_in i n c.loop-above-test.true at) in
    let set_stays = kept.same c.args.set c.requires.set_in in
    let term_stays = kept.same c.args.term c.requires.term_in in
    terms_next (λ (xs : List Node) (t : Tree). up_of (tree xs c.args.term) (tree xs c.args.set) t) all _ _ _ _ i _ _ n c.loop-above.invariant c.loop-above-test.true at
    (λ j. up_of (term_stays j) (set_stays j) (n_stays j)) (puts_same _ _ _ _ _ _ (append-nil _) c.in_ok-put_up.ensures.ok)

pub returns-clause-ok : goal.returns-clause-ok
returns-clause-ok c =
    terms_end (λ (xs : List Node) (t : Tree). up_of (tree xs c.args.term) (tree xs c.args.set) t) c.args.all_above.now _ _ _ _ c.loop-above.above-index c.loop-above.invariant
    (omega (arith, c.loop-above-test.false))
