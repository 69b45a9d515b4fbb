use Rattle.std.proofs.Common.{sym, subst, arith, rules}
use Rattle.sc_closure.specs.Making.{IsSomeTerm}
use Rattle.sc_footprint.proofs.CompanionLaws.{listing_start, listing_step, listing_end}
use Rattle.sc_footprint.proofs.companions.companions_of.Goals as goal

pub loop-term-init : goal.loop-term-init
loop-term-init c = listing_start _ _ _ _ _ _ (search rules) c.new-spans.ensures.items c.new-numbers.ensures.items c.requires.within c.requires.terms

pub put_following-requires-clause-within : goal.put_following-requires-clause-within
put_following-requires-clause-within c =
    let so_far = rw c.in-Some.ensures.steps at c.loop-term.invariant in
    omega (arith, so_far.rest_within.0, so_far.kept.longer)

pub put_following-requires-clause-term : goal.put_following-requires-clause-term
put_following-requires-clause-term c =
    let so_far = rw c.in-Some.ensures.steps at c.loop-term.invariant in
    subst IsSomeTerm (sym (so_far.kept.same _ so_far.rest_within.0)) so_far.rest_terms.0

pub loop-term-preserved : goal.loop-term-preserved
loop-term-preserved c =
    let so_far = rw c.in-Some.ensures.steps at c.loop-term.invariant in
    rw c.in_ok-push.ensures.items (listing_step _ _ _ _ _ _ _ _ _ _ _ so_far c.in_ok-put_following.ensures.ok (search rules) (search rules) (search rules))

pub returns-clause-ok : goal.returns-clause-ok
returns-clause-ok c = listing_end _ _ _ _ _ _ _ c.in-None.ensures.steps.0 c.loop-term.invariant

pub returns-clause-small : goal.returns-clause-small
returns-clause-small c = omega (arith, c.as_slice-all.type_inv.1, c.as_slice-all.ensures)
