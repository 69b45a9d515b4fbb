use Rattle.std.proofs.Common.{◌∙◌, rules}
use Rattle.std.specs.Char.{IsScalar}
use Rattle.sc_languages.proofs.SearchLaws.{stepped_lost, stepped_seen, stepped_on, stepped_end, stepped_put}
use Rattle.sc_languages.proofs.search.follow_one.Goals as goal

pub returns-then-is_dead-clause-none : goal.returns-then-is_dead-clause-none
returns-then-is_dead-clause-none c = stepped_lost _ _ _ _ _ c.as_slice.result.now (c.as_slice.ensures.value ∙ c.in_ok-next.ensures) _ c.if-is_dead.ensures

pub returns-then-has-clause-none : goal.returns-then-has-clause-none
returns-then-has-clause-none c = stepped_seen _ _ _ _ _ c.as_slice-2.result.now (c.as_slice-2.ensures.value ∙ c.in_ok-next.ensures) _ (c.has.ensures c.if-has.true)

pub returns-then-is_on-clause-none : goal.returns-then-is_on-clause-none
returns-then-is_on-clause-none c =
    stepped_on _ _ _ _ _ c.in_ok-next.next.items c.in_ok-next.ensures c.as_slice-3.result.now (c.as_slice-3.ensures.value ∙ c.in_ok-further.ensures) _ c.if-is_on.ensures

pub returns-then-accepts-clause-found : goal.returns-then-accepts-clause-found
returns-then-accepts-clause-found c =
    let scalar : IsScalar c.args.c = search rules in
    stepped_end _ _ _ _ _ c.as_slice-4.result.now (c.as_slice-4.ensures.value ∙ c.in_ok-next.ensures) c.in_ok-further.further.items c.in_ok-further.ensures scalar c.if-accepts.ensures
    (rw c.as_slice-3.ensures.value at c.if-is_on.ensures)

pub returns-clause-none : goal.returns-clause-none
returns-clause-none c =
    stepped_put _ _ _ _ _ c.in_ok-next.next.items c.in_ok-next.ensures c.in_ok-further.further.items c.in_ok-further.ensures _ _ (rw c.as_slice-4.ensures.value at c.if-accepts.ensures)
    (rw c.as_slice-3.ensures.value at c.if-is_on.ensures) c.in_ok-put.ensures
