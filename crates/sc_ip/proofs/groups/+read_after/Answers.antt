use Rattle.sc_ip.proofs.GroupLaws.{parts_at, lacks_at, first_of, single_of, adds_one, some_more, none_more}
use Rattle.sc_ip.proofs.groups.+read_after.Goals as goal

pub returns-in_err-number-in-Some-clause-none : goal.returns-in_err-number-in-Some-clause-none
returns-in_err-number-in-Some-clause-none t c = rw c.from_residual.ensures (λ numbers g some room.
    let parts = parts_at c.args.notation _ _ (c.in-Some.group, c.in-Some.rest) c.separator.ensures c.in-Some.ensures.cases in
    let f = first_of c.args.notation c.args.text.now _ _ numbers parts.0 parts.1 g some in
    c.in_err-number-in-Some.ensures.none f.first f.first_group)

pub returns-in_err-number-in-None-clause-none : goal.returns-in_err-number-in-None-clause-none
returns-in_err-number-in-None-clause-none t c = rw c.from_residual-in_err-number-in-None.ensures (λ numbers g some room.
    let lacks = lacks_at c.args.notation _ c.args.text.now c.separator.ensures c.in-None.ensures.cases in
    let f = single_of c.args.notation c.args.text.now numbers lacks g some in
    c.in_err-number-in-None.ensures.none f.0 f.1)

pub returns-in_ok-number-in-Some-clause-some : goal.returns-in_ok-number-in-Some-clause-some
returns-in_ok-number-in-Some-clause-some t c =
    let parts = parts_at c.args.notation _ c.args.text.now (c.in-Some.group, c.in-Some.rest) c.separator.ensures c.in-Some.ensures.cases in
    some_more c.args.notation c.args.text.now _ _ c.in_ok-number-in-Some.number c.args.before.value c.args.before.count _ c.read_after.result (λ g. g.value) (λ g. g.count)
    parts.0 c.in_ok-number-in-Some.ensures.some c.followed_by.ensures.count (rw c.followed_by.ensures.value at c.read_after.ensures.some)

pub returns-in_ok-number-in-Some-clause-none : goal.returns-in_ok-number-in-Some-clause-none
returns-in_ok-number-in-Some-clause-none t c =
    let parts = parts_at c.args.notation _ c.args.text.now (c.in-Some.group, c.in-Some.rest) c.separator.ensures c.in-Some.ensures.cases in
    none_more c.args.notation c.args.text.now _ _ c.args.before.count _ c.read_after.result parts.0 parts.1 c.followed_by.ensures.count c.read_after.ensures.none

pub returns-in_ok-number-in-None-clause-some : goal.returns-in_ok-number-in-None-clause-some
returns-in_ok-number-in-None-clause-some t c =
    rw (c.followed_by-in-None.ensures.value, c.followed_by-in-None.ensures.count) (adds_one c.args.notation c.args.text.now c.in_ok-number-in-None.number _ _ c.in_ok-number-in-None.ensures.some)
