use Rattle.std.proofs.Common.{arith}
use Rattle.std.proofs.lemmas.Int.{ints}
use Rattle.sc_date_texts.proofs.DateLaws.{zone_utc, zone_east, zone_west, offset_bound}
use Rattle.sc_date_texts.proofs.datetime.zone.Goals as goal

pub returns-in-90-clause-some : goal.returns-in-90-clause-some
returns-in-90-clause-some c = zone_utc _ _ _ c.in_ok-first.ensures.cases.0 c.in-90.is (let e = c.if-is_empty.ensures in grind arith)

pub returns-in_ok-offset-in-43-clause-some : goal.returns-in_ok-offset-in-43-clause-some
returns-in_ok-offset-in-43-clause-some c = zone_east _ _ _ _ _ c.in_ok-first.ensures.cases.0 c.in-43.is c.in_ok-offset-in-43.ensures.some (omega (arith, ints))

pub returns-in_ok-offset-in-45-clause-some : goal.returns-in_ok-offset-in-45-clause-some
returns-in_ok-offset-in-45-clause-some c =
    let b = offset_bound _ _ c.in_ok-offset-in-45.ensures.some in
    zone_west _ _ _ _ _ c.in_ok-first.ensures.cases.0 c.in-45.is c.in_ok-offset-in-45.ensures.some (omega (arith, ints))
