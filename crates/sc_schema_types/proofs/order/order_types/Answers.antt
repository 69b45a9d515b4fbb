use Rattle.std.proofs.Common.{◌∙◌}
use Rattle.std.proofs.lemmas.Result.{MatchResult-at_ok}
use Rattle.sc_schema_types.proofs.OrderedLaws.{all_keyed, order_is, cycle_is}
use Rattle.sc_schema_types.proofs.order.order_types.Goals as goal

pub least_cycle-requires-clause-all : goal.least_cycle-requires-clause-all
least_cycle-requires-clause-all c = all_keyed c.in_ok-bodies.bodies.entries c.as_slice-in-Err.result.now (c.as_slice-in-Err.ensures ∙ c.in_ok-names.ensures.value)

pub returns-in-Ok : goal.returns-in-Ok
returns-in-Ok c = record {
  ok = order_is c.args.schema.now c.in_ok-bodies.bodies.entries c.in_ok-bodies.ensures c.as_slice.result.now c.in-Ok.order (c.as_slice.ensures ∙ c.in_ok-names.ensures.value)
      (MatchResult-at_ok _ _ c.in-Ok.order c.in-Ok.is c.in_ok-order.ensures);
  err = tt;
  once = (MatchResult-at_ok _ _ c.in-Ok.order c.in-Ok.is c.in_ok-order.ensures).2;
}

pub returns-clause-err : goal.returns-clause-err
returns-clause-err c = cycle_is c.args.schema.now c.in_ok-bodies.bodies.entries c.in_ok-bodies.ensures c.in_ok-least-in-Err.least c.in_ok-least-in-Err.ensures
