use Rattle.std.proofs.Common.{rules, sym, arith}
use Rattle.sc_parser.proofs.FieldLaws.{field_read, field_more}
use Rattle.sc_parser.proofs.CallLaws.{arguments_refused, call_refused}
use Rattle.sc_parser.proofs.PrefixLaws.{prefix_refused}
use Rattle.sc_parser.proofs.StopLaws.{handed_on}
use Rattle.sc_parser.proofs.+read.Goals as goal

pub items::fields-returns-in-Some-sign_at-2-clause-ok : goal.items::fields-returns-in-Some-sign_at-2-clause-ok
items::fields-returns-in-Some-sign_at-2-clause-ok t c = c.loop-fs.invariant.rest _ (field_read c.in_default.ensures.lacks (c.in_ok-name.ensures.ok _ c.loop-fs.invariant.keys) c.in-Some-sign_at.ensures.found c.next.ensures c.in_ok-value.ensures.ok c.in-Some-sign_at-2.ensures.found c.into_inner.ensures c.in_ok-push.ensures.ok)

pub prefix::prefixes-returns-in_err-x-clause-err : goal.prefix::prefixes-returns-in_err-x-clause-err
prefix::prefixes-returns-in_err-x-clause-err t c = handed_on _ _ _ c.from_residual-in_err-x.ensures.1 (λ n. prefix_refused (omega arith) c.in-Some.ensures.found (sym c.if-not-fits.ensures) c.past.ensures c.in_default-least_behind.ensures.lacks (c.in_err-x.ensures.err n))

pub primary::function-returns-in_err-arguments-clause-err : goal.primary::function-returns-in_err-arguments-clause-err
primary::function-returns-in_err-arguments-clause-err t c = handed_on _ _ _ c.from_residual.ensures.1 (λ n. arguments_refused c.requires.1.1.0 c.requires.1.1.1.0 c.requires.1.1.1.1.1.0 c.next.ensures c.in-Some.ensures.found c.next-2.ensures (c.in_err-arguments.ensures.err n))

pub items::fields-loop-fs-preserved : goal.items::fields-loop-fs-preserved
items::fields-loop-fs-preserved t c = record {
  forward = search rules;
  within = search rules;
  keys = rw c.in_ok-push.ensures.ok (c.in_ok-name.ensures.keys _ _ c.loop-fs.invariant.keys);
  rest = λ o h. c.loop-fs.invariant.rest o (field_more c.in_default.ensures.lacks (c.in_ok-name.ensures.ok _ c.loop-fs.invariant.keys) c.in-Some-sign_at.ensures.found c.next.ensures c.in_ok-value.ensures.ok c.in-Some-sign_at-3.ensures.found c.next-in-loop-fs.ensures c.into_inner.ensures c.in_ok-push.ensures.ok h);
}

pub primary::function-returns-in_default-2-clause-err : goal.primary::function-returns-in_default-2-clause-err
primary::function-returns-in_default-2-clause-err t c = λ n. call_refused c.requires.1.1.0 c.requires.1.1.1.0 c.requires.1.1.1.1.1.0 c.next.ensures c.in-Some.ensures.found c.next-2.ensures c.in_ok-arguments.ensures.ok c.in_ok-call.ensures c.in_default-2.is
