use Rattle.std.proofs.Common.{◌<◌, ◌*◌, arith}
use Rattle.sc_decimal.proofs.DecimalLaws.{fraction-lt, number-lt}
use Rattle.sc_decimal.proofs.read.ten_thousandths.Goals as goal

pub returns-in_err-number : goal.returns-in_err-number
returns-in_err-number c = rw c.from_residual.ensures (λ h. c.in_err-number.ensures (h.0, (let l = number-lt c.args.fraction.now h.0.1 h.1 in omega arith)))

pub overflow_mul-result : goal.overflow_mul-result
overflow_mul-result c = let l = fraction-lt c.args.fraction.now c.in_ok-number.ensures.0.0.1 (omega arith) in let v = c.in_ok-number.ensures.1 in let p = c.pow.ensures in let e : c.in_ok-number.field-0 * c.pow.result < 10000 = rw (v, p) l in omega arith
