use Rattle.std.proofs.Common.{◌≡◌, ◌<◌, ◌^◌, ap, ◌+◌, ◌-◌, get_or, false, sym, ◌∙◌, arith, ℕ}
use Rattle.sc_bits.proofs.NumberLaws.{number-zero, number-lt, number-next, number-skip}
use Rattle.sc_bits.specs.Bits.{number}
use Rattle.sc_bits.proofs.address.address.Goals as goal
use Rattle.sc_bits.proofs.address.address.Goals.{then-bits-width, else-bits-width}

pub loop-i-init : goal.loop-i-init
loop-i-init c = sym (number-zero (λ i. get_or c.args.bits.now (129 + (c.args.width - 1 - i)) false))

pub overflow_add-number : goal.overflow_add-number
overflow_add-number c =
    let below : c.loop-i.i < 128 = omega arith in
    record { fits = (number-next 128 (λ i. get_or c.args.bits.now (129 + (c.args.width - 1 - i)) false) c.loop-i.number c.loop-i.i below c.loop-i.invariant c.if-bits-width.true).1 }

pub loop-i-preserved : goal.loop-i-preserved
loop-i-preserved c =
    let below : c.loop-i.i < 128 = omega arith in
    let f = λ (i : ℕ). get_or c.args.bits.now (129 + (c.args.width - 1 - i)) false in
    elim c.if-bits-width.branch [
      | then-bits-width w ↦ w.number-is ∙ (number-next 128 f c.loop-i.number c.loop-i.i below c.loop-i.invariant w.if-bits-width.true).0
      | else-bits-width w ↦ w.number-is ∙ number-skip f c.loop-i.number c.loop-i.i c.loop-i.invariant w.if-bits-width.false
    ]

pub returns-clause-below : goal.returns-clause-below
returns-clause-below c =
    let f = λ (i : ℕ). get_or c.args.bits.now (129 + (c.args.width - 1 - i)) false in
    let end : c.loop-i.i ≡ c.args.width = omega arith in
    let so_far : c.loop-i.number ≡ number f c.loop-i.i = c.loop-i.invariant in
    omega (arith, number-lt f c.loop-i.i, ap (λ k. 2 ^ k) end)
