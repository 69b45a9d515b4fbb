use Rattle.std.proofs.Common.{◌≡◌, ◌+◌, suc, get_or, false, ap, sym, ◌∙◌, arith, ℕ}
use Rattle.sc_bits.specs.Blocks.{length_below}
use Rattle.sc_bits.proofs.BlockLaws.{length-zero, length-true, length-false}
use Rattle.sc_bits.proofs.address.prefix.Goals as goal
use Rattle.sc_bits.proofs.address.prefix.Goals.{then-bits-from, else-bits-from}

pub loop-j-init : goal.loop-j-init
loop-j-init c = sym (length-zero (λ j. get_or c.args.bits.now (1 + j) false))

pub loop-j-preserved : goal.loop-j-preserved
loop-j-preserved c =
    let f = λ (j : ℕ). get_or c.args.bits.now (1 + j) false in
    let next : c.loop-j.j + 1 ≡ suc c.loop-j.j = omega arith in
    elim c.if-bits-from.branch [
      | then-bits-from w ↦ w.length-is ∙ next ∙ sym (length-true f c.loop-j.j (ap f (sym c.from.ensures) ∙ w.if-bits-from.true)) ∙ ap (length_below f) (sym next)
      | else-bits-from w ↦ w.length-is ∙ c.loop-j.invariant ∙ sym (length-false f c.loop-j.j (ap f (sym c.from.ensures) ∙ w.if-bits-from.false)) ∙ ap (length_below f) (sym next)
    ]
