use Rattle.std.proofs.Common.{ap, sym, ◌∙◌, length, subst, refl, List}
use Rattle.std.specs.List.{AllByRecursion}
use Rattle.sc_reduction.specs.Lines.{IsPrintable}
use Rattle.sc_reduction.specs.Reductions.{IsReduction, asked_of}
use Rattle.sc_reduction.specs.declared.fate.Fate.{Fate}
use Rattle.sc_reduction.proofs.PassLaws.{first_pass, is_printable, is_reduction}
use Rattle.sc_reduction.proofs.reducing.reduce.Goals as goal

pub loop-pass-init : goal.loop-pass-init
loop-pass-init c =
    first_pass (asked_of c.args.schema.now c.args.query.now c.args.budget) _ c.len.result (c.in_ok-from_elem.ensures.items_if_clones_equal (λ y e. e)) (c.len.ensures ∙ ap length c.sets.ensures.first) c.new.ensures.items refl

pub returns-clause-reduction : goal.returns-clause-reduction
returns-clause-reduction c =
    subst (λ (fates : List Fate). IsReduction (asked_of c.args.schema.now c.args.query.now c.args.budget) fates) (sym c.from_vec.ensures)
    (is_reduction (asked_of c.args.schema.now c.args.query.now c.args.budget) c.loop-pass.pass c.loop-pass-test.false c.loop-pass.invariant)

pub returns-clause-printable : goal.returns-clause-printable
returns-clause-printable c =
    subst (λ (fates : List Fate). AllByRecursion IsPrintable fates) (sym c.from_vec.ensures)
    (is_printable (asked_of c.args.schema.now c.args.query.now c.args.budget) c.loop-pass.pass c.loop-pass-test.false c.loop-pass.invariant)
