use Rattle.std.proofs.Common.{◌≡◌, true, ⊎_elim, rules, sym, subst}
use Rattle.sc_laws.proofs.NumberLaws.{last_or_before}
use Rattle.sc_smtlib.specs.Spoken.{is_spoken}
use Rattle.sc_smtlib.proofs.FormLaws.{all_spoken, one_unspoken}
use Rattle.sc_smtlib.proofs.forms.in_script.Goals as goal

pub loop-n-preserved : goal.loop-n-preserved
loop-n-preserved c = λ m less.
    let here : is_spoken c.args.terms.now c.in_ok-marks.marks.items c.loop-n.n ≡ true = search rules in
    ⊎_elim (λ l. c.loop-n.invariant m l)
    (λ (same : m ≡ c.loop-n.n). subst (λ z. is_spoken c.args.terms.now c.in_ok-marks.marks.items z ≡ true) (sym same) here)
    (last_or_before m c.loop-n.n less)

pub returns-then-not-is_spoken : goal.returns-then-not-is_spoken
returns-then-not-is_spoken c = one_unspoken _ _ c.loop-n.n _ c.in_ok-marks.ensures (search rules)

pub returns : goal.returns
returns c = all_spoken _ _ _ c.in_ok-marks.ensures (search rules)
