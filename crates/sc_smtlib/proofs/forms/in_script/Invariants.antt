use Rattle.std.proofs.Common.{◌≡◌, ◌<◌, ℕ, true}
use Rattle.sc_smtlib.specs.Spoken.{is_spoken}
use Rattle.sc_smtlib.proofs.forms.in_script.Given as goal

abbrev pub invariant-loop-n : goal.invariant-loop-n
invariant-loop-n l = (m : ℕ) → m < l.n → is_spoken l.fn.terms l.marks.items m ≡ true
