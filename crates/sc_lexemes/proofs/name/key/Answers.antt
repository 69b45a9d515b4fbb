use Rattle.std.proofs.Common.{sym, ◌∙◌}
use Rattle.sc_lexemes.proofs.KeyLaws.{ident_read}
use Rattle.sc_lexemes.proofs.name.key.Goals as goal

pub returns-in-Some-clause-ok : goal.returns-in-Some-clause-ok
returns-in-Some-clause-ok c = λ fs k. rw c.in_ok-from_str.ensures (ident_read c.in-Some.ensures.found (sym c.if-not-fits.ensures) (sym c.if-not-branch.false ∙ c.in_ok-put_key.ensures.added fs k) c.next.ensures)
