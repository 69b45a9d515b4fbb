use Rattle.std.proofs.Common.{◌∙◌, sym, subst}
use Rattle.std.specs.Str.{IsUtf8}
use Rattle.sc_lexer.proofs.UnescapingLaws.{pieces_ok, pieces_empty}
use Rattle.sc_lexer.proofs.unescaping.read_pieces.Goals as goal

pub returns-in-Ok : goal.returns-in-Ok
returns-in-Ok c =
    let text = c.in-Ok.ensures.cases in
    pieces_ok _ _ _ (text.0 ∙ c.quoted.ensures) (subst IsUtf8 c.quoted.ensures text.1) c.text_pieces.ensures

pub returns-in-Err : goal.returns-in-Err
returns-in-Err c =
    let none = c.in-Err.ensures.cases.0 in
    c.new.ensures ∙ pieces_empty _ (λ u. none (subst IsUtf8 (sym c.quoted.ensures) u))
