use Rattle.std.proofs.Common.{◌∙◌, ap}
use Rattle.sc_lexer.specs.Escapes.{escape_of}
use Rattle.sc_lexer.proofs.UnescapingLaws.{escape_boundary}
use Rattle.sc_lexer.proofs.unescaping.split_escape.Goals as goal

pub range_from-requires : goal.range_from-requires
range_from-requires c = λ h. escape_boundary c.args.text.now c.in-Some.found (c.in-Some.ensures ∙ ap escape_of c.as_bytes.ensures.value) c.utf8.text
