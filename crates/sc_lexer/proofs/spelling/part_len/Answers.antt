use Rattle.std.proofs.Common.{◌∙◌, sym, arith}
use Rattle.sc_lexer.proofs.SpellingLaws.{IsPart_escape}
use Rattle.sc_lexer.proofs.spelling.part_len.Goals as goal

pub overflow_add-result : goal.overflow_add-result
overflow_add-result c =
    let part = IsPart_escape c.args.like c.args.bytes.now c.in-Some.found c.requires c.if-bytes-ne92.false c.in-Some.ensures (sym c.allows.ensures ∙ c.if-not-allows.false) in
    omega (arith, part.within)

pub returns-clause-some : goal.returns-clause-some
returns-clause-some c = IsPart_escape c.args.like c.args.bytes.now c.in-Some.found c.requires c.if-bytes-ne92.false c.in-Some.ensures (sym c.allows.ensures ∙ c.if-not-allows.false)
