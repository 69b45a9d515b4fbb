use Rattle.std.proofs.Common.{string_bytes}
use Rattle.sc_languages.proofs.TextLaws.{text_back}
use Rattle.sc_languages.proofs.strings.text_of.Goals as goal

pub returns : goal.returns
returns c = text_back c.args.word.now (string_bytes c.loop-c.text) c.loop-c.c-index c.requires c.loop-c-test.false c.loop-c.invariant
