use Rattle.std.proofs.Common.{◌∙◌, string_bytes}
use Rattle.std.specs.Str.{chars}
use Rattle.sc_languages.proofs.ListLaws.{Has-read}
use Rattle.sc_languages.proofs.TextLaws.{texts_next}
use Rattle.sc_languages.proofs.strings.texts_of.Goals as goal

pub text_of-requires : goal.text_of-requires
text_of-requires c = rw c.as_slice.ensures (c.requires _ (Has-read _ c.loop-word.word-index c.word-item.result c.loop-word-test.true c.word-item.is))

pub loop-word-preserved : goal.loop-word-preserved
loop-word-preserved c =
    texts_next (λ s. chars (string_bytes s)) _ _ c.in_ok-text.text _ c.loop-word.word-index c.word-item.result c.loop-word-test.true c.word-item.is
    (c.in_ok-text.ensures ∙ c.as_slice.ensures) c.in_ok-push.ensures.items c.loop-word.invariant
