use Rattle.std.proofs.Common.{◌∙◌, ap, map, sym, subst, string_bytes}
use Rattle.std.specs.Str.{chars}
use Rattle.sc_languages.specs.Strings.{AreStrings}
use Rattle.sc_model_names.proofs.table.texts_with.Goals as goal

pub returns : goal.returns
returns c =
    subst (AreStrings c.args.patterns.now c.args.signs.now c.args.wanted)
    (sym (c.in_ok-texts.ensures ∙ ap (map (λ s. chars (string_bytes s))) c.as_slice.ensures.value)) c.in_ok-strings.ensures
