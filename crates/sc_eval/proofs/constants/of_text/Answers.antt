use Rattle.std.proofs.Common.{IsUtf8, subst}
use Rattle.sc_eval.proofs.constants.of_text.Goals as goal

pub returns : goal.returns
returns c = subst IsUtf8 c.as_str-text.ensures c.as_str-text.utf8
