use Rattle.std.proofs.Common.{IsUtf8, subst}
use Rattle.sc_eval.proofs.constants.of_uid.Goals as goal

pub returns : goal.returns
returns c = (subst IsUtf8 c.as_str-name.ensures c.as_str-name.utf8, subst IsUtf8 c.as_str-id.ensures c.as_str-id.utf8)
