use Rattle.sc_eval.proofs.TextLaws.{has_text_name}
use Rattle.sc_eval.proofs.constants.of_name.Goals as goal

pub returns : goal.returns
returns c = has_text_name c.args.field.now _ c.as_str-name.utf8 c.as_str-name.ensures
