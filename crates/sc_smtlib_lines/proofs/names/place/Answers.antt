use Rattle.std.proofs.Common.{◌∙◌}
use Rattle.sc_smtlib_lines.proofs.PlaceLaws.{place_same}
use Rattle.sc_smtlib_lines.proofs.names.place.Goals as goal

pub returns : goal.returns
returns c = c.place_in.ensures ∙ place_same _ _ _ c.requires.named.table c.requires.named.within c.requires.within
