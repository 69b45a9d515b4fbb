use Rattle.std.proofs.Common.{◌∙◌, ap}
use Rattle.sc_names.specs.Paths.{is_path}
use Rattle.sc_names.proofs.PartsLaws.{is_path_not}
use Rattle.sc_names.proofs.path.is_path.Goals as goal

pub returns-in-Err : goal.returns-in-Err
returns-in-Err c = is_path_not _ _ c.in-Err.ensures.err ∙ ap is_path c.as_bytes.ensures.value
