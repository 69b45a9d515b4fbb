use Rattle.sc_names.proofs.BadNameLaws.{not_path_IsBadAt}
use Rattle.sc_names.proofs.path.read_name.Goals as goal

pub returns-in-Err-clause-path : goal.returns-in-Err-clause-path
returns-in-Err-clause-path c = λ path. absurd (not_path_IsBadAt _ _ c.in-Err.ensures.err (rw c.as_bytes.ensures.value path))
