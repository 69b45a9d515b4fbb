use Rattle.sc_names.proofs.BadNameLaws.{not_path_IsBadAt}
use Rattle.sc_names.proofs.path.bad_name_laws.Goals as goal

pub returns-clause-none : goal.returns-clause-none
returns-clause-none c = not_path_IsBadAt
