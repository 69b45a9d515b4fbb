use Rattle.std.proofs.Common.{refl}
use Rattle.sc_terms.specs.TreeSorts.{tree_sort}
use Rattle.sc_model_laws.proofs.ConformingLaws.{fits_conforms}
use Rattle.sc_model_laws.proofs.FittingLaws.{values_fit}
use Rattle.sc_model_laws.proofs.value_law.model_value_laws.Goals as goal

pub returns-clause-values : goal.returns-clause-values
returns-clause-values c = λ d env literals goal m es x lawful is model named closed.
    values_fit d env literals goal (λ t h. c.closed_laws.ensures.judged d env literals goal t lawful is h) m model lawful is c.address_laws.ensures.fits es named (tree_sort x) x closed refl

pub returns-clause-conform : goal.returns-clause-conform
returns-clause-conform c = fits_conforms
