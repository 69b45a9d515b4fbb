use Rattle.sc_model_laws.proofs.CoveredLaws.{plain_covered}
use Rattle.sc_model_laws.proofs.RebuildLaws.{equations_agree, terms_are_right, truths_are_right}
use Rattle.sc_model_laws.proofs.law.rebuilding_laws.Goals as goal

pub returns-clause-equations : goal.returns-clause-equations
returns-clause-equations c = equations_agree c.closed_laws.ensures.judged (record {
  fits = c.address_laws.ensures.fits;
  bits = c.address_laws.ensures.bits;
  only = c.address_laws.ensures.only;
  clauses = c.address_laws.ensures.clauses;
  range = c.address_laws.ensures.rebuilt_range;
})

pub returns-clause-terms : goal.returns-clause-terms
returns-clause-terms c = terms_are_right c.closed_laws.ensures.judged (record {
  fits = c.address_laws.ensures.fits;
  bits = c.address_laws.ensures.bits;
  only = c.address_laws.ensures.only;
  clauses = c.address_laws.ensures.clauses;
  range = c.address_laws.ensures.rebuilt_range;
})

pub returns-clause-covered : goal.returns-clause-covered
returns-clause-covered c = plain_covered

pub returns-clause-truths : goal.returns-clause-truths
returns-clause-truths c = truths_are_right c.closed_laws.ensures.judged (record {
  fits = c.address_laws.ensures.fits;
  bits = c.address_laws.ensures.bits;
  only = c.address_laws.ensures.only;
  clauses = c.address_laws.ensures.clauses;
  range = c.address_laws.ensures.rebuilt_range;
})
