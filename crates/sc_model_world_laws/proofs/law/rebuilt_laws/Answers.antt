use Rattle.sc_model_world_laws.proofs.RequestLaws.{request_among}
use Rattle.sc_model_world_laws.proofs.RowLaws.{holds_model}
use Rattle.sc_model_world_laws.proofs.SoundLaws.{all_sound}
use Rattle.sc_model_world_laws.proofs.law.rebuilt_laws.Goals as goal

pub returns-clause-possible : goal.returns-clause-possible
returns-clause-possible c = λ d env literals goal m lawful is model texts. (
  request_among d env literals goal (λ t h. c.closed_laws.ensures.judged d env literals goal t lawful is h) m model lawful is c.address_laws.ensures.fits texts,
  all_sound d env literals goal (λ t h. c.closed_laws.ensures.judged d env literals goal t lawful is h) m model lawful is c.rebuilding_laws.ensures.equations c.address_laws.ensures.fits texts,
)

pub returns-clause-holds : goal.returns-clause-holds
returns-clause-holds c = λ d env literals goal m w lawful is model rebuilt.
    holds_model d env literals goal (λ t h. c.closed_laws.ensures.judged d env literals goal t lawful is h) m model lawful is c.rebuilding_laws.ensures.equations
    (record { fits = c.address_laws.ensures.fits; bits = c.address_laws.ensures.bits; only_one = c.address_laws.ensures.only; clauses = c.address_laws.ensures.clauses })
    w rebuilt
