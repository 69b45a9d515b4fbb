use Rattle.sc_term_definitions.proofs.HoldLaws.{said, addressed}
use Rattle.sc_term_definitions.proofs.InputLaws.{input_is}
use Rattle.sc_term_definitions.proofs.law.definition_laws.Goals as goal

pub returns-clause-inputs : goal.returns-clause-inputs
returns-clause-inputs c = λ d env written x t h has. input_is d env written x t h has

pub returns-clause-hold : goal.returns-clause-hold
returns-clause-hold c =
    λ d env written w x lawful well h. said c.terms_fit.ensures.value c.address_laws.ensures.range c.address_laws.ensures.only d env written w lawful well _ x h

pub returns-clause-addresses : goal.returns-clause-addresses
returns-clause-addresses c =
    λ d env written w x lawful well h. addressed c.terms_fit.ensures.value c.address_laws.ensures.range c.address_laws.ensures.only d env written w lawful well c.address_laws.ensures.clauses x h
