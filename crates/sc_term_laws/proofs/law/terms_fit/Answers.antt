use Rattle.sc_term_laws.proofs.TermsFitLaws.{value_fits, kinds_are}
use Rattle.sc_term_laws.proofs.law.terms_fit.Goals as goal

pub returns : goal.returns
returns c =
    record {
      value = λ d env written w k t lawful well h. value_fits d env written w lawful well k t h;
      kinds = λ d env written w k t lawful well h. kinds_are d env written w lawful well k t h;
    }
