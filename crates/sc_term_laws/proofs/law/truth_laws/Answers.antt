use Rattle.sc_terms.proofs.FoldValues.{not_truth, and_truth, or_truth}
use Rattle.sc_terms.proofs.EqualValues.{equal_bools, equal_others}
use Rattle.sc_terms.proofs.JoinedLaws.{all_true, any_true}
use Rattle.sc_term_laws.proofs.law.truth_laws.Goals as goal

pub returns : goal.returns
returns c =
    record {
      negation = not_truth;
      both = and_truth;
      either = or_truth;
      bools = equal_bools;
      others = equal_others;
      all = λ ts w. all_true w ts;
      any = λ ts w. any_true w ts;
    }
