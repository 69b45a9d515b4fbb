use Rattle.sc_terms.specs.Values.{val}
use Rattle.sc_terms.proofs.FoldValues.{not_is, and_is, or_is, choice_is, present_is, bit_is, like_is}
use Rattle.sc_terms.proofs.EqualValues.{equal_is}
use Rattle.sc_terms.proofs.DefaultValues.{held_is, default_is}
use Rattle.sc_terms.proofs.RecordValues.{field_is}
use Rattle.sc_term_laws.proofs.law.value_laws.Goals as goal

pub returns : goal.returns
unfolding val
returns c =
    record {
      negation = not_is;
      both = and_is;
      either = or_is;
      equation = equal_is;
      chosen = choice_is;
      present = present_is;
      held = held_is;
      bit = bit_is;
      like = like_is;
      component = field_is;
      defaults = default_is;
    }
