use Rattle.sc_term_laws.proofs.UnfoldedLaws.{not_stays, and_stays, or_stays, choice_stays, equal_stays, field_stays, present_stays, held_stays, bit_stays, like_stays}
use Rattle.sc_term_laws.proofs.law.unfolded_laws.Goals as goal

pub returns : goal.returns
returns c =
    record {
      negation = not_stays;
      both = and_stays;
      either = or_stays;
      chosen = choice_stays;
      equation = equal_stays;
      component = field_stays;
      present = present_stays;
      held = held_stays;
      bit = bit_stays;
      like = like_stays;
    }
