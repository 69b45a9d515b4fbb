use Rattle.sc_term_laws.proofs.DefaultMade.{default_made, held_made}
use Rattle.sc_term_laws.proofs.MadeLaws.{not_made, and_made, or_made, choice_made, equal_made, field_made, present_made, bit_made, like_made, all_made, any_made}
use Rattle.sc_term_laws.proofs.law.made_laws.Goals as goal

pub returns : goal.returns
returns c =
    record {
      negation = not_made;
      both = and_made;
      either = or_made;
      chosen = choice_made;
      equation = equal_made;
      component = field_made;
      present = present_made;
      held = held_made;
      bit = bit_made;
      like = like_made;
      all = all_made;
      any = any_made;
      defaults = default_made;
    }
