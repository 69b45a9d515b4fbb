use Rattle.th_strings_instances.proofs.InstanceLaws.{string_lawful, string_sound, string_written}
use Rattle.th_strings_instances.proofs.laws.string_laws.Goals as goal

pub returns : goal.returns
returns c =
    let laws = c.problem_laws.ensures.terms in
    record {
      lawful = λ p i. string_lawful p i laws;
      sound = λ p i w. string_sound p i w laws;
      written = string_written;
    }
