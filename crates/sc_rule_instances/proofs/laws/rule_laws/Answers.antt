use Rattle.sc_rule_instances.proofs.InstanceLaws.{equal_lawful, set_lawful, entity_lawful, equal_sound, set_sound, entity_sound}
use Rattle.sc_rule_instances.proofs.laws.rule_laws.Goals as goal

pub returns : goal.returns
returns c =
    let laws = c.problem_laws.ensures.terms in
    record {
      equal = λ p i. equal_lawful p i laws;
      equal_true = λ p i w. equal_sound p i w laws;
      set = λ p i. set_lawful p i laws;
      set_true = λ p i w. set_sound p i w laws;
      entity = λ p i. entity_lawful p i laws;
      entity_true = λ p i w. entity_sound p i w laws;
    }
