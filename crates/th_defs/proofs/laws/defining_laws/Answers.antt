use Rattle.th_defs.specs.Laws.{has_laws, clause_lawful, clause_true}
use Rattle.th_defs.proofs.CountLaws.{few_defining}
use Rattle.th_defs.proofs.laws.defining_laws.Goals as goal

pub returns : goal.returns
returns c = record {
  lawful = λ p d posed h. clause_lawful p (has_laws c.problem_laws.ensures.terms p posed) d h;
  holds = λ p w d posed s h. clause_true p (has_laws c.problem_laws.ensures.terms p posed) w d s h;
  few = λ p posed. few_defining c.problem_laws.ensures.terms p posed;
}
