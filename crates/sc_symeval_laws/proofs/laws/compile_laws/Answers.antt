use Rattle.sc_symeval_laws.proofs.ExpressionLaws.{expression_agrees}
use Rattle.sc_symeval_laws.proofs.JudgedLaws.{expression_terms, policy_is_terms}
use Rattle.sc_symeval_laws.proofs.PolicyLaws.{policy_agrees}
use Rattle.sc_symeval_laws.proofs.laws.compile_laws.Goals as goal

pub returns-clause-agrees : goal.returns-clause-agrees
returns-clause-agrees c = expression_agrees c.derivation_laws.ensures.derived c.derivation_laws.ensures.given c.expression_laws.ensures c.derivation_laws.ensures.literal

pub returns-clause-terms : goal.returns-clause-terms
returns-clause-terms c = expression_terms c.derivation_laws.ensures.literal c.derivation_laws.ensures.derived (record {
  negation = c.made_laws.ensures.negation;
  both = c.made_laws.ensures.both;
  either = c.made_laws.ensures.either;
  chosen = c.made_laws.ensures.chosen;
  equation = c.made_laws.ensures.equation;
  component = c.made_laws.ensures.component;
  present = c.made_laws.ensures.present;
  held = c.made_laws.ensures.held;
  bit = c.made_laws.ensures.bit;
  like = c.made_laws.ensures.like;
  all = c.made_laws.ensures.all;
  address = c.eval_laws.ensures.address;
})

pub returns-clause-policies : goal.returns-clause-policies
returns-clause-policies c = λ s env literals w p code lawful well uids e.
    policy_agrees (expression_agrees c.derivation_laws.ensures.derived c.derivation_laws.ensures.given c.expression_laws.ensures c.derivation_laws.ensures.literal) s env literals w lawful well p code uids e

pub returns-clause-policy_terms : goal.returns-clause-policy_terms
returns-clause-policy_terms c = policy_is_terms c.derivation_laws.ensures.literal c.derivation_laws.ensures.derived (record {
  negation = c.made_laws.ensures.negation;
  both = c.made_laws.ensures.both;
  either = c.made_laws.ensures.either;
  chosen = c.made_laws.ensures.chosen;
  equation = c.made_laws.ensures.equation;
  component = c.made_laws.ensures.component;
  present = c.made_laws.ensures.present;
  held = c.made_laws.ensures.held;
  bit = c.made_laws.ensures.bit;
  like = c.made_laws.ensures.like;
  all = c.made_laws.ensures.all;
  address = c.eval_laws.ensures.address;
})
