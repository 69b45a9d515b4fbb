use Rattle.sc_lexemes.specs.Lexemes.{annotation_starts, effect_starts}
use Rattle.sc_lexemes.proofs.peek.policy_at.Goals as goal

pub returns-in-Some-clause-yes : goal.returns-in-Some-clause-yes
returns-in-Some-clause-yes c = λ _. annotation_starts _ c.in-Some.ensures.found

pub returns-in-Some-effect_at-clause-yes : goal.returns-in-Some-effect_at-clause-yes
returns-in-Some-effect_at-clause-yes c = λ _. effect_starts _ _ c.in-Some-effect_at.ensures.found
