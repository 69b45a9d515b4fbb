use Rattle.sc_languages.proofs.SearchLaws.{at_sought, at_known, at_end}
use Rattle.sc_languages.proofs.search.visit.Goals as goal

pub returns-then-is_sought-clause-found : goal.returns-then-is_sought-clause-found
returns-then-is_sought-clause-found c = at_sought _ _ _ _ c.requires _ c.if-is_sought.ensures c.in_ok-copy.ensures

pub returns-in-Some-clause-found : goal.returns-in-Some-clause-found
returns-in-Some-clause-found c = at_end _ _ _ _ c.requires _ (rw c.in-Some.is at c.in_ok-found.ensures.found)

pub returns-in-None-clause-known : goal.returns-in-None-clause-known
returns-in-None-clause-known c = at_known _ _ _ _ c.requires c.if-is_sought.ensures
