use Rattle.std.proofs.Common.{sym}
use Rattle.sc_terms.proofs.FindingLaws.{found_at, missing}
use Rattle.sc_terms.proofs.terms.Terms.find.Goals as goal

pub returns-in-Some-clause-found : goal.returns-in-Some-clause-found
returns-in-Some-clause-found c = rw (← c.self.view_is) (found_at _ _ c.self.invariant.table _ (sym c.in-Some.ensures.index))

pub returns-in-None-clause-found : goal.returns-in-None-clause-found
returns-in-None-clause-found c = rw (← c.self.view_is) (missing _ _ c.self.invariant.table (rw c.self.view_is c.requires) (sym c.in-None.ensures.found))
