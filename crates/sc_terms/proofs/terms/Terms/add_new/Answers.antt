use Rattle.sc_terms.proofs.TableLaws.{keeps_append}
use Rattle.sc_terms.proofs.SortingLaws.{stands_more, sorted_more}
use Rattle.sc_terms.proofs.terms.Terms.add_new.Goals as goal

pub invariant_of-self-2 : goal.invariant_of-self-2
invariant_of-self-2 c =
    rw (c.in_ok-n.ensures.keys, c.in_ok-n.ensures.beside)
    (sorted_more _ _ _ _ c.self.invariant (rw c.self.view_is c.requires.parts) (rw c.self.view_is c.requires.absent) (rw c.self.view_is c.requires.sorted))

pub returns-clause-ok : goal.returns-clause-ok
returns-clause-ok c =
    rw (c.in_ok-n.ensures.keys, c.in_ok-n.ensures.place, ← c.self.view_is)
    (stands_more _ _ _ c.args.sort c.self.invariant (rw c.self.view_is c.requires.parts) (rw c.self.view_is c.requires.absent))

pub returns-clause-kept : goal.returns-clause-kept
returns-clause-kept c = rw (c.in_ok-n.ensures.keys, ← c.self.view_is) (keeps_append _ _)
