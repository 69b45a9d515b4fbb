use Rattle.std.proofs.Common.{ℕ, ◌<◌, List, [], Bool, length, get_or, true, false, subst}
use Rattle.std.specs.List.{swap_remove}
use Rattle.sc_propagation.proofs.ListedLaws.{set-atom, set-negation}
use Rattle.sc_propagation.proofs.lists.Lists.unlist.Goals as goal
use Rattle.sc_propagation.specs.Lists.{lists_of}

pub unlist_at-requires-clause-atom : goal.unlist_at-requires-clause-atom
unlist_at-requires-clause-atom c = c.requires.atom true

pub unlist_at-requires-clause-at : goal.unlist_at-requires-clause-at
unlist_at-requires-clause-at c = subst (λ (b : Bool). c.args.at < length (get_or (lists_of c.args.self.now b) c.args.lit.atom [])) c.if-lit.true c.requires.at

pub unlist_at-requires-2-clause-atom : goal.unlist_at-requires-2-clause-atom
unlist_at-requires-2-clause-atom c = c.requires.atom false

pub unlist_at-requires-2-clause-at : goal.unlist_at-requires-2-clause-at
unlist_at-requires-2-clause-at c = subst (λ (b : Bool). c.args.at < length (get_or (lists_of c.args.self.now b) c.args.lit.atom [])) c.if-lit.false c.requires.at

pub returns-then-lit : goal.returns-then-lit
returns-then-lit c = set-negation c.args.self.now c.args.lit (λ (ps : List ℕ). swap_remove ps c.args.at 0) c.unlist_at.new.lists c.if-lit.true (c.requires.atom true) c.unlist_at.ensures

pub returns : goal.returns
returns c = set-atom c.args.self.now c.args.lit (λ (ps : List ℕ). swap_remove ps c.args.at 0) c.unlist_at-2.new.lists c.if-lit.false (c.requires.atom false) c.unlist_at-2.ensures
