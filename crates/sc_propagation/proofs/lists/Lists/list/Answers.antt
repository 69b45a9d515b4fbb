use Rattle.std.proofs.Common.{ℕ, List, [], ◌∷◌, ◌++◌, true, false}
use Rattle.sc_propagation.proofs.ListedLaws.{set-atom-ok, set-negation-ok}
use Rattle.sc_propagation.proofs.lists.Lists.list.Goals as goal

pub list_at-requires : goal.list_at-requires
list_at-requires c = c.requires true

pub list_at-requires-2 : goal.list_at-requires-2
list_at-requires-2 c = c.requires false

pub returns-then-lit : goal.returns-then-lit
returns-then-lit c = set-negation-ok c.list_at.result c.args.self.now c.args.lit (λ (ps : List ℕ). ps ++ c.args.place ∷ []) c.list_at.new.lists c.if-lit.true (c.requires true) c.list_at.ensures

pub returns : goal.returns
returns c = set-atom-ok c.list_at-2.result c.args.self.now c.args.lit (λ (ps : List ℕ). ps ++ c.args.place ∷ []) c.list_at-2.new.lists c.if-lit.false (c.requires false) c.list_at-2.ensures
