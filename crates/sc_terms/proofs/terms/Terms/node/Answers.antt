use Rattle.std.proofs.Common.{◌≡◌, Some, slice_get, length, ◌≤◌, rules, arith}
use Rattle.sc_terms.proofs.TableLaws.{tree_is, parts_rise}
use Rattle.sc_terms.proofs.terms.Terms.node.Goals as goal

pub returns-clause-stands : goal.returns-clause-stands
returns-clause-stands c =
    let e : slice_get c.self.inside.nodes.keys c.args.n ≡ Some c.in-Some.node.now = search rules in
    rw (← c.self.view_is) (tree_is _ _ _ e (c.self.invariant.table.below _ _ e))

pub returns-clause-parts_in : goal.returns-clause-parts_in
returns-clause-parts_in c =
    let e : slice_get c.self.inside.nodes.keys c.args.n ≡ Some c.in-Some.node.now = search rules in
    let h : c.args.n ≤ length c.args.self.now = omega arith in
    parts_rise _ _ _ h (c.self.invariant.table.below _ _ e)
