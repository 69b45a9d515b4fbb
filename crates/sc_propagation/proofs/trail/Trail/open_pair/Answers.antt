use Rattle.std.proofs.Common.{◌<◌, length, subst, sym}
use Rattle.sc_clauses.specs.declared.lit.Lit.{Lit}
use Rattle.sc_propagation.proofs.NumberLaws.{atom_within}
use Rattle.sc_propagation.proofs.trail.Trail.open_pair.Goals as goal

pub is_true_before-requires : goal.is_true_before-requires
is_true_before-requires c =
    let n = length c.args.self.now.cells.items in
    let within = atom_within n c.args.clause.now c.loop-code.code-index _ c.loop-code-test.true c.lit_of-lit.ensures c.requires.in_cells in
    record { in_cells = subst (λ (l : Lit). l.atom < n) (sym c.negation.ensures) within }
