use Rattle.std.proofs.Common.{◌≡◌, ℕ, List, length, get_or, map, subst, sym, take_all, ◌∙◌, true, rules}
use Rattle.sc_clauses.specs.declared.lit.Lit.{Lit}
use Rattle.sc_refutations.specs.Arenas.{lit_of}
use Rattle.sc_propagation.proofs.NumberLaws.{in_cells_more}
use Rattle.sc_propagation.proofs.trail.Trail.are_in_cells.Goals as goal
use Rattle.sc_propagation.specs.Giving.{in_cells}
use Rattle.sc_propagation.specs.Trails.{AllInCells}

pub loop-code-preserved : goal.loop-code-preserved
loop-code-preserved c =
    let n = length c.args.self.now.cells.items in
    let size : c.len-count.result ≡ n = search rules in
    let yes : in_cells n (lit_of (get_or c.args.clause.now c.loop-code.code-index 0)) ≡ true =
    subst (λ (l : Lit). in_cells n l ≡ true) c.lit_of.ensures (subst (λ (k : ℕ). in_cells k c.lit_of.result ≡ true) size (sym c.is_in_cells.ensures ∙ c.if-not-is_in_cells.false)) in
    in_cells_more n c.args.clause.now c.loop-code.code-index c.loop-code-test.true c.loop-code.invariant yes

pub returns : goal.returns
returns c = λ e. subst (λ (codes : List ℕ). AllInCells (length c.args.self.now.cells.items) (map lit_of codes)) (take_all c.loop-code.code-index c.args.clause.now c.loop-code-test.false) c.loop-code.invariant
