use Rattle.std.proofs.Common.{◌≡◌, ⊎_elim, subst, sym, ◌∙◌}
use Rattle.std.proofs.lemmas.List.{get_or_default}
use Rattle.sc_clauses.specs.declared.lit.Lit.{Lit}
use Rattle.sc_propagation.proofs.AnalysisLaws.{cell-read, not-free, reason-at, decision-at}
use Rattle.sc_propagation.proofs.trail.Trail.reason.Goals as goal
use Rattle.sc_propagation.specs.Steps.{At}
use Rattle.sc_propagation.specs.Trails.{cell_of, IsReason}
use Rattle.sc_propagation.specs.declared.cell.Cell.TheVariants.{Free}

pub unreachable-requires : goal.unreachable-requires
unreachable-requires c =
    let cells = c.args.self.now.cells.items in
    let trail = c.args.self.now.lits.items in
    let l : Lit = c.index-lit.result.now in
    let at : At trail c.args.i l = (c.requires.within, sym c.index-lit.ensures) in
    let read : cell_of cells l ≡ c.index.result.now = cell-read cells trail c.requires.trail.agree c.args.i l at _ c.index.ensures in
    ⊎_elim
    (λ w. c.requires.undecided (decision-at _ c.args.clauses.now cells trail _ c.requires.trail c.args.i l at w.0 w.1 (read ∙ w.2)))
    (λ (f : c.index.result.now ≡ Free). not-free cells trail c.requires.trail.agree c.args.i l at (read ∙ f))
    c.in-Decided.is

pub returns : goal.returns
returns c =
    let cells = c.args.self.now.cells.items in
    let trail = c.args.self.now.lits.items in
    let l : Lit = c.index-lit.result.now in
    let at : At trail c.args.i l = (c.requires.within, sym c.index-lit.ensures) in
    let read : cell_of cells l ≡ c.index.result.now = cell-read cells trail c.requires.trail.agree c.args.i l at _ c.index.ensures in
    λ d.
    subst (λ (w : Lit). IsReason c.args.clauses.now cells w c.args.i c.in-Implied.reason) (sym (get_or_default trail c.args.i d l c.requires.within ∙ sym c.index-lit.ensures))
    (reason-at _ c.args.clauses.now cells trail _ c.requires.trail c.args.i l at _ _ _ (read ∙ c.in-Implied.is))
