use Rattle.std.proofs.Common.{◌≡◌, length, subst, sym, ap, ◌∙◌}
use Rattle.std.proofs.lemmas.List.{get_or_default}
use Rattle.sc_propagation.proofs.ReadingLaws.{truth-holds}
use Rattle.sc_propagation.proofs.trail.Trail.truth.Goals as goal
use Rattle.sc_propagation.specs.Readings.{HasTruth, truth_of}
use Rattle.sc_propagation.specs.Trails.{cell_of}
use Rattle.sc_propagation.specs.declared.cell.Cell.{Cell}
use Rattle.sc_propagation.specs.declared.cell.Cell.TheVariants.{Free}
use Rattle.sc_propagation.specs.declared.cell.Truth.{Truth}

pub returns : goal.returns
returns c =
    let cells = c.args.self.now.cells.items in
    let l = c.args.lit in
    let is : c.index.result.now ≡ cell_of cells l = c.index.ensures ∙ get_or_default cells l.atom _ Free c.requires.in_cells in
    λ h. subst (λ (t : Truth). HasTruth cells (length c.args.self.now.lits.items) l t)
    (sym (c.truth_of.ensures ∙ ap (λ (x : Cell). truth_of x l.negated) is))
    (truth-holds cells c.args.self.now.lits.items l h)
