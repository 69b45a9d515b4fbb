use Rattle.std.proofs.Common.{◌≡◌, List, Bool, [], ◌∷◌, ◌++◌, length, subst, sym, ◌∙◌, true, false}
use Rattle.std.proofs.Math.ListN.{set}
use Rattle.sc_clauses.specs.Clauses.{negation}
use Rattle.sc_clauses.specs.declared.lit.Lit.{Lit}
use Rattle.sc_propagation.proofs.AnalysisLaws.{collected-lower, collected-here, same-lower, not-met}
use Rattle.sc_propagation.proofs.trail.Trail.meet.Goals as goal
use Rattle.sc_propagation.specs.Analyses.{IsCollected}
use Rattle.sc_propagation.specs.Trails.{true_before}

pub returns-then-not-is_true_before-clause-collected : goal.returns-then-not-is_true_before-clause-collected
returns-then-not-is_true_before-clause-collected c =
    let cells = c.args.self.now.cells.items in
    let n = length cells in
    let first = c.args.first in
    let met = c.args.analysis.now.met in
    let m : Lit = c.args.lit in
    let is_false = not-met met m _ c.requires.may_be_met (c.is_set.ensures _) c.if-is_set.false in
    let b : true_before cells first (negation m) ≡ false = subst (λ (x : Lit). true_before cells first x ≡ false) c.negation.ensures (sym c.is_true_before.ensures ∙ c.if-not-is_true_before.true) in
    subst (λ (ms : List Bool). IsCollected n cells first ms c.args.analysis.now.lower.items) (sym c.set.ensures)
    (collected-here n cells (length c.args.self.now.lits.items) first met c.args.analysis.now.lower.items m c.requires.collected is_false b)

pub returns-then-is_ground-clause-collected : goal.returns-then-is_ground-clause-collected
returns-then-is_ground-clause-collected c =
    let cells = c.args.self.now.cells.items in
    let n = length cells in
    let first = c.args.first in
    let met = c.args.analysis.now.met in
    let m : Lit = c.args.lit in
    let is_false = not-met met m _ c.requires.may_be_met (c.is_set.ensures _) c.if-is_set.false in
    let b : true_before cells first (negation m) ≡ true = subst (λ (x : Lit). true_before cells first x ≡ true) c.negation.ensures (sym c.is_true_before.ensures ∙ c.if-not-is_true_before.false) in
    subst (λ (ms : List Bool). IsCollected n cells first ms c.push-then-is_ground.new.self.items) (sym c.set.ensures)
    (subst (λ (xs : List Lit). IsCollected n cells first (set met m.atom true) xs) (sym c.in_ok-push-2.ensures.items)
    (collected-lower n cells (length c.args.self.now.lits.items) first met c.args.analysis.now.lower.items m c.requires.collected is_false b))

pub returns-clause-collected : goal.returns-clause-collected
returns-clause-collected c =
    let cells = c.args.self.now.cells.items in
    let n = length cells in
    let first = c.args.first in
    let met = c.args.analysis.now.met in
    let lower = c.args.analysis.now.lower.items in
    let m : Lit = c.args.lit in
    let is_false = not-met met m _ c.requires.may_be_met (c.is_set.ensures _) c.if-is_set.false in
    let b : true_before cells first (negation m) ≡ true = subst (λ (x : Lit). true_before cells first x ≡ true) c.negation.ensures (sym c.is_true_before.ensures ∙ c.if-not-is_true_before.false) in
    subst (λ (ms : List Bool). IsCollected n cells first ms c.put_at.new.lits.items) (sym c.set.ensures)
    (same-lower n cells first (set met m.atom true) (lower ++ m ∷ []) _ c.in_ok-put_at.ensures
    (collected-lower n cells (length c.args.self.now.lits.items) first met lower m c.requires.collected is_false b))
