use Rattle.std.proofs.Common.{◌≤◌, ℕ, List, [], length, subst, sym, ap, ◌∙◌, arith, Vec, Global}
use Rattle.sc_propagation.proofs.AnalysisLaws.{refutes-none}
use Rattle.sc_propagation.proofs.trail.Trail.refute.Goals as goal
use Rattle.sc_propagation.specs.Steps.{Shows}

pub returns : goal.returns
returns c =
    let cs = c.args.clauses.now in
    let w = c.back.analysis in
    let test = c.back-test.false in
    let none : c.back.i ≤ 0 = omega arith in
    subst (λ (hs : List ℕ). Shows cs [] hs) (sym (ap (λ (v : Vec ℕ Global). v.items) c.replace.ensures.value ∙ c.reverse.ensures.items))
    (refutes-none cs c.args.self.now.cells.items (length c.args.self.now.lits.items) c.back.i w.met w.hints.items none c.back.invariant.refutes)
