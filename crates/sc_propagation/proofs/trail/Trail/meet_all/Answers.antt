use Rattle.std.proofs.Common.{inl, inr, ⊎_elim, List, get_or, map, subst, ◌∙◌}
use Rattle.sc_clauses.specs.declared.lit.Lit.{Lit}
use Rattle.sc_refutations.specs.Arenas.{lit_of}
use Rattle.sc_refutations.proofs.AssumedLaws.{lits_long}
use Rattle.sc_propagation.proofs.AnalysisLaws.{met-more}
use Rattle.sc_propagation.proofs.NumberLaws.{has_lit, lit_here, lits_taken}
use Rattle.sc_propagation.proofs.trail.Trail.meet_all.Goals as goal
use Rattle.sc_propagation.specs.Analyses.{AreMet, IsMet}

pub meet-requires-clause-in_cells : goal.meet-requires-clause-in_cells
meet-requires-clause-in_cells c =
    let ns = c.args.clause.now in
    (c.requires.in_cells _ (has_lit ns c.loop-code.code-index _ c.loop-code-test.true c.lit_of.ensures)).1

pub meet-requires-clause-may_be_met : goal.meet-requires-clause-may_be_met
meet-requires-clause-may_be_met c =
    let ns = c.args.clause.now in
    let m : Lit = c.lit_of.result in
    ⊎_elim (λ h. inl (c.loop-code.invariant.more m h)) (λ b. inr b)
    (c.requires.may_be_met m (has_lit ns c.loop-code.code-index _ c.loop-code-test.true c.lit_of.ensures))

pub loop-code-preserved : goal.loop-code-preserved
loop-code-preserved c =
    let made = c.in_ok-meet.ensures in
    let was = c.loop-code.invariant in
    let ns = c.args.clause.now in
    let i = c.loop-code.code-index in
    let m : Lit = c.lit_of.result in
    let here : IsMet c.meet.new.analysis.met (get_or (map lit_of ns) i m) =
    subst (λ (l : Lit). IsMet c.meet.new.analysis.met l) (lit_here ns i m c.loop-code-test.true c.lit_of.ensures) made.met in
    record {
      collected = made.collected;
      more = λ m h. made.more m (was.more m h);
      met = met-more c.meet.new.analysis.met (map lit_of ns) i m (lits_long ns i c.loop-code-test.true) (λ l h. made.more l (was.met l h)) here;
      hints = made.hints ∙ was.hints;
    }

pub returns-clause-met : goal.returns-clause-met
returns-clause-met c =
    subst (λ (d : List Lit). AreMet c.loop-code.analysis.met d) (lits_taken c.args.clause.now c.loop-code.code-index c.loop-code-test.false) c.loop-code.invariant.met
