use Rattle.std.proofs.Common.{◌≡◌, ◌<◌, ◌+◌, ℕ, List, ◌∷◌, [], ◌++◌, length, map, subst, sym, ap, ◌∙◌, Vec, Global, arith}
use Rattle.sc_clauses.specs.declared.lit.Lit.{Lit}
use Rattle.sc_refutations.specs.Arenas.{lit_of}
use Rattle.sc_propagation.proofs.AnalysisLaws.{reason-may-be-met, refutes-resolve, refutes-skip, read-met, trail-in-cells}
use Rattle.sc_propagation.proofs.WatchingLaws.{same-clause}
use Rattle.sc_propagation.proofs.trail.Trail.resolve.Goals as goal
use Rattle.sc_propagation.specs.Analyses.{AreMet, IsMet, MayBeMet, RefutesMet}
use Rattle.sc_propagation.specs.Steps.{At}
use Rattle.sc_propagation.specs.Trails.{IsReason}

pub returns-then-not-is_set-clause-refutes : goal.returns-then-not-is_set-clause-refutes
returns-then-not-is_set-clause-refutes c =
    let cells = c.args.self.now.cells.items in
    let trail = c.args.self.now.lits.items in
    let l : Lit = c.index-lit.result.now in
    let met = c.args.analysis.now.met in
    let at : At trail c.args.i l = (c.requires.within, sym c.index-lit.ensures) in
    let lt : l.atom < length cells = trail-in-cells cells trail c.requires.trail.agree c.args.i l at in
    let k : length met ≡ length cells = c.requires.collected.sized in
    refutes-skip c.args.clauses.now cells trail (length trail) c.args.i met c.args.analysis.now.hints.items l c.requires.trail.agree at
    (read-met met l _ (omega arith) (c.is_set.ensures _) ∙ c.if-not-is_set.true) c.requires.refutes

pub clause_at-requires : goal.clause_at-requires
clause_at-requires c = (c.reason-reason.ensures c.index-lit.result.now).at.0

pub number_of-requires : goal.number_of-requires
number_of-requires c = (c.reason-reason.ensures c.index-lit.result.now).at.0

pub meet_all-requires-clause-in_cells : goal.meet_all-requires-clause-in_cells
meet_all-requires-clause-in_cells c =
    c.requires.in_cells (map lit_of c.clause_at.result.now) (c.reason-reason.result, c.clause_at.ensures.0, c.clause_at.ensures.1)

pub meet_all-requires-clause-may_be_met : goal.meet_all-requires-clause-may_be_met
meet_all-requires-clause-may_be_met c =
    let cells = c.args.self.now.cells.items in
    let trail = c.args.self.now.lits.items in
    let l : Lit = c.index-lit.result.now in
    let met = c.args.analysis.now.met in
    let at : At trail c.args.i l = (c.requires.within, sym c.index-lit.ensures) in
    let lt : l.atom < length cells = trail-in-cells cells trail c.requires.trail.agree c.args.i l at in
    let k : length met ≡ length cells = c.requires.collected.sized in
    let is_met : IsMet met l = read-met met l _ (omega arith) (c.is_set.ensures _) ∙ c.if-not-is_set.false in
    let why : IsReason c.args.clauses.now cells l c.args.i c.reason-reason.result = subst (λ (w : Lit). IsReason c.args.clauses.now cells w c.args.i c.reason-reason.result) at.1 (c.reason-reason.ensures l) in
    let clause : why.clause ≡ map lit_of c.clause_at.result.now = same-clause c.args.clauses.now c.reason-reason.result _ _ why.at c.clause_at.ensures in
    subst (λ (d : List Lit). MayBeMet cells (length trail) met d) clause
    (reason-may-be-met _ c.args.clauses.now cells trail _ c.requires.trail c.args.i l at c.reason-reason.result met is_met why)

pub returns-clause-refutes : goal.returns-clause-refutes
returns-clause-refutes c =
    let cells = c.args.self.now.cells.items in
    let trail = c.args.self.now.lits.items in
    let l : Lit = c.index-lit.result.now in
    let met = c.args.analysis.now.met in
    let at : At trail c.args.i l = (c.requires.within, sym c.index-lit.ensures) in
    let why : IsReason c.args.clauses.now cells l c.args.i c.reason-reason.result = subst (λ (w : Lit). IsReason c.args.clauses.now cells w c.args.i c.reason-reason.result) at.1 (c.reason-reason.ensures l) in
    let clause : why.clause ≡ map lit_of c.clause_at.result.now = same-clause c.args.clauses.now c.reason-reason.result _ _ why.at c.clause_at.ensures in
    let done = c.in_ok-meet_all.ensures in
    let after = c.meet_all.new.analysis.met in
    let all : AreMet after why.clause = subst (λ (d : List Lit). AreMet after d) (sym clause) done.met in
    let old = c.args.analysis.now.hints.items in
    let n : ℕ = c.reason-reason.result + 1 in
    let pushed : c.push.new.self.items ≡ c.meet_all.new.analysis.hints.items ++ c.number_of.result ∷ [] = c.in_ok-push.ensures.items in
    let numbered : c.meet_all.new.analysis.hints.items ++ c.number_of.result ∷ [] ≡ c.meet_all.new.analysis.hints.items ++ n ∷ [] = ap (λ (h : ℕ). c.meet_all.new.analysis.hints.items ++ h ∷ []) c.number_of.ensures in
    let kept : c.meet_all.new.analysis.hints.items ++ n ∷ [] ≡ old ++ n ∷ [] = ap (λ (hs : Vec ℕ Global). hs.items ++ n ∷ []) done.hints in
    subst (λ (hs : List ℕ). RefutesMet c.args.clauses.now cells (length trail) c.args.i after hs) (sym (pushed ∙ numbered ∙ kept))
    (refutes-resolve c.args.clauses.now cells trail (length trail) c.args.i c.reason-reason.result met after c.args.analysis.now.hints.items l c.requires.trail.agree at c.requires.within why done.more all c.requires.refutes)
