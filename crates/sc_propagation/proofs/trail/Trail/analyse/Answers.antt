use Rattle.std.proofs.Common.{◌≡◌, ℕ, List, ◌∷◌, length, get_or, subst, sym, ◌∙◌, Vec, Global}
use Rattle.std.proofs.lemmas.List.{get_or_default}
use Rattle.sc_clauses.specs.Clauses.{negation}
use Rattle.sc_clauses.specs.declared.lit.Lit.{Lit}
use Rattle.sc_propagation.proofs.AnalysisLaws.{refutes-final, learned-new, uip-true, uip-here}
use Rattle.sc_propagation.proofs.trail.Trail.analyse.Goals as goal
use Rattle.sc_propagation.specs.Analyses.{IsResolvent}
use Rattle.sc_propagation.specs.Steps.{At, Shows}
use Rattle.sc_propagation.specs.Trails.{AreQuiet, true_before}

pub returns-clause-resolvent : goal.returns-clause-resolvent
returns-clause-resolvent c =
    let cs = c.args.clauses.now in
    let cells = c.args.self.now.cells.items in
    let trail = c.args.self.now.lits.items in
    let first = c.args.first in
    let n = length cells in
    let sound = c.requires.trail in
    let walked = c.in_ok-place.ensures in
    let i = c.in_ok-place.place in
    let uip : Lit = c.index.result.now in
    let met = c.walk.new.analysis.met in
    let lower = c.walk.new.analysis.lower.items in
    let hints = c.walk.new.analysis.hints.items in
    let at : At trail i uip = (walked.within, sym c.index.ensures) in
    let highest = c.requires.highest.0 in
    let k : ℕ = highest.0 in
    let is : get_or c.args.self.now.levels.items k 0 ≡ first = get_or_default c.args.self.now.levels.items k 0 first highest.1 ∙ highest.2 in
    let quiet : AreQuiet (true_before cells first) cs = subst (λ (q : ℕ). AreQuiet (true_before cells q) cs) is (sound.quiet k highest.1) in
    let found : IsResolvent cs cells (length trail) first lower uip c.reverse.new.self.items = record {
      shows = subst (λ (hs : List ℕ). Shows cs (negation uip ∷ lower) hs) (sym c.reverse.ensures.items)
          (refutes-final cs cells trail sound.agree first i met lower hints uip n at walked.from walked.collected walked.none walked.refutes);
      is_new = learned-new cs cells trail sound.agree first i met lower hints uip n at walked.from walked.collected walked.none walked.refutes quiet;
      are_lower = walked.collected.are_lower;
      uip_true = uip-true cs cells trail sound.agree first i met lower hints uip n at walked.from walked.collected walked.none walked.refutes;
      uip_here = uip-here cs cells trail sound.agree first i met lower hints uip n at walked.from walked.collected walked.none walked.refutes;
    } in
    subst (λ (v : Vec Lit Global). IsResolvent cs cells (length trail) first v.items uip c.replace-2.result.items) (sym c.replace.ensures.value)
    (subst (λ (v : Vec ℕ Global). IsResolvent cs cells (length trail) first lower uip v.items) (sym c.replace-2.ensures.value) found)
