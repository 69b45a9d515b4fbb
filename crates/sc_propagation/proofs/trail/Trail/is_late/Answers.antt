use Rattle.std.proofs.Common.{◌≡◌, ◌≤◌, ◌∙◌, ℕ, false, length, get_or, ap, sym, arith, rules}
use Rattle.std.proofs.lemmas.Bool.Decides.{Decides-eqb}
use Rattle.std.proofs.lemmas.List.{get_or_default}
use Rattle.std.specs.Vec.{vec_len}
use Rattle.sc_clauses.specs.Clauses.{negation}
use Rattle.sc_clauses.specs.declared.lit.Lit.{Lit}
use Rattle.sc_propagation.proofs.AnalysisLaws.{not-lower}
use Rattle.sc_propagation.proofs.trail.Trail.is_late.Goals as goal
use Rattle.sc_propagation.specs.Trails.{true_before}

pub returns-then-is_empty : goal.returns-then-is_empty
returns-then-is_empty c = λ h.
    let size : vec_len c.args.self.now.levels ≡ length c.args.self.now.levels.items = search rules in
    let none : vec_len c.args.self.now.levels ≡ 0 = (Decides-eqb (vec_len c.args.self.now.levels) 0).0 (sym c.is_empty.ensures ∙ c.if-is_empty.true) in
    record { at_levels = λ k lt. absurd (omega arith) }

pub returns : goal.returns
returns c = λ h.
    let t = c.args.self.now in
    let first = c.level_start-first.result in
    let not_before : true_before t.cells.items first (negation c.args.lit) ≡ false =
    ap (λ (m : Lit). true_before t.cells.items first m) (sym c.negation.ensures) ∙ sym c.is_true_before.ensures ∙ c.if-is_true_before.false in
    record {
      at_levels = λ k lt.
          let start : ℕ = get_or t.levels.items k 0 in
          let le : start ≤ first = c.level_start-first.ensures.highest.1 start (k, lt, get_or_default t.levels.items k start 0 lt) in
          not-lower t.cells.items start first (negation c.args.lit) not_before le;
    }
