use Rattle.std.proofs.Common.{◌≡◌, ◌≤◌, ◌<◌, ℕ, List, length, get_or, refl, subst, sym, ap, ◌∙◌, arith, rules, Vec, Global}
use Rattle.std.proofs.lemmas.List.{get_or_default}
use Rattle.sc_propagation.proofs.TrailLaws.{trail-cut, trail-pop-to, before-pop-to}
use Rattle.sc_propagation.proofs.trail.Trail.backtrack.Goals as goal
use Rattle.sc_propagation.specs.Trails.{IsTrail}

pub back-init : goal.back-init
back-init c =
    let t = c.args.self.now in
    let levels = t.levels.items in
    let at : c.index-place.result.now ≡ get_or levels c.args.level 0 = c.index-place.ensures ∙ get_or_default levels c.args.level _ 0 c.requires.within in
    record {
      trail =
          subst (λ (p : ℕ). IsTrail (length t.cells.items) c.args.clauses.now t.cells.items t.lits.items c.truncate.new.self.items p) (sym at)
          (subst (λ (s : List ℕ). IsTrail (length t.cells.items) c.args.clauses.now t.cells.items t.lits.items s (get_or levels c.args.level 0)) (sym c.truncate.ensures.items)
          (trail-cut _ c.args.clauses.now t.cells.items t.lits.items levels _ c.args.level c.requires.trail c.requires.within));
      levels = refl;
      kept = λ q le. refl;
    }

pub back-preserved : goal.back-preserved
back-preserved c =
    let s = c.back.self in
    let t = c.pop-taken.new.self in
    let l = c.pop-taken.result in
    let p = c.index-place.result.now in
    let was = c.back.invariant in
    let made = c.pop-taken.ensures in
    let more : p < length s.lits.items = search rules in
    let levels : t.levels.items ≡ s.levels.items = ap (λ (v : Vec ℕ Global). v.items) made.levels in
    record {
      trail = trail-pop-to _ c.args.clauses.now s.cells.items s.lits.items s.levels.items p was.trail t.lits.items l t.cells.items t.levels.items made.lits made.cells levels more;
      levels = made.levels ∙ was.levels;
      kept = λ q le. before-pop-to _ c.args.clauses.now s.cells.items s.lits.items s.levels.items p was.trail t.lits.items l t.cells.items t.levels.items made.lits made.cells levels more q le ∙ was.kept q le;
    }

pub returns-clause-kept : goal.returns-clause-kept
returns-clause-kept c =
    let at : c.index-place.result.now ≡ get_or c.args.self.now.levels.items c.args.level 0 = c.index-place.ensures ∙ get_or_default c.args.self.now.levels.items c.args.level _ 0 c.requires.within in
    λ q le. c.back.invariant.kept q (let h : q ≤ get_or c.args.self.now.levels.items c.args.level 0 = le in omega arith)
