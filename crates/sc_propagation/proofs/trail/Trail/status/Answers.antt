use Rattle.std.proofs.Common.{◌<◌, ◌+◌, List, length, subst, sym, ◌∙◌, true≢false, map, take, Option}
use Rattle.sc_clauses.specs.declared.lit.Lit.{Lit}
use Rattle.sc_refutations.specs.Arenas.{lit_of}
use Rattle.sc_refutations.proofs.AssumedLaws.{lits_long}
use Rattle.sc_propagation.proofs.NumberLaws.{has_lit, lit_here, lits_taken}
use Rattle.sc_propagation.proofs.ReadingLaws.{sofar-two, sofar-first, sofar-again, sofar-false}
use Rattle.sc_propagation.proofs.trail.Trail.status.Goals as goal
use Rattle.sc_propagation.proofs.trail.Trail.status.Goals.{in-False, in-Open+in-None, in-Open+in-Some+else-not-is_same}
use Rattle.sc_propagation.specs.Readings.{IsSoFar, AreFalse}

pub truth-requires : goal.truth-requires
truth-requires c =
    let ns = c.args.clause.now in
    let xs = map lit_of ns in
    let h : c.loop-code.code-index < length ns = c.loop-code-test.true in
    record { in_cells = (c.requires.in_cells _ (has_lit ns c.loop-code.code-index _ h c.lit_of-lit.ensures)).1 }

pub returns-in-True : goal.returns-in-True
returns-in-True c =
    let ns = c.args.clause.now in
    let xs = map lit_of ns in
    let h : c.loop-code.code-index < length ns = c.loop-code-test.true in
    (has_lit ns c.loop-code.code-index _ h c.lit_of-lit.ensures, c.in-True.ensures c.requires.agree)

pub returns-then-not-is_same : goal.returns-then-not-is_same
returns-then-not-is_same c =
    let ns = c.args.clause.now in
    let xs = map lit_of ns in
    let i = c.loop-code.code-index in
    let h : i < length ns = c.loop-code-test.true in
    let cells = c.args.self.now.cells.items in
    let p = length c.args.self.now.lits.items in
    let u = c.in-Some.other in
    sofar-two cells p xs i _ (lits_long ns i h) (lit_here ns i _ h c.lit_of-lit.ensures) u (λ e. true≢false (sym (c.is_same.ensures.1 e) ∙ c.if-not-is_same.true))
    (subst (λ (o : Option Lit). IsSoFar cells p (take i xs) o) c.in-Some.is c.loop-code.invariant)
    (c.in-Open.ensures c.requires.agree)

pub loop-code-preserved : goal.loop-code-preserved
loop-code-preserved c =
    let ns = c.args.clause.now in
    let xs = map lit_of ns in
    let i = c.loop-code.code-index in
    let h : i < length ns = c.loop-code-test.true in
    let cells = c.args.self.now.cells.items in
    let p = length c.args.self.now.lits.items in
    let So = λ (o : Option Lit). IsSoFar cells p (take (i + 1) xs) o in
    let Was = λ (o : Option Lit). IsSoFar cells p (take i xs) o in
    elim c.match-truth.branch [
      | in-False w ↦ subst So (sym w.open-is) (sofar-false cells p xs i _ (lits_long ns i h) (lit_here ns i _ h c.lit_of-lit.ensures) _ c.loop-code.invariant (w.in-False.ensures c.requires.agree))
      | in-Open+in-None w ↦ subst So (sym w.open-is) (sofar-first cells p xs i _ (lits_long ns i h) (lit_here ns i _ h c.lit_of-lit.ensures) (subst Was w.in-None.is c.loop-code.invariant) (w.in-Open.ensures c.requires.agree))
      | in-Open+in-Some+else-not-is_same w ↦ subst So (sym w.open-is) (sofar-again cells p xs i _ (lits_long ns i h) (lit_here ns i _ h c.lit_of-lit.ensures) w.in-Some.other (w.is_same.ensures.0 w.if-not-is_same.false) (subst Was w.in-Some.is c.loop-code.invariant))
    ]

pub returns-in-None-open : goal.returns-in-None-open
returns-in-None-open c =
    let ns = c.args.clause.now in
    let xs = map lit_of ns in
    let cells = c.args.self.now.cells.items in
    let p = length c.args.self.now.lits.items in
    subst (λ (d : List Lit). AreFalse cells p d) (lits_taken ns c.loop-code.code-index c.loop-code-test.false)
    (subst (λ (o : Option Lit). IsSoFar cells p (take c.loop-code.code-index xs) o) c.in-None-open.is c.loop-code.invariant)
