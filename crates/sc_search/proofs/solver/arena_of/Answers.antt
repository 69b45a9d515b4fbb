use Rattle.std.proofs.Common.{◌≡◌, ◌++◌, [], ◌∷◌, ◌∙◌, ℕ, List, map, sym, ap, arith}
use Rattle.sc_clauses.specs.Clauses.{Clause}
use Rattle.sc_refutations.specs.Arenas.{lit_of}
use Rattle.sc_search.proofs.CopyLaws.{copied_more, copied_all, place_inside}
use Rattle.sc_search.proofs.solver.arena_of.Goals as goal

pub overflow_add-place : goal.overflow_add-place
overflow_add-place c =
    let below = place_inside c.args.given.now c.loop-clause.place c.in-Some.clause.now (sym c.in-Some.ensures) in
    record { fits = omega (arith, below, c.len-count.ensures, c.len-count.type_inv) }

pub loop-clause-smaller : goal.loop-clause-smaller
loop-clause-smaller c = let below = place_inside c.args.given.now c.loop-clause.place c.in-Some.clause.now (sym c.in-Some.ensures) in omega (arith, below)

pub loop-clause-preserved : goal.loop-clause-preserved
loop-clause-preserved c =
    let below = place_inside c.args.given.now c.loop-clause.place c.in-Some.clause.now (sym c.in-Some.ensures) in
    let same : map lit_of c.deref.result.now ≡ c.in-Some.clause.now = ap (map lit_of) c.deref.ensures.value ∙ (c.in_ok-put_codes.ensures ∙ ap (λ (l : List ℕ). map lit_of l ++ c.in-Some.clause.now) c.clear.ensures.items) in
    record {
      within = omega (arith, below);
      copied = c.in_ok-push.ensures ∙ ap (λ (d : Clause). c.loop-clause.clauses ++ d ∷ []) same ∙ ap (λ (l : List Clause). l ++ c.in-Some.clause.now ∷ []) c.loop-clause.invariant.copied ∙ sym (copied_more c.args.given.now c.loop-clause.place c.in-Some.clause.now (sym c.in-Some.ensures));
    }

pub returns : goal.returns
returns c = c.loop-clause.invariant.copied ∙ copied_all c.args.given.now c.loop-clause.place (sym c.in_default.ensures)
