use Rattle.std.proofs.Common.{◌∙◌, ◌++◌, ◌∷◌, [], map, ap}
use Rattle.std.proofs.lemmas.Result.{on_ok_weaker}
use Rattle.sc_clauses.specs.Clauses.{Clause}
use Rattle.sc_refutations.specs.Arenas.{lit_of}
use Rattle.sc_refutations.proofs.arena.Arena.push_lits.Goals as goal

pub returns-in-Some : goal.returns-in-Some
returns-in-Some c =
    let said = rw c.in-Some.is at c.in_ok-codes.ensures in
    on_ok_weaker c.push.result (λ e. e ∙ ap (λ (d : Clause). c.args.self.now ++ d ∷ []) (ap (map lit_of) c.as_slice.ensures.value ∙ said.0)) c.push.ensures
