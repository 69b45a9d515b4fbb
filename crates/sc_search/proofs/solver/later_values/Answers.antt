use Rattle.std.proofs.Common.{◌≡◌, List, Option, Bool, IfOk, subst, ◌∙◌}
use Rattle.sc_search.proofs.SearchLaws.{later-none, later-some}
use Rattle.sc_search.proofs.solver.later_values.Goals as goal

pub returns-in-None : goal.returns-in-None
returns-in-None c = c.new.ensures ∙ later-none c.args.cells.now c.in-None.ensures.cases

pub returns-in-Some : goal.returns-in-Some
returns-in-Some c =
    subst (λ (vs : List (Option Bool)). IfOk c.values_of.result (λ v. v ≡ vs)) (later-some c.args.cells.now _ c.in-Some.later.now c.in-Some.ensures.cases.0) c.values_of.ensures
