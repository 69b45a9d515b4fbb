use Rattle.std.proofs.Common.{◌∷◌, [], ◌++◌, List, length, ◌<◌, sym, subst, rules}
use Rattle.std.proofs.Math.ListN.{set}
use Rattle.sc_clauses.specs.declared.lit.Lit.{Lit}
use Rattle.sc_propagation.proofs.ExchangeLaws.{exchanged, same-list}
use Rattle.sc_propagation.proofs.analysis.put_at.Goals as goal
use Rattle.sc_propagation.specs.Analyses.{HaveSame}

pub returns-then-place-len : goal.returns-then-place-len
returns-then-place-len c = same-list _ _ c.in_ok-push.ensures.items

pub returns : goal.returns
returns c =
    let xs = c.args.lits.now.items in
    let lit : Lit = c.args.lit in
    let lt : c.args.place < length xs = search rules in
    subst (λ (ys : List Lit). HaveSame (set ys c.args.place lit) (xs ++ lit ∷ [])) (sym c.in_ok-push-2.ensures.items)
    (exchanged xs c.args.place c.index-other.result.now lit lt (sym c.index-other.ensures))
