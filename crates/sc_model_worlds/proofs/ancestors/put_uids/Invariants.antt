use Rattle.std.proofs.Common.{◌≡◌, ◌++◌, map, take}
use Rattle.sc_terms.specs.Tables.{tree}
use Rattle.sc_model_worlds.specs.Saying.{uid_in}
use Rattle.sc_model_worlds.proofs.ancestors.put_uids.Given as goal

abbrev pub invariant-loop-term : goal.invariant-loop-term
invariant-loop-term l = l.uids ≡ l.fn.uids ++ map (λ n. uid_in l.problem l.names (tree l.problem.nodes n)) (take l.term-index l.terms)
