use Rattle.std.proofs.Common.{◌≡◌, ◌++◌, map, take}
use Rattle.sc_model_values.specs.Models.{name_in}
use Rattle.sc_terms.specs.Tables.{tree}
use Rattle.sc_model_worlds.proofs.tags.put_names.Given as goal

abbrev pub invariant-loop-term : goal.invariant-loop-term
invariant-loop-term l = l.texts ≡ l.fn.texts ++ map (λ n. name_in l.problem l.names (tree l.problem.nodes n)) (take l.term-index l.terms)
