use Rattle.std.proofs.Common.{◌≡◌, length}
use Rattle.std.specs.List.{list_any}
use Rattle.std.specs.Str.{bytes_eq}
use Rattle.sc_terms.specs.Trees.{Tree}
use Rattle.sc_model_laws.specs.Names.{Name}
use Rattle.sc_model_names.specs.Numbers.{named_terms}
use Rattle.sc_model_names.proofs.names.is_name.Given as goal

abbrev pub invariant-loop-entry : goal.invariant-loop-entry
invariant-loop-entry l =
    list_any (λ (e : Tree × Name). bytes_eq e.1 l.text) (named_terms l.problem.nodes l.rest)
    ≡ list_any (λ (e : Tree × Name). bytes_eq e.1 l.text) (named_terms l.problem.nodes l.fn.entries)

abbrev pub decreases-loop-entry : goal.decreases-loop-entry
decreases-loop-entry l = length l.rest
