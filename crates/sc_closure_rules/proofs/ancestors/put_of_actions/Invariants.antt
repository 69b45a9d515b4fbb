use Rattle.std.proofs.Common.{◌∷◌, flat_map, take}
use Rattle.sc_names.specs.declared.uid.Uid.{Uid}
use Rattle.sc_sorts.specs.declared.sort.Sort.{out-Sort}
use Rattle.sc_term_definitions.specs.Making.{Puts}
use Rattle.sc_closure_rules.specs.Closure.{uid_term, ancestors_of, declared_members}
use Rattle.sc_closure_rules.proofs.ancestors.put_of_actions.Given as goal

abbrev pub invariant-loop-action : goal.invariant-loop-action
invariant-loop-action l =
    Puts l.fn.terms l.terms l.initial.numbers.items l.numbers.items (flat_map (λ (u : Uid). ancestors_of l.own (uid_term l.choices u) ∷ declared_members l.schema (out-Sort l.own) l.own (uid_term l.choices u) u) (take l.action-index l.choices))
