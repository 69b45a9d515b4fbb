use Rattle.std.proofs.Common.{map, take}
use Rattle.sc_names.specs.declared.uid.Uid.{Uid}
use Rattle.sc_sorts.specs.Entities.{of_type_name}
use Rattle.sc_sorts.specs.declared.node.BinaryOp.TheVariants as binary
use Rattle.sc_terms.specs.Trees.{two}
use Rattle.sc_terms.specs.Tables.{tree}
use Rattle.sc_term_definitions.specs.Making.{Puts}
use Rattle.sc_closure_rules.specs.Closure.{uid_term}
use Rattle.sc_closure_rules.proofs.ancestors.put_members.Given as goal

abbrev pub invariant-loop-uid : goal.invariant-loop-uid
invariant-loop-uid l =
    Puts l.fn.terms l.terms l.initial.numbers.items l.numbers.items (map (λ (v : Uid). two binary.Member (uid_term l.choices v) (tree l.fn.terms l.set)) (of_type_name l.name (take l.uid-index l.uids)))
