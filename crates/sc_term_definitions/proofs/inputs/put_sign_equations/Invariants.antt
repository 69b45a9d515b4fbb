use Rattle.std.proofs.Common.{◌-◌, map}
use Rattle.sc_terms.specs.Tables.{tree}
use Rattle.sc_sorts.specs.declared.node.UnaryOp.TheVariants as unary
use Rattle.sc_terms.specs.Trees.{one}
use Rattle.sc_terms.specs.Folds.{equal_term}
use Rattle.sc_term_definitions.specs.Definitions.{counted}
use Rattle.sc_term_definitions.specs.Making.{Puts}
use Rattle.sc_term_definitions.proofs.inputs.put_sign_equations.Given as goal

abbrev pub invariant-loop-place : goal.invariant-loop-place
invariant-loop-place l = Puts l.fn.terms l.terms l.initial.numbers.items l.numbers.items (map (λ j. equal_term (one (unary.ProductRow 128 63) (tree l.fn.terms l.product)) (one (unary.ProductRow 128 j) (tree l.fn.terms l.product))) (counted 64 (l.place - 64)))
