-- What a step of a comparison comes to.
use Rattle.std.specs.Prelude.{ℕ, ◌<◌, List, length, ⊤}
use Rattle.std.specs.declared.cmp.Ordering.{Ordering}
use Rattle.sc_sorts.specs.declared.node.Node.{Node}
use Rattle.sc_terms.specs.declared.step.Step.{Step}
use Rattle.sc_terms.specs.declared.step.Step.TheVariants.{Told, Parts}
use Rattle.sc_terms.specs.Tables.{tree}
use Rattle.sc_terms.specs.Order.{tree_cmp}

-- the order that is told, or that of the two parts
abbrev pub step_order : List Node → Step → Ordering
step_order xs (Told o) = o
step_order xs (Parts a b) = tree_cmp (tree xs a) (tree xs b)

-- the parts are numbers of the table, the first below n
abbrev pub IsStepBelow : List Node → ℕ → Step → Type 0
IsStepBelow xs n (Told o) = ⊤
IsStepBelow xs n (Parts a b) = (a < n) × (b < length xs)
