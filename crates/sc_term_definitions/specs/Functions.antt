-- What a truth table makes of its inputs, and its rows.
use Rattle.std.specs.Prelude.{◌&&◌, ◌||◌, ◌==◌, ℕ, zero, suc, Bool, true, false, not, List, [], ◌∷◌, ◌++◌, map, get_or, if◌then◌else◌}
use Rattle.sc_bits.specs.Adders.{differ, odd, majority, sum_overflows, difference_overflows}
use Rattle.sc_bits.specs.Orders.{is_below}
use Rattle.sc_term_definitions.specs.declared.function.Function.{Function}
use Rattle.sc_term_definitions.specs.declared.function.Function.TheVariants as function
use Rattle.sc_term_definitions.specs.declared.function.Shape.{Shape}
use Rattle.sc_term_definitions.specs.declared.function.Shape.TheVariants.{Table}

abbrev pub of_three : Function → Bool → Bool → Bool → Bool
of_three function.Itself u v w = u
of_three function.Both u v w = u && v
of_three function.Either u v w = u || v
of_three function.Same u v w = not (differ u v)
of_three function.Chosen u v w = if u then v else w
of_three function.Odd u v w = odd u v w
of_three function.Majority u v w = majority u v w
of_three function.SumOverflows u v w = sum_overflows u v w
of_three function.DifferenceOverflows u v w = difference_overflows u v w
of_three function.Below u v w = is_below u v w
of_three function.SignedBelow u v w = is_below v u w

-- of inputs in order; those past the end count as false
abbrev pub value_of : Function → List Bool → Bool
value_of f us = of_three f (get_or us 0 false) (get_or us 1 false) (get_or us 2 false)

-- the rows of a table of so many inputs, counted in binary with the first input highest
unfoldable pub rows : ℕ → List (List Bool)
rows zero = [] ∷ []
rows (suc n) = map (λ (us : List Bool). false ∷ us) (rows n) ++ map (λ (us : List Bool). true ∷ us) (rows n)

-- of a difference the second input is negated
abbrev pub is_turned : Shape → ℕ → Bool
is_turned (Table f true) i = i == 1
is_turned _ i = false
