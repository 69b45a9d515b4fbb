-- The names of the questions, and which are asked of two policy sets.
use Rattle.std.specs.Prelude.{ℕ, List, Bool, true, false, codes}
use Rattle.sc_question.specs.declared.question.Question.{Question}
use Rattle.sc_question.specs.declared.question.Question.TheVariants.{NeverErrors, AlwaysAllows, AlwaysDenies, Implies, Equivalent, Disjoint}

abbrev pub name_of : Question → List ℕ
name_of NeverErrors = codes "never-errors"
name_of AlwaysAllows = codes "always-allows"
name_of AlwaysDenies = codes "always-denies"
name_of Implies = codes "implies"
name_of Equivalent = codes "equivalent"
name_of Disjoint = codes "disjoint"

-- the question is asked of two sets
abbrev pub takes_two : Question → Bool
takes_two NeverErrors = false
takes_two AlwaysAllows = false
takes_two AlwaysDenies = false
takes_two Implies = true
takes_two Equivalent = true
takes_two Disjoint = true
