-- The literals that are known in the check of a step, by a mark for each literal: the last step in which it was false.
use Rattle.std.specs.Prelude.{◌==◌, ℕ, List, Bool, false, nat_lt, nat_le, Option, Some, None, slice_get}
use Rattle.std.specs.List.{list_all}
use Rattle.sc_clauses.specs.Clauses.{Clause, negation}
use Rattle.sc_refutations.specs.Arenas.{code_of}
use Rattle.sc_refutations.specs.Refutations.{LitSet}

-- the mark is of this step
abbrev pub says : ℕ → Option ℕ → Bool
says step None = false
says step (Some mark) = mark == step

-- the literals whose negations the marks of a step make false
abbrev pub marked : ℕ → List ℕ → LitSet
marked step marks l = says step (slice_get marks (code_of (negation l)))

-- each literal has a mark
abbrev pub have_marks : ℕ → Clause → Bool
have_marks count c = list_all (λ l. nat_lt (code_of l) count) c

-- no mark is of a later step
abbrev pub is_stamped : ℕ → List ℕ → Bool
is_stamped step marks = list_all (λ mark. nat_le mark step) marks
