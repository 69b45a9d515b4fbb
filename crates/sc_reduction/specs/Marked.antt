-- What calls within the crate ask.
use Rattle.std.specs.Prelude.{◌≡◌, ℕ, List, Bool, IsSomeAnd, length, slice_get, ⊤}
use Rattle.std.specs.List.{AllByRecursion}
use Rattle.sc_ast.specs.Literals.{literals}
use Rattle.sc_schema.specs.Declarations.{environments}
use Rattle.sc_world.specs.WellFormed.{IsWellFormed}
use Rattle.sc_reduction.specs.Reductions.{Asked, asked_of}
use Rattle.sc_reduction.specs.Trials.{Trial}
use Rattle.sc_reduction.specs.declared.comparing.Task.{Task}
use Rattle.sc_reduction.specs.declared.fate.Fate.{Fate}
use Rattle.sc_reduction.specs.declared.fate.Fate.TheVariants.{Dropped, Kept, Unproved, TooLarge}

abbrev pub trial_of : Task → List Bool → List Bool → Trial
trial_of t left right = record {
  schema = t.schema.now;
  policies = t.query.now.first;
  left = left;
  right = right;
  budget = t.budget;
}

abbrev pub asked_by : Task → Asked
asked_by t = asked_of t.schema.now t.query.now t.budget

-- where a policy was kept by a world, that is well-formed for its environment
abbrev pub HasWorld : Asked → Fate → Type 0
HasWorld r Dropped = ⊤
HasWorld r (Kept n w) = IsSomeAnd (slice_get (environments r.schema) n)
    (λ env. IsWellFormed r.schema env (literals r.policies) w)
HasWorld r (Unproved n log) = ⊤
HasWorld r (TooLarge n) = ⊤

-- the first that is open
abbrev pub first_open : Fate → Fate → Fate
first_open Dropped next = next
first_open (Kept n w) next = Kept n w
first_open (Unproved n log) next = Unproved n log
first_open (TooLarge n) next = TooLarge n
