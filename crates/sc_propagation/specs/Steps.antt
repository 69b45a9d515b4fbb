-- Which steps are lawful, and which are units.
use Rattle.std.specs.Prelude.{◌≡◌, ◌-◌, ◌^◌, ◌<◌, ◌≤◌, ◌++◌, ℕ, List, length, map, true}
use Rattle.std.specs.List.{Contains, slice_index_or}
use Rattle.sc_clauses.specs.declared.lit.Lit.{Lit}
use Rattle.sc_clauses.specs.declared.step.Instance as instance
use Rattle.sc_clauses.specs.declared.step.Learned as learned
use Rattle.sc_clauses.specs.declared.step.Step.{Step}
use Rattle.sc_clauses.specs.declared.step.Step.TheVariants.{Instance, Learned}
use Rattle.sc_clauses.specs.Clauses.{Clause, negation}
use Rattle.sc_refutations.specs.Refutations.{negated, refutes}

-- x stands at place k
abbrev pub At : {X : Type 0} → List X → ℕ → X → Type 0
At xs k x = (k < length xs) × (slice_index_or xs k x ≡ x)

-- the clause of a number, counted from 1
abbrev pub IsNumbered : List Clause → ℕ → Clause → Type 0
IsNumbered clauses n c = (0 < n) × At clauses (n - 1) c

-- the literal's atom is listed: one of the first ones, counted from 1
abbrev pub IsListed : ℕ → Lit → Type 0
IsListed atoms l = (0 < l.atom) × (l.atom ≤ atoms)

abbrev pub AreListed : ℕ → Clause → Type 0
AreListed atoms c = (l : Lit) → Contains c l → IsListed atoms l

-- literals of listed atoms, none of them with its negation
abbrev pub IsClause : ℕ → Clause → Type 0
IsClause atoms c = (l : Lit) → Contains c l → IsListed atoms l × ¬ Contains c (negation l)

-- the hints show the clause by reverse unit propagation: they refute the negations of its literals
abbrev pub Shows : List Clause → Clause → List ℕ → Type 0
Shows clauses c hints = refutes clauses (negated c) hints ≡ true

-- a number other than 0, of at most 18 digits
abbrev pub IsNumber : ℕ → Type 0
IsNumber n = (0 < n) × (n < 10 ^ 18)

-- a clause that its hints show, all of it written in numbers
pub record IsShown (atoms : ℕ) (clauses : List Clause) (s : learned.Learned) : Type 0 where
  pub is_clause : IsClause atoms s.clause
  pub shows : Shows clauses s.clause s.hints
  pub some : 0 < length s.hints
  pub lit_numbers : (l : Lit) → Contains s.clause l → IsNumber l.atom
  pub hint_numbers : (h : ℕ) → Contains s.hints h → IsNumber h

-- the clause that a step adds to those before it
abbrev pub added : (instance.Instance → Clause) → Step → Clause
added clause_of (Instance i) = clause_of i
added clause_of (Learned s) = s.clause

-- the clauses given, and those that the steps add
abbrev pub after : (instance.Instance → Clause) → List Clause → List Step → List Clause
after clause_of clauses steps = clauses ++ map (added clause_of) steps

-- an instance that the rules have, of listed atoms; or a clause that its hints show
abbrev pub IsLawful : ℕ → (instance.Instance → Type 0) → (instance.Instance → Clause) → List Clause → Step → Type 0
IsLawful atoms has_instance clause_of clauses (Instance i) = has_instance i × IsClause atoms (clause_of i)
IsLawful atoms has_instance clause_of clauses (Learned s) = IsShown atoms clauses s
