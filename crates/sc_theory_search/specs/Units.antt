-- Units: lawful steps whose clauses are each new.
use Rattle.std.specs.Prelude.{◌≡◌, ◌≢◌, List, [], ◌∷◌, ◌++◌, false}
use Rattle.std.specs.List.{Contains}
use Rattle.sc_clauses.specs.Clauses.{Clause, contained}
use Rattle.sc_propagation.specs.Propagation.{IsNew}

-- It isn't empty, has not all literals of a clause before it, and has a literal such that unit propagation over the
-- clauses before it, where its other literals are false, gives neither that literal nor a conflict.
pub record IsUnit (before : List Clause) (c : Clause) : Type 0 where
  pub some : c ≢ []
  pub uncovered : (d : Clause) → Contains before d → contained d c ≡ false
  pub is_new : IsNew before c

-- each is a unit after the clauses before it
pub data AreUnits : List Clause → List Clause → Type 0 where
  no_unit : (before : List Clause) → AreUnits before []
  first_unit : (before : List Clause) (c : Clause) (cs : List Clause) → IsUnit before c
      → AreUnits (before ++ c ∷ []) cs → AreUnits before (c ∷ cs)
