-- Instances whose clauses imply a literal, or are falsified.
use Rattle.std.specs.Prelude.{◌≡◌}
use Rattle.sc_clauses.specs.declared.step.Instance as instance
use Rattle.sc_clauses.specs.Clauses.{Clause}
use Rattle.sc_search.specs.declared.giving.Given.{Given}
use Rattle.sc_propagation.specs.Giving.{Gives}
use Rattle.sc_propagation.specs.declared.trail.Trail.{Trail}

-- an instance of the source with its clause, which implies a literal or is falsified
pub record IsGiven (has_instance : instance.Instance → Type 0) (clause_of : instance.Instance → Clause) (t : Trail)
    (g : Given) : Type 0 where
  pub accepted : has_instance g.instance
  pub clause_is : g.clause ≡ clause_of g.instance
  pub gives : Gives t g.clause
