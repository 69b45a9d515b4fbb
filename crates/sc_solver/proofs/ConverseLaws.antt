-- The truths of a well-formed world in which the goal is true are a consistent assignment.
use Rattle.std.proofs.Common.{Contains, ap, is_some}
use Rattle.sc_clauses.specs.Clauses.{Clause}
use Rattle.sc_world.specs.declared.world.World.{World}
use Rattle.sc_footprint.specs.Problems.{Posed, IsPosed}
use Rattle.sc_footprint.specs.Definitions.{defining}
use Rattle.sc_footprint.specs.Theories.{IsClauseOf, TermsHold}
use Rattle.sc_footprint.specs.Truths.{truths, IsTrueIn, Satisfies}
use Rattle.sc_solver.specs.Theories.{rule_clause}
use Rattle.sc_solver.specs.OtherLaws.{other_sound, other_lawful}
use Rattle.sc_solver.specs.Rebuilding.{TruthsAreConsistent}
use Rattle.sc_solver.proofs.ClauseLaws.{unfalsified}

-- what holds of the defining clauses of each problem
abbrev pub AreLawful : Type 0
AreLawful = (p : Posed) (c : Clause) → IsPosed p → Contains (defining p) c → IsClauseOf p c

abbrev pub HoldWithGoal : Type 0
HoldWithGoal = (p : Posed) (w : World) (c : Clause) → IsPosed p → Satisfies p w → Contains (defining p) c → IsTrueIn p w c

pub truths_are_consistent : TermsHold → AreLawful → HoldWithGoal → TruthsAreConsistent
truths_are_consistent terms lawful hold p w m posed s are = record {
  total = λ n least most. ap is_some (are n least most);
  defined = λ c h. unfalsified p (truths p w) m are c (lawful p c posed h) (hold p w c posed s h);
  ruled = λ i h. unfalsified p (truths p w) m are (rule_clause p i) (other_lawful p i terms posed h) (other_sound p i w terms posed h s.well_formed);
}
