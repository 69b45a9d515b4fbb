use Rattle.std.proofs.Common.{subst}
use Rattle.std.specs.List.Sorted.{IsStrictlySortedBy}
use Rattle.sc_schema.specs.Declarations.{Declarations, environments, env_cmp}
use Rattle.sc_schema.proofs.EnvironmentLaws.{environments_ascend}
use Rattle.sc_schema.proofs.schema.Schema.laws.Goals as goal

pub returns-clause-ordered : goal.returns-clause-ordered
returns-clause-ordered c =
    subst (λ (s : Declarations). IsStrictlySortedBy env_cmp (environments s)) c.self.view_is (environments_ascend _ c.self.invariant.0)
