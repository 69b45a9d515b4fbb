-- Compiled policies by the numbers of their terms.
use Rattle.std.specs.Prelude.{◌≡◌, List, Bool, true, false, not, All, map}
use Rattle.sc_ast.specs.declared.policy.Effect.{Effect}
use Rattle.sc_auth.specs.Decisions.{permits}
use Rattle.sc_sorts.specs.declared.node.Node.{Node}
use Rattle.sc_constructs.specs.Numbers.{IsCode, code_at}
use Rattle.sc_symauth.specs.declared.compiled.CompiledPolicy.{CompiledPolicy}
use Rattle.sc_symauth.specs.Standings.{Compiled, with_effect}

-- the terms that a policy's numbers stand for
abbrev pub compiled_at : List Node → CompiledPolicy → Compiled
compiled_at xs p = with_effect p.effect (code_at xs p.code)

abbrev pub AreCodes : List Node → List CompiledPolicy → Type 0
AreCodes xs ps = All (λ (p : CompiledPolicy). IsCode xs p.code) ps

-- numbers of the table, which stand for what policies are compiled to
pub record AreCompiled (xs : List Node) (ps : List CompiledPolicy) (cs : List Compiled) : Type 0 where
  pub codes : AreCodes xs ps
  pub are : map (compiled_at xs) ps ≡ cs

-- policies with this effect: permits, or else forbids
abbrev pub has_effect : Bool → Effect → Bool
has_effect true = λ (e : Effect). permits e
has_effect false = λ (e : Effect). not (permits e)
