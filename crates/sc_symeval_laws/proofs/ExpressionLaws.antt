-- The law of the compiler for what typing gives of an expression.
use Rattle.std.proofs.Common.{◌≡◌, Result, Ok, IfOk, subst}
use Rattle.sc_ast.specs.declared.expr.Expr.{Expr}
use Rattle.sc_schema.specs.declared.declarations.Env.{Env}
use Rattle.sc_schema.specs.Declarations.{Declarations}
use Rattle.sc_typed.specs.declared.fault.TypeFault.{TypeFault}
use Rattle.sc_typed.specs.declared.outcome.Typed.{Typed}
use Rattle.sc_typed.specs.Capabilities.{Capabilities}
use Rattle.sc_typing.specs.Typing.{typing}
use Rattle.sc_typing_laws.specs.Derivations.{Derives}
use Rattle.sc_symeval_laws.proofs.CompiledLaws as compiled
use Rattle.sc_symeval_laws.proofs.CompiledLaws.{told}
use Rattle.sc_symeval_laws.proofs.DecidedLaws.{LiteralLaw}
use Rattle.sc_symeval_laws.proofs.PolicyLaws.{ExprsAgree}

-- what typing gives is derived
abbrev pub Derived : Type 0
Derived = (s : Declarations) (env : Env) (x : Expr) (known : Capabilities) → IfOk (typing s env x known) (Derives s env x known)

pub derivation_of : Derived → (s : Declarations) (env : Env) (x : Expr) (known : Capabilities) (t : Typed) → typing s env x known ≡ Ok t → Derives s env x known t
derivation_of derived s env x known t e = subst (λ (r : Result Typed TypeFault). IfOk r (Derives s env x known)) e (derived s env x known)

pub expression_agrees : Derived → compiled.Given → compiled.Soundness → LiteralLaw → ExprsAgree
expression_agrees derived given soundness law s env literals w x known t lawful well uids held e =
    told given soundness law s env literals w lawful well (derivation_of derived s env x known t e) uids held
