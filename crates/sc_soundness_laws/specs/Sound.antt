-- What the types of expressions say of their values in a world, and when capabilities hold there.
use Rattle.std.specs.Prelude.{◌≡◌, [], ◌∷◌, true, IsTrue, Result, Ok, Err, IfOk, ⊤}
use Rattle.std.specs.List.{AllByRecursion}
use Rattle.sc_lists.specs.declared.fault.Fault.{Fault}
use Rattle.sc_lists.specs.declared.fault.Fault.TheVariants.{Told, NoMemory}
use Rattle.sc_ast.specs.declared.expr.Expr.{Expr}
use Rattle.sc_ast.specs.declared.expr.Expr.TheVariants as expr
use Rattle.sc_ast.specs.declared.operator.BinaryOperator.TheVariants.{HasTag}
use Rattle.sc_schema.specs.declared.ty.Ty.{Ty}
use Rattle.sc_values.specs.declared.value.Value.{Value}
use Rattle.sc_values.specs.declared.value.Value.TheVariants as value
use Rattle.sc_world.specs.declared.world.World.{World}
use Rattle.sc_world.specs.Conforms.{conforms}
use Rattle.sc_world.specs.WellFormed.{NamesStored}
use Rattle.sc_eval.specs.declared.error.EvalError.{EvalError}
use Rattle.sc_eval.specs.declared.error.EvalError.TheVariants.{Overflow}
use Rattle.sc_eval.specs.Outcomes.{Outcome}
use Rattle.sc_eval.specs.Eval.{eval}
use Rattle.sc_typed.specs.declared.capability.Capability.{Capability}
use Rattle.sc_typed.specs.declared.capability.Key.{Key}
use Rattle.sc_typed.specs.declared.capability.Key.TheVariants.{Attribute, Tag}
use Rattle.sc_typed.specs.declared.outcome.Typed.{Typed}
use Rattle.sc_typed.specs.Capabilities.{Capabilities, nowhere}
use Rattle.sc_typed.specs.Outcomes.{ty}
use Rattle.sc_typing_rules.specs.Rules.{Operand}

-- a value is of a type, and each entity that it names is stored
pub record IsOf (w : World) (type : Ty) (x : Value) : Type 0 where
  pub conforming : IsTrue (conforms type x)
  pub stored : NamesStored w.store x

-- what is given passes; the only error is an overflow
abbrev pub OrOverflows : {A : Type 0} → (A → Type 0) → Result A EvalError → Type 0
OrOverflows P (Ok x) = P x
OrOverflows P (Err e) = e ≡ Overflow

-- what a call answers that wants memory: what is given passes; the only fault of its own is an overflow
abbrev pub AnswersOrOverflows : {A : Type 0} → (A → Type 0) → Result A (Fault EvalError) → Type 0
AnswersOrOverflows P (Ok x) = P x
AnswersOrOverflows P (Err (Told e)) = e ≡ Overflow
AnswersOrOverflows P (Err NoMemory) = ⊤

-- the test that a capability stands for
abbrev pub test_of : Expr → Key → Expr
test_of object (Attribute name) = expr.Has nowhere object (name ∷ [])
test_of object (Tag key) = expr.Binary nowhere HasTag object key

-- a capability holds in a world where its test is true
abbrev pub Holds : World → Capability → Type 0
Holds w c = eval (test_of c.object c.key) w ≡ Ok (value.Bool true)

abbrev pub AllHold : World → Capabilities → Type 0
AllHold w known = AllByRecursion (Holds w) known

-- what an expression comes to in a world is of its type, and where it is true, what it gives holds
pub record IsSound (w : World) (o : Outcome) (x : Typed) : Type 0 where
  pub outcome : OrOverflows (IsOf w (ty x.expr)) o
  pub given : o ≡ Ok (value.Bool true) → AllHold w x.given

-- ---- what typing gives under capabilities that hold

-- it is sound for this outcome
abbrev pub SoundAs : World → Capabilities → Outcome → Typed → Type 0
SoundAs w known o x = AllHold w known → IsSound w o x

-- what an operand gives is sound
abbrev pub Sounds : World → Operand → Type 0
Sounds w a = (known : Capabilities) → IfOk (a.typed known) (SoundAs w known (eval a.expr w))
