-- Numbers of a table that stand for what an expression is compiled to, and for the variables of requests.
use Rattle.std.specs.Prelude.{◌≡◌, ℕ, ◌<◌, List, All, length, map}
use Rattle.sc_ast.specs.declared.expr.Variable.TheVariants.{Principal, Resource, Context}
use Rattle.sc_schema.specs.declared.declarations.Env.{Env}
use Rattle.sc_schema.specs.Declarations.{Declarations}
use Rattle.sc_sorts.specs.declared.node.Node.{Node}
use Rattle.sc_terms.specs.Trees.{Tree}
use Rattle.sc_terms.specs.Tables.{tree, StandsFor}
use Rattle.sc_constructs.specs.declared.opt.Opt.{Opt}
use Rattle.sc_constructs.specs.declared.setting.Variables.{Variables}
use Rattle.sc_constructs.specs.Code.{Code, CodeField, code}
use Rattle.sc_constructs.specs.Objects.{variable_term}

-- both numbers stand for both terms
pub record StandsAs (xs : List Node) (o : Opt) (c : Code) : Type 0 where
  pub ok : StandsFor xs o.ok c.ok
  pub val : StandsFor xs o.val c.val

-- both are numbers of the table
pub record IsCode (xs : List Node) (o : Opt) : Type 0 where
  pub ok : o.ok < length xs
  pub val : o.val < length xs

-- the terms that two numbers stand for
abbrev pub code_at : List Node → Opt → Code
code_at xs o = code (tree xs o.ok) (tree xs o.val)

-- ---- many

abbrev pub codes_at : List Node → List Opt → List Code
codes_at xs os = map (code_at xs) os

abbrev pub AreCodes : List Node → List Opt → Type 0
AreCodes xs os = All (IsCode xs) os

-- numbers of the table, which stand for what some expressions are compiled to
pub record StandAs (xs : List Node) (os : List Opt) (cs : List Code) : Type 0 where
  pub within : AreCodes xs os
  pub are : codes_at xs os ≡ cs

-- what a field is compiled to
abbrev pub OptField : Type 0
OptField = List ℕ × Opt

abbrev pub field_at : List Node → OptField → CodeField
field_at xs f = (f.0, code_at xs f.1)

abbrev pub AreFields : List Node → List OptField → Type 0
AreFields xs fs = All (λ (f : OptField). IsCode xs f.1) fs

pub record StandAsFields (xs : List Node) (os : List OptField) (fs : List CodeField) : Type 0 where
  pub within : AreFields xs os
  pub are : map (field_at xs) os ≡ fs

-- numbers of the table, which stand for these terms
pub record StandForAll (xs : List Node) (ns : List ℕ) (ts : List Tree) : Type 0 where
  pub within : All (λ (n : ℕ). n < length xs) ns
  pub are : map (tree xs) ns ≡ ts

-- ---- variables

-- they stand for the variables of an environment's requests
pub record HasVariables (xs : List Node) (s : Declarations) (env : Env) (v : Variables) : Type 0 where
  pub principal : StandsFor xs v.principal (variable_term s env Principal)
  pub resource : StandsFor xs v.resource (variable_term s env Resource)
  pub context : StandsFor xs v.context (variable_term s env Context)
