-- What private clauses speak of: expressions in a setting.
use Rattle.std.specs.Prelude.{ℕ, List, map}
use Rattle.sc_sorts.specs.declared.node.Node.{Node}
use Rattle.sc_typed.specs.declared.typed_expr.TypedExpr.{TypedExpr}
use Rattle.sc_constructs.specs.declared.setting.Setting.{Setting}
use Rattle.sc_constructs.specs.Code.{Code, CodeField}
use Rattle.sc_symeval.specs.Codes.{Part, code_of}
use Rattle.sc_constructs.specs.Numbers.{HasVariables}

-- what an expression is compiled to in the setting
abbrev pub code_in : Setting → TypedExpr → Code
code_in c x = code_of c.schema.now c.env.now x

-- the setting's variables are numbers of the table
abbrev pub IsReady : List Node → Setting → Type 0
IsReady xs c = HasVariables xs c.schema.now c.env.now c.variables

-- an expression with what it is compiled to
abbrev pub seen : Setting → TypedExpr → Part
seen c x = record { expr = x; code = code_in c x }

abbrev pub codes_in : Setting → List TypedExpr → List Code
codes_in c xs = map (code_in c) xs

abbrev pub field_in : Setting → List ℕ × TypedExpr → CodeField
field_in c f = (f.0, code_in c f.1)
