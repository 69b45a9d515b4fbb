-- The property of worlds that a question asks of policy sets.
use Rattle.std.specs.Prelude.{◌&&◌, ◌||◌, not, List, Bool, true, false}
use Rattle.std.specs.List.{list_any}
use Rattle.sc_ast.specs.declared.policy.Policy.{Policy}
use Rattle.sc_world.specs.declared.world.World.{World}
use Rattle.sc_auth.specs.Decisions.{allows, errs}
use Rattle.sc_question.specs.declared.question.Question.{Question}
use Rattle.sc_question.specs.declared.question.Question.TheVariants.{NeverErrors, AlwaysAllows, AlwaysDenies, Implies, Equivalent, Disjoint}

abbrev pub same : Bool → Bool → Bool
same true b = b
same false b = not b

-- a world has the property; the first three questions ask of the first set alone
abbrev pub has : Question → List Policy → List Policy → World → Bool
has NeverErrors a b w = not (list_any (errs w) a)
has AlwaysAllows a b w = allows w a
has AlwaysDenies a b w = not (allows w a)
has Implies a b w = not (allows w a) || allows w b
has Equivalent a b w = same (allows w a) (allows w b)
has Disjoint a b w = not (allows w a && allows w b)
