use Rattle.std.proofs.Common.{◌≡◌, map, take}
use Rattle.sc_ast.specs.Conditions.{entity}
use Rattle.sc_ast.proofs.joining.entities.Given as goal

abbrev pub invariant-loop-l : goal.invariant-loop-l
invariant-loop-l l = l.others ≡ map entity (take l.l-index l.ls)
