use Rattle.std.proofs.Common.{◌≡◌, ◌++◌, map, take}
use Rattle.sc_ast.specs.declared.literal.EntityLiteral.{EntityLiteral}
use Rattle.sc_ast.proofs.written.put_entities.Given as goal

abbrev pub invariant-loop-l : goal.invariant-loop-l
invariant-loop-l l = l.uids ≡ l.initial.uids ++ map (λ (x : EntityLiteral). x.uid) (take l.l-index l.ls)
