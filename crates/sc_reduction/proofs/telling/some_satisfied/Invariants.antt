use Rattle.std.proofs.Common.{◌≡◌, map}
use Rattle.std.specs.List.{list_any}
use Rattle.sc_auth.specs.Standings.{standing_of}
use Rattle.sc_goal.specs.Selections.{selected}
use Rattle.sc_world.specs.declared.world.World.{World}
use Rattle.sc_reduction.specs.Telling.{satisfied_with}
use Rattle.sc_reduction.proofs.TellingLaws.{AnyFrom}
use Rattle.sc_reduction.proofs.telling.some_satisfied.Given as goal

abbrev pub invariant-loop-place : goal.invariant-loop-place
invariant-loop-place l = (w : World) → l.standings ≡ map (standing_of w) l.policies → list_any (satisfied_with l.effect w) (selected l.marks l.policies) ≡ AnyFrom (satisfied_with l.effect w) l.place l.marks l.policies
