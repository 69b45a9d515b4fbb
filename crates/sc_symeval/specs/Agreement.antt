-- When terms agree with what an expression comes to in a world.
use Rattle.std.specs.Prelude.{◌≡◌, true, false, Ok, Err}
use Rattle.sc_eval.specs.Outcomes.{Outcome}
use Rattle.sc_world.specs.declared.world.World.{World}
use Rattle.sc_terms.specs.Values.{Val, val, it, yes}
use Rattle.sc_constructs.specs.Code.{Code}

-- where there is a value, the first is true and the second is that value; where there is an error, the first is false
abbrev pub Meets : Val → Val → Outcome → Type 0
Meets ok t (Ok x) = (ok ≡ yes true) × (t ≡ it x)
Meets ok t (Err e) = ok ≡ yes false

abbrev pub Agrees : World → Code → Outcome → Type 0
Agrees w c o = Meets (val c.ok w) (val c.val w) o
