use Rattle.std.proofs.Common.{◌≡◌, ◌-◌, []}
use Rattle.std.specs.Fmt.{digits_onto}
use Rattle.std.specs.Prelude.{false}
use Rattle.sc_smtlib_forms.proofs.characters.hexadecimal.Given as goal

abbrev pub invariant-loop-turn : goal.invariant-loop-turn
invariant-loop-turn l = digits_onto (64 - l.turn) 16 false l.left l.out.items ≡ digits_onto 64 16 false l.number []
