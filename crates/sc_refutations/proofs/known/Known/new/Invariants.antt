use Rattle.std.proofs.Common.{◌≡◌, ◌*◌, true, length}
use Rattle.sc_refutations.specs.Known.{is_stamped}
use Rattle.sc_refutations.proofs.known.Known.new.Given as goal

abbrev pub invariant-loop : goal.invariant-loop
invariant-loop l = record { count : length l.marks.items ≡ l.counter * 2; stamped : is_stamped 0 l.marks.items ≡ true }
