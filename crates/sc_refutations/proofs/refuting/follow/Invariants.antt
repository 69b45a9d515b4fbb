use Rattle.std.proofs.Common.{◌≡◌, drop}
use Rattle.sc_refutations.specs.Arenas.{pieces}
use Rattle.sc_refutations.specs.Known.{marked}
use Rattle.sc_refutations.specs.Refutations.{refutes}
use Rattle.sc_refutations.proofs.refuting.follow.Given as goal

-- the rest of the hints show what all of them show
abbrev pub invariant-loop-i : goal.invariant-loop-i
invariant-loop-i l = record {
  number : l.known.step ≡ l.initial.known.step;
  count : l.known.count ≡ l.initial.known.count;
  rest : refutes (pieces 0 l.codes l.ends) (marked l.known.step l.known.marks.items) (drop l.i l.hints)
      ≡ refutes (pieces 0 l.codes l.ends) (marked l.initial.known.step l.initial.known.marks.items) l.hints;
}
