use Rattle.std.proofs.Common.{◌≡◌, ◌≤◌, ◌+◌, ◌-◌, length}
use Rattle.sc_term_laws.specs.Judged.{AreJudged}
use Rattle.sc_term_laws.proofs.judging.is_term.Given as goal

abbrev pub invariant-loop-i : goal.invariant-loop-i
invariant-loop-i l =
    record {
      so_far : length l.good ≡ l.i;
      within : l.i ≤ l.n + 1;
      told : AreJudged l.schema l.env l.lits l.terms l.good;
    }

abbrev pub decreases-loop-i : goal.decreases-loop-i
decreases-loop-i l = l.n + 1 - l.i
