use Rattle.std.proofs.Common.{◌≡◌, ◌≤◌, ℕ, List, length}
use Rattle.sc_closure.specs.Following.{put_one, put_new}
use Rattle.sc_closure.proofs.numbers.behind.Given as goal

abbrev pub invariant-loop-first : goal.invariant-loop-first
invariant-loop-first l =
    record {
      same : (ks : List ℕ) → put_new (put_one ks l.n) l.rest ≡ put_new (put_one ks l.n) l.numbers;
      shorter : length l.rest ≤ length l.numbers;
    }

abbrev pub decreases-loop-first : goal.decreases-loop-first
decreases-loop-first l = length l.rest
