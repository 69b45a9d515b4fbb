use Rattle.std.proofs.Common.{◌≡◌, ◌<◌}
use Rattle.sc_generated.specs.Generated.{drawn, draws}
use Rattle.sc_generated.proofs.draws.draws.Given as goal

-- the numbers so far are drawn, and the last of them is the one from which the next is
abbrev pub invariant-loop : goal.invariant-loop
invariant-loop l = record {
  items : l.drawn.items ≡ draws l.fn.count l.counter;
  last : l.x ≡ drawn l.fn.count l.counter;
  small : l.x < 4294967296;
}
