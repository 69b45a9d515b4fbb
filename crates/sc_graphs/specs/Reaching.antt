-- What is reached, whatever follows what: keys of any kind, or the numbers of a graph's nodes.
use Rattle.std.specs.Prelude.{◌≢◌}
use Rattle.std.specs.declared.cmp.Ordering.{Ordering}
use Rattle.std.specs.declared.cmp.Ordering.TheVariants.{Less}

-- from a key one gets to those that follow it, and to those that one gets to from these
pub data Reaches {K : Type 0} (follows : K → K → Type 0) : K → K → Type 0 where
  step : (a b : K) → follows a b → Reaches follows a b
  on : (a b c : K) → follows a b → Reaches follows b c → Reaches follows a c

-- no key reaches itself
abbrev pub NoCycle : {K : Type 0} → (K → K → Type 0) → Type 0
NoCycle {K} follows = (k : K) → ¬ Reaches follows k k

-- the least key that reaches itself
pub record IsLeastCycle {K : Type 0} (cmp : K → K → Ordering) (follows : K → K → Type 0) (k : K) : Type 0 where
  pub cycle : Reaches follows k k
  pub least : (other : K) → Reaches follows other other → cmp other k ≢ Less
