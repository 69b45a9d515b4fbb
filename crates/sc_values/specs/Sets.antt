-- Sets as ascending lists of their members.
use Rattle.std.specs.Prelude.{◌↔◌, List, Contains}
use Rattle.std.specs.List.Sorted.{IsStrictlySortedBy}
use Rattle.sc_values.specs.declared.value.Value.{Value}
use Rattle.sc_values.specs.Order.{value_cmp}

-- a set has just these members
pub record IsSetOf (members : List Value) (set : List Value) : Type 0 where
  pub ascending : IsStrictlySortedBy value_cmp set
  pub just : (x : Value) → Contains set x ↔ Contains members x

-- each member of s is one of t
abbrev pub IsSubset : List Value → List Value → Type 0
IsSubset s t = (x : Value) → Contains s x → Contains t x

-- some member of s is one of t
abbrev pub Meets : List Value → List Value → Type 0
Meets s t = (x : Value) × Contains s x × Contains t x
