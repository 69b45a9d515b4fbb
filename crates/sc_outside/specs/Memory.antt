-- Files and a sink in memory, of which the calls of given numbers fail.
use Rattle.std.specs.Prelude.{◌≡◌, ◌++◌, ℕ, List, take, nat_eq, Vec, String, Option, Some, None, option_map, Result, Ok, Err}
use Rattle.std.specs.Global.{Global}
use Rattle.std.specs.List.{find}
use Rattle.std.specs.BTreeMap.{BTreeMap, get_by_text}
use Rattle.sc_outside.specs.declared.faults.SinkFault.{SinkFault}
use Rattle.sc_outside.specs.declared.faults.SinkFault.TheVariants.{Failed, NoMemory}

-- what the file of a name holds, where there is one
abbrev pub content_in : BTreeMap (String Global) (Vec ℕ Global) → List ℕ → Option (List ℕ)
content_in files name = option_map (λ bytes. bytes.items) (get_by_text files name)

-- how many bytes the call of a number keeps, where it fails
abbrev pub kept_of : List (ℕ × ℕ) → ℕ → Option ℕ
kept_of failing call = option_map (λ p. p.1) (find (λ p. nat_eq p.0 call) failing)

-- A write fails exactly where its call is to fail, and then keeps as many bytes of the piece as it is to keep.
abbrev pub KeepsOf : Option ℕ → List ℕ → List ℕ → List ℕ → Result Unit SinkFault → Type 0
KeepsOf kept old new piece (Ok _) = (kept ≡ None) × (new ≡ old ++ piece)
KeepsOf kept old new piece (Err Failed) = (n : ℕ) × (kept ≡ Some n) × (new ≡ old ++ take n piece)
KeepsOf kept old new piece (Err NoMemory) = new ≡ old
