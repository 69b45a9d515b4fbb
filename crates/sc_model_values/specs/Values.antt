-- What a value shows: nothing where it is an option that is absent.
use Rattle.std.specs.Prelude.{◌≡◌, Option, Some, None, refl}
use Rattle.sc_values.specs.declared.value.Value.{Value}
use Rattle.sc_terms.specs.Values.{Val, it, maybe}

abbrev pub shown : Val → Option Value
shown (it x) = Some x
shown (maybe o) = o

-- ---- worked rows

pub of_value : (x : Value) → shown (it x) ≡ Some x
of_value x = refl

pub of_held : (x : Value) → shown (maybe (Some x)) ≡ Some x
of_held x = refl

pub of_absent : shown (maybe None) ≡ None
of_absent = refl
