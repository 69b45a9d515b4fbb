-- Which file's call failed last.
use Rattle.std.proofs.Common.{◌≡◌, ℕ, List, Option, Some, option_map, sym, ap, subst}
use Rattle.std.specs.Prelude.{String, string_bytes}
use Rattle.std.specs.Global.{Global}
use Rattle.sc_outside.specs.Reads.{IsLast}

abbrev names : Option (String Global) → Option (List ℕ)
names kept = option_map (λ name. string_bytes name) kept

-- a copy of the name that is kept tells it
pub last_kept : (last kept : Option (String Global)) (name : List ℕ) (file : Option (List ℕ)) → IsLast (names kept) (Some name) → last ≡ kept → file ≡ Some name → IsLast (names last) file
last_kept last kept name file h e f =
    subst (IsLast (names last)) (sym f) (subst (λ (failed : Option (List ℕ)). IsLast failed (Some name)) (ap names (sym e)) h)
