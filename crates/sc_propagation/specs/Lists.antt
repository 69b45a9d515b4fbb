-- A list of clauses for each literal.
use Rattle.std.specs.Prelude.{◌≡◌, ◌≢◌, ℕ, List, [], Bool, true, false, length}
use Rattle.std.specs.List.{slice_index_or}
use Rattle.sc_clauses.specs.declared.lit.Lit.{Lit}
use Rattle.sc_propagation.specs.declared.lists.Lists.{Lists}

abbrev pub lists_of : Lists → Bool → List (List ℕ)
lists_of o false = o.atoms.items
lists_of o true = o.negations.items

-- the list of a literal
abbrev pub places_of : Lists → Lit → List ℕ
places_of o l = slice_index_or (lists_of o l.negated) l.atom []

-- empty lists for n atoms
pub record AreEmpty (n : ℕ) (o : Lists) : Type 0 where
  pub sized : (sign : Bool) → length (lists_of o sign) ≡ n
  pub empty : (l : Lit) → places_of o l ≡ []

-- one literal's list is replaced, and the others are unchanged
pub record IsListSet (lit : Lit) (ps : List ℕ) (old new : Lists) : Type 0 where
  pub sizes : (sign : Bool) → length (lists_of new sign) ≡ length (lists_of old sign)
  pub here : places_of new lit ≡ ps
  pub elsewhere : (l : Lit) → l ≢ lit → places_of new l ≡ places_of old l
