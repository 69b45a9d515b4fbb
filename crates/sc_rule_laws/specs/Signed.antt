-- What a rule says: that some of a few terms has the truth that stands before it.
use Rattle.std.specs.Prelude.{◌≡◌, ⊤, Bool, true, false, not, List, Option, Some, None, if◌then◌else◌}
use Rattle.std.specs.List.{list_any}
use Rattle.sc_world.specs.declared.world.World.{World}
use Rattle.sc_terms.specs.Trees.{Tree}
use Rattle.sc_terms.specs.Values.{val, truth}

abbrev pub Signed : Type 0
Signed = Bool × Tree

-- what a rule says of some terms, and nothing where they aren't of its form
abbrev pub Said : Type 0
Said = Option (List Signed)

-- the term is true
abbrev pub so : Tree → Signed
so t = (true, t)

-- the term is false, or else
abbrev pub unless : Tree → Signed
unless t = (false, t)

-- what is said where a test passes
abbrev pub given : Bool → List Signed → Said
given test parts = if test then Some parts else None

-- ---- truth

-- the term is true in a world
abbrev pub is_true : Tree → World → Bool
is_true t w = truth (val t w)

-- the signed term has its truth
abbrev pub holds_in : World → Signed → Bool
holds_in w s = if s.0 then is_true s.1 w else not (is_true s.1 w)

-- some signed term has
unfoldable pub some_holds : World → List Signed → Bool
some_holds w parts = list_any (holds_in w) parts

-- what a rule says of some terms holds in a world
abbrev pub Holds : World → Said → Type 0
Holds w None = ⊤
Holds w (Some parts) = some_holds w parts ≡ true
