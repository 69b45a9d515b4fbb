-- The truth of terms in a world, and what a definition says of it.
use Rattle.std.specs.Prelude.{◌≡◌, Bool, true, false, not, List, [], ◌∷◌, Option, Some, None, IfSome, Contains}
use Rattle.std.specs.List.{list_all}
use Rattle.sc_names.specs.declared.uid.Uid.{Uid}
use Rattle.sc_schema.specs.declared.declarations.Env.{Env}
use Rattle.sc_schema.specs.Declarations.{Declarations}
use Rattle.sc_schema.specs.Lawful.{IsLawful}
use Rattle.sc_world.specs.declared.world.World.{World}
use Rattle.sc_world.specs.WellFormed.{IsWellFormed}
use Rattle.sc_sorts.specs.declared.sort.Sort.TheVariants as sort
use Rattle.sc_bits.specs.Blocks.{AreBlockBits}
use Rattle.sc_terms.specs.Trees.{Tree}
use Rattle.sc_terms.specs.Values.{val, truth}
use Rattle.sc_terms.specs.Folds.{bit_term}
use Rattle.sc_term_laws.specs.Judging.{IsTermOf}
use Rattle.sc_term_definitions.specs.declared.function.Shape.{Shape}
use Rattle.sc_term_definitions.specs.declared.function.Shape.TheVariants.{Table, All, NotAll, Fixed, Free}
use Rattle.sc_term_definitions.specs.Functions.{value_of}
use Rattle.sc_term_definitions.specs.Definitions.{shape_of, inputs_of}

-- the term is true
abbrev pub is_true : Tree → World → Bool
is_true t w = truth (val t w)

-- the truth values of inputs, the second negated where the table is of a difference
abbrev pub turned : Bool → List Bool → List Bool
turned true (u ∷ v ∷ us) = u ∷ not v ∷ us
turned true (u ∷ []) = u ∷ []
turned true [] = []
turned false us = us

-- what a definition makes of the truth values of its inputs, where it says something
abbrev pub defined : Shape → List Bool → Option Bool
defined (Table f turn) us = Some (value_of f (turned turn us))
defined All us = Some (list_all (λ u. u) us)
defined NotAll us = Some (not (list_all (λ u. u) us))
defined (Fixed b) us = Some b
defined Free us = None

abbrev pub truths_of : List Tree → World → List Bool
truths_of [] w = []
truths_of (t ∷ ts) w = is_true t w ∷ truths_of ts w

-- a term is what its definition makes of its inputs
abbrev pub IsAsDefined : Tree → World → Type 0
IsAsDefined x w = IfSome (defined (shape_of x) (truths_of (inputs_of x) w)) (λ b. is_true x w ≡ b)

-- of every truth value, in each well-formed world
abbrev pub DefinitionsHold : Type 0
DefinitionsHold = (d : Declarations) (env : Env) (written : List Uid) (w : World) (x : Tree)
    → IsLawful d → IsWellFormed d env written w → IsTermOf d env written sort.Bool x → IsAsDefined x w

-- the bits of every address term are those of an address
abbrev pub AddressesHold : Type 0
AddressesHold = (d : Declarations) (env : Env) (written : List Uid) (w : World) (x : Tree)
    → IsLawful d → IsWellFormed d env written w → IsTermOf d env written sort.Ip x
    → AreBlockBits (λ i. is_true (bit_term x i) w)

-- the inputs of every truth value are truth values
abbrev pub InputsAreTerms : Type 0
InputsAreTerms = (d : Declarations) (env : Env) (written : List Uid) (x t : Tree)
    → IsTermOf d env written sort.Bool x → Contains (inputs_of x) t → IsTermOf d env written sort.Bool t
