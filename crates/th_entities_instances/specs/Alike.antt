-- What tells that two places of one sort are alike, by their numbers in the table. No public promise speaks of it.
use Rattle.std.specs.Prelude.{◌≡◌, ◌<◌, ◌==◌, ⊤, ℕ, nat_lt, List, [], ◌∷◌, length, Option, Some, None, option_map, if◌then◌else◌}
use Rattle.sc_sorts.specs.declared.sort.Sort.{Sort, Sort-F}
use Rattle.sc_sorts.specs.declared.sort.Sort.TheOpen as s
use Rattle.sc_terms.specs.Trees.{Tree}
use Rattle.sc_terms.specs.Tables.{tree}
use Rattle.sc_terms.specs.Folds.{equal_term, present_term, bit_term, literal_of}
use Rattle.sc_footprint.specs.Problems.{Posed, term_of}
use Rattle.sc_rule_laws.specs.Places.{half}
use Rattle.sc_rule_laws.specs.Signed.{Signed, so, unless}
use Rattle.sc_rule_laws.specs.Terms.{member}
use Rattle.th_entities_instances.specs.declared.alike.Measure.{Measure}
use Rattle.th_entities_instances.specs.declared.alike.Measure.TheVariants.{Truth, Presence, Bit, Member}
use Rattle.th_entities_instances.specs.declared.alike.Half.{Half}
use Rattle.th_entities_instances.specs.declared.alike.Half.TheVariants.{Equation, Told}
use Rattle.th_entities_instances.specs.declared.alike.Alike.{Alike}

-- a term is no literal, so that its bits don't fold
abbrev pub IsNoLiteral : Tree → Type 0
IsNoLiteral t = literal_of t ≡ None

-- the half of a number, by the sort of the places and by the closed term of that number
abbrev pub only : ℕ → Half → Option Half
only i h = if i == 0 then Some h else None

abbrev pub bit_below : ℕ → ℕ → Option Half
bit_below count i = if nat_lt i count then Some (Told (Bit i)) else None

abbrev pub half_at : Sort-F Sort → ℕ → Option ℕ → Option Half
half_at s.Bool i z = only i (Told Truth)
half_at s.String i z = only i Equation
half_at (s.Entity name us) i z = only i Equation
half_at (s.Option held) i z = only i (Told Presence)
half_at s.Long i z = bit_below 64 i
half_at s.Decimal i z = bit_below 64 i
half_at s.Ip i z = bit_below 257 i
half_at (s.Set k) i z = option_map (λ (n : ℕ). Told (Member n)) z
half_at (s.Record fields) i z = None

-- what is asked of a place
abbrev pub told : Posed → Measure → Tree → Tree
told p Truth x = x
told p Presence x = present_term x
told p (Bit i) x = bit_term x i
told p (Member z) x = member (tree p.nodes z) x

abbrev pub half_parts : Posed → Half → Tree → Tree → List Signed
half_parts p Equation x y = so (equal_term x y) ∷ []
half_parts p (Told m) x y = unless (told p m x) ∷ so (told p m y) ∷ []

abbrev pub half_size : Half → ℕ
half_size Equation = 1
half_size (Told m) = 2

abbrev pub alike_parts : Posed → Alike → List Signed
alike_parts p a = half_parts p a.half (tree p.nodes a.first) (tree p.nodes a.second)

-- ---- numbers of the table

abbrev pub IsMeasureIn : Posed → Measure → Type 0
IsMeasureIn p (Member z) = z < length p.nodes
IsMeasureIn p _ = ⊤

abbrev pub IsHalfIn : Posed → Half → Type 0
IsHalfIn p (Told m) = IsMeasureIn p m
IsHalfIn p Equation = ⊤

pub record IsAlikeIn (p : Posed) (a : Alike) : Type 0 where
  pub first_in : a.first < length p.nodes
  pub second_in : a.second < length p.nodes
  pub first_other : IsNoLiteral (tree p.nodes a.first)
  pub second_other : IsNoLiteral (tree p.nodes a.second)
  pub half_in : IsHalfIn p a.half

-- one half of what says that two places are alike
pub record IsAlike (p : Posed) (x y i : ℕ) (a : Alike) : Type 0 where
  pub inside : IsAlikeIn p a
  pub says : half (tree p.nodes x) (tree p.nodes y) i (term_of p i) ≡ Some (alike_parts p a)

abbrev pub IsAlikeIf : Posed → ℕ → ℕ → ℕ → Option Alike → Type 0
IsAlikeIf p x y i (Some a) = IsAlike p x y i a
IsAlikeIf p x y i None = half (tree p.nodes x) (tree p.nodes y) i (term_of p i) ≡ None
