-- Texts that were found, by their signs.
use Rattle.std.specs.Prelude.{◌≡◌, ◌&&◌, ◌++◌, ◌⊎◌, ℕ, Bool, true, false, List, [], ◌∷◌, map, unwrap_or, Option, is_some, refl}
use Rattle.std.specs.List.{AllByRecursion}
use Rattle.std.specs.Map.{lookup}
use Rattle.std.specs.Str.{chars}
use Rattle.sc_clauses.specs.Clauses.{bool_eq}
use Rattle.sc_languages.specs.Strings.{AreStrings}
use Rattle.sc_lists.specs.Members.{Has}
use Rattle.sc_terms.specs.Trees.{Tree}
use Rattle.sc_rule_laws.specs.Strings.{Pattern}
use Rattle.sc_model_laws.specs.Assignments.{Assignment}
use Rattle.sc_model_laws.specs.Names.{Name, Texts, signs_of}

abbrev pub Table : Type 0
Table = List (List Bool × List Name)

abbrev pub same_signs : List Bool → List Bool → Bool
same_signs [] [] = true
same_signs (b ∷ v) (c ∷ w) = bool_eq b c && same_signs v w
same_signs _ _ = false

-- the texts for some signs
abbrev pub texts_at : Table → List Bool → Option (List Name)
texts_at table v = lookup (same_signs v) table

abbrev pub texts_in : Table → Texts
texts_in table v = unwrap_or (texts_at table v) []

-- each entry has texts with its signs, so many of them or all
abbrev pub AreFound : List Pattern → ℕ → Table → Type 0
AreFound qs wanted table =
    AllByRecursion (λ (e : List Bool × List Name). AreStrings qs e.0 wanted (map chars e.1)) table

-- signs were there, or were put last with their texts
abbrev pub IsEntered : List Pattern → ℕ → Table → Table → List Bool → Type 0
IsEntered qs wanted old new v =
    ((new ≡ old) × (is_some (texts_at old v) ≡ true))
    ⊎ ((ts : List Name) × AreStrings qs v wanted (map chars ts) × (new ≡ old ++ (v, ts) ∷ []))

-- and so the signs of each of these strings that isn't to come
pub record AreEntered (m : Assignment) (qs : List Pattern) (wanted : ℕ) (all rest : List Tree) (table : Table)
    : Type 0 where
  pub found : AreFound qs wanted table
  pub there : (x : Tree) → Has all x → Has rest x ⊎ (is_some (texts_at table (signs_of m qs x)) ≡ true)

-- ---- worked rows

pub second_entry : (us ts : List Name) → texts_in ((true ∷ [], us) ∷ (false ∷ [], ts) ∷ []) (false ∷ []) ≡ ts
second_entry us ts = refl

pub no_entry : (us : List Name) → texts_in ((true ∷ [], us) ∷ []) (false ∷ []) ≡ []
no_entry us = refl
