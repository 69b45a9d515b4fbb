-- Which theory an instance belongs to, by the first letters of its rule.
use Rattle.std.specs.Prelude.{◌≡◌, ◌==◌, ℕ, Bool, List, length, codes, nat_eq, if◌then◌else◌, refl}
use Rattle.std.specs.List.{starts_with}
use Rattle.sc_solver.specs.declared.family.Family.{Family}
use Rattle.sc_solver.specs.declared.family.Family.TheVariants.{Definition, Equal, Set, Entity, String, Other}

abbrev pub begins : List ℕ → List ℕ → Bool
begins rule letters = starts_with nat_eq rule letters

-- A defining clause's rule has no letters. That entities of enumerated types are their choices is said by equations,
-- and is a rule of entities.
unfoldable pub family : List ℕ → Family
family rule =
    if length rule == 0 then Definition
    else if begins rule (codes "EQ9") then Entity
    else if begins rule (codes "EQ") then Equal
    else if begins rule (codes "SE") then Set
    else if begins rule (codes "EN") then Entity
    else if begins rule (codes "ST") then String
    else Other

-- ---- worked rows

pub se_is_of_sets : family (codes "SE8") ≡ Set
unfolding family
se_is_of_sets = refl

pub se_alone_is_of_sets : family (codes "SE") ≡ Set
unfolding family
se_alone_is_of_sets = refl

pub e_is_of_none : family (codes "E") ≡ Other
unfolding family
e_is_of_none = refl

pub eq9_is_of_entities : family (codes "EQ9") ≡ Entity
unfolding family
eq9_is_of_entities = refl

pub eq8_is_of_equations : family (codes "EQ8") ≡ Equal
unfolding family
eq8_is_of_equations = refl
