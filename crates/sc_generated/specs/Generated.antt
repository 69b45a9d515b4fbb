-- Two texts of policies that grow with a number.
use Rattle.std.specs.Prelude.{ℕ, zero, suc, ◌+◌, ◌*◌, ◌/◌, ◌%◌, List, [], ◌∷◌, ◌++◌, codes, reverse}
use Rattle.std.specs.Fmt.{decimal}
use Rattle.std.specs.List.{flat_map}

-- the pseudo-random number after another
abbrev pub step : ℕ → ℕ
step x = (x * 1664525 + 1013904223) % 4294967296

-- that after so many steps from n
unfoldable pub drawn : ℕ → ℕ → ℕ
drawn n zero = n
drawn n (suc i) = step (drawn n i)

-- the first so many after n
unfoldable pub draws : ℕ → ℕ → List ℕ
draws n zero = []
draws n (suc i) = draws n i ++ (drawn n (suc i) ∷ [])

-- what stands before the first number of a policy
unfoldable pub opening : List ℕ
opening = codes "permit(principal, action, resource) when { context.n + "

-- what the policy of a number compares
abbrev pub comparison : ℕ → List ℕ
comparison x = opening ++ decimal (x % 1000) ++ codes " > " ++ decimal (x / 1000 % 1000)

-- the group that it asks for
abbrev pub group : ℕ → List ℕ
group x = codes " && principal in Group::\"g" ++ decimal (x / 1000000 % 7) ++ codes "\" };\n"

-- the policy of a number
unfoldable pub line : ℕ → List ℕ
line x = comparison x ++ group x

-- the policies of n numbers, and the same in reverse order
abbrev pub forward : ℕ → List ℕ
forward n = flat_map line (draws n n)

abbrev pub backward : ℕ → List ℕ
backward n = flat_map line (reverse (draws n n))

-- the schema under which the policies are asked about: groups may be in groups, users may be in groups, and the
-- context has a number
unfoldable pub schema_text : List ℕ
schema_text = codes "{\"\":{\"entityTypes\":{\"Group\":{\"memberOfTypes\":[\"Group\"]},\"User\":{\"memberOfTypes\":[\"Group\"],\"shape\":{\"type\":\"Record\",\"attributes\":{\"boss\":{\"type\":\"Entity\",\"name\":\"User\"},\"age\":{\"type\":\"Long\"},\"nick\":{\"type\":\"String\",\"required\":false}}}},\"Doc\":{\"shape\":{\"type\":\"Record\",\"attributes\":{\"owner\":{\"type\":\"Entity\",\"name\":\"User\"}}}}},\"actions\":{\"view\":{\"appliesTo\":{\"principalTypes\":[\"User\"],\"resourceTypes\":[\"Doc\"],\"context\":{\"type\":\"Record\",\"attributes\":{\"n\":{\"type\":\"Long\"},\"s\":{\"type\":\"Set\",\"element\":{\"type\":\"Boolean\"}},\"t\":{\"type\":\"Set\",\"element\":{\"type\":\"Boolean\"}},\"q\":{\"type\":\"Set\",\"element\":{\"type\":\"Long\"}},\"name\":{\"type\":\"String\"},\"addr\":{\"type\":\"Extension\",\"name\":\"ipaddr\"}}}}}}}}"
