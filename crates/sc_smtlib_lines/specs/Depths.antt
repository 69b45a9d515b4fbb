-- The order of datatypes: each after the sorts that it is made of.
use Rattle.std.specs.Prelude.{◌-◌, ◌^◌, ℕ, suc, List, [], ◌∷◌, map, max, nat_lt, if◌then◌else◌}
use Rattle.std.specs.declared.cmp.Ordering.{Ordering}
use Rattle.std.specs.Ordering.{nat_cmp, ordering_then}
use Rattle.sc_sorts.specs.declared.sort.Sort.{Sort, Sort-F}
use Rattle.sc_sorts.specs.declared.sort.Sort.TheOpen as s
use Rattle.sc_sorts.specs.Order.{sort_cmp}
use Rattle.sc_smtlib_terms.specs.Seen.{Seen, told_by}

-- a depth more; it stands still at the end of 64 bits, which no sort reaches
abbrev pub deeper : ℕ → ℕ
deeper n = if nat_lt n (2 ^ 64 - 1) then suc n else n

abbrev pub deepest : List ℕ → ℕ
deepest [] = 0
deepest (n ∷ ns) = max (deeper n) (deepest ns)

abbrev pub depth_step : Sort → Sort-F (Seen ℕ) → ℕ
depth_step x (s.Set member) = deeper member.1
depth_step x (s.Record fields) = deepest (map (λ (f : List ℕ × Seen ℕ). f.1.1) fields)
depth_step x (s.Option held) = deeper held.1
depth_step x _ = 0

-- 0 of a sort that is made of no others, else one more than that of its deepest part
unfoldable pub depth : Sort → ℕ
depth = told_by ℕ depth_step

-- by depth, then as sorts
abbrev pub depth_cmp : Sort → Sort → Ordering
depth_cmp a b = ordering_then (nat_cmp (depth a) (depth b)) (sort_cmp a b)
