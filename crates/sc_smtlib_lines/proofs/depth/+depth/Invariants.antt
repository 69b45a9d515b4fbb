use Rattle.std.proofs.Common.{◌≡◌, ◌+◌, ◌*◌, ℕ, List, map, drop, max}
use Rattle.sc_sorts.specs.declared.sort.Sort.{Sort, size-Sort}
use Rattle.sc_smtlib_lines.specs.Depths.{deepest, depth}
use Rattle.sc_smtlib_lines.proofs.depth.+depth.Given as goal

abbrev pub decreases-depth : goal.decreases-depth
decreases-depth l = 3 * size-Sort l.sort.now

abbrev pub decreases-deepest : goal.decreases-deepest
decreases-deepest l = 3 * goal.size-deepest l + 2

abbrev pub invariant-deepest-loop-field : goal.invariant-deepest-loop-field
invariant-deepest-loop-field l =
    max l.most (deepest (map (λ (f : List ℕ × Sort). depth f.1) (drop l.field-index l.fields))) ≡ deepest (map (λ (f : List ℕ × Sort). depth f.1) l.fields)
