-- The equations of a term and those of groups, one after the other.
use Rattle.std.proofs.Common.{◌≡◌, ℕ, ◌+◌, ◌<◌, ◌≤◌, List, take, get_or, length, ap, ◌∙◌}
use Rattle.std.specs.List.{AllByRecursion}
use Rattle.sc_sorts.specs.declared.node.Node.{Node}
use Rattle.sc_terms.specs.Trees.{Tree}
use Rattle.sc_terms.specs.Tables.{tree}
use Rattle.sc_closure_rules.specs.Making.{stood}
use Rattle.sc_candidates.specs.Equations.{Equates}
use Rattle.sc_candidates.proofs.EquationLaws.{equates_same, equates_more, equates_whole}
use Rattle.sc_closure.specs.declared.roles.Group.{Group}
use Rattle.sc_closure.specs.declared.roles.Meeting.TheVariants.{Equation}
use Rattle.sc_closure.specs.Following.{met_in, met_among, IsGroupWithin}
use Rattle.sc_closure.proofs.GroupLaws.{group_at, in_stays}

module _ (gs : List Group) (s0 s1 : List Node) (ls ms : List ℕ) (i term : ℕ) where
  abbrev told_at : Group → List Tree
  told_at g = met_in Equation (tree s0 g.first) (stood s0 g.members) (tree s0 term)

  pub equates_next : (s2 : List Node) (ns : List ℕ) (g : Group) → AllByRecursion (IsGroupWithin (length s0)) gs → term < length s0
      → Equates s0 s1 ls ms (met_among Equation s0 (take i gs) (tree s0 term)) (tree s0 term) → i < length gs → g ≡ get_or gs i g
      → Equates s1 s2 ms ns (met_in Equation (tree s1 g.first) (stood s1 g.members) (tree s1 term)) (tree s1 term)
      → Equates s0 s2 ls ns (met_among Equation s0 (take (i + 1) gs) (tree s0 term)) (tree s0 term)
  equates_next s2 ns g within term_in so_far h at p =
      let kept = so_far.puts.kept in
      let here = group_at (length s0) gs within i g h at in
      let same : met_in Equation (tree s1 g.first) (stood s1 g.members) (tree s1 term) ≡ told_at g =
      ap (met_in Equation (tree s1 g.first) (stood s1 g.members)) (kept.same term term_in) ∙ in_stays s0 s1 kept Equation g (tree s0 term) here in
      equates_more told_at gs s0 s1 ls ms i (tree s0 term) so_far s2 ns g h at
      (equates_same s1 s2 ms ns (met_in Equation (tree s1 g.first) (stood s1 g.members) (tree s1 term)) (told_at g) (tree s1 term) (tree s0 term) same (kept.same term term_in) p)

  pub equates_end : Equates s0 s1 ls ms (met_among Equation s0 (take i gs) (tree s0 term)) (tree s0 term) → length gs ≤ i → Equates s0 s1 ls ms (met_among Equation s0 gs (tree s0 term)) (tree s0 term)
  equates_end p h = equates_whole told_at gs s0 s1 ls ms i (tree s0 term) p h
