-- The numbers of listed atoms: they ascend, so each has one number.
use Rattle.std.proofs.Common.{◌≡◌, ℕ, zero, suc, Some, sym, ◌∙◌}
use Rattle.std.proofs.lemmas.List.Kept.{IsStrictlySortedBy-filter}
use Rattle.sc_lists.proofs.ListLaws.{contains_place}
use Rattle.sc_lists.proofs.MemberLaws.{Has-from_Contains}
use Rattle.sc_lists.specs.Members.{Has}
use Rattle.sc_terms.specs.Order.{tree_cmp}
use Rattle.sc_terms.specs.Trees.{Tree}
use Rattle.sc_footprint.specs.Atoms.{is_atom}
use Rattle.sc_footprint.proofs.NumberingLaws.{at_suc}
use Rattle.sc_footprint.specs.Problems.{Posed, IsPosed, closed_terms, atoms, numbered, atom_number}
use Rattle.sc_model_consistency.proofs.LiteralLaws.{number_at}

module _ (p : Posed) where
  pub atom_there : (n : ℕ) (t : Tree) → numbered (atoms p) n ≡ Some t → Has (atoms p) t
  atom_there zero t e = absurd cc
  atom_there (suc k) t e = Has-from_Contains (atoms p) t (contains_place (atoms p) k t (sym (at_suc (atoms p) k) ∙ e))

  pub number_is : IsPosed p → (n : ℕ) (t : Tree) → numbered (atoms p) n ≡ Some t → atom_number p t ≡ n
  number_is posed zero t e = absurd cc
  number_is posed (suc k) t e =
      number_at (atoms p) k t (IsStrictlySortedBy-filter tree_cmp is_atom (closed_terms p) posed.are_closed.ordered)
      (sym (at_suc (atoms p) k) ∙ e)
