-- Each closed term has a number, and only closed terms have one.
use Rattle.std.proofs.Common.{◌≡◌, ◌<◌, ◌==◌, ℕ, zero, suc, Bool, false, cond, length, Option, Some, None, sym, ap, ◌∙◌, subst, arith}
use Rattle.std.proofs.lemmas.Bool.Decides.{nat_tests}
use Rattle.sc_lists.proofs.ListLaws.{contains_place}
use Rattle.sc_lists.proofs.MemberLaws.{Has-from_Contains}
use Rattle.sc_lists.specs.Members.{Has}
use Rattle.sc_terms.specs.Trees.{Tree}
use Rattle.sc_terms.specs.Tables.{tree, IsTable}
use Rattle.sc_terms.proofs.OrderLaws.{tree_cmp_level}
use Rattle.sc_footprint.specs.Places.{place_among}
use Rattle.sc_footprint.proofs.IndexLaws.{number_is_place}
use Rattle.sc_footprint.proofs.NumberingLaws.{at_suc, numbered_map, numbered_back}
use Rattle.sc_footprint.specs.Problems.{Posed, IsPosed, closed_terms, number_among, number_of, numbered, if_any, term_of}
use Rattle.sc_rule_instances.proofs.LiteralLaws.{number_there}
use Rattle.th_equal.specs.Equations.{IsNumberIf}

any_suc : (k : ℕ) → if_any (suc k) ≡ Some (suc k)
any_suc k = let some : (suc k == 0) ≡ false = grind (arith, nat_tests) in ap (λ (b : Bool). cond b None (Some (suc k))) some

module _ (p : Posed) where
  pub closed_number : (t : Tree) → Has (closed_terms p) t → (n : ℕ) × (term_of p n ≡ Some t)
  closed_number t h = (number_among (closed_terms p) t, numbered_map (tree p.nodes) p.closed (number_among (closed_terms p) t) ∙ numbered_back tree_cmp_level (closed_terms p) t h)

  numbered_closed : (n : ℕ) (t : Tree) → term_of p n ≡ Some t → Has (closed_terms p) t
  numbered_closed zero t e = absurd cc
  numbered_closed (suc k) t e =
      Has-from_Contains (closed_terms p) t (contains_place (closed_terms p) k t (sym (at_suc (closed_terms p) k) ∙ sym (numbered_map (tree p.nodes) p.closed (suc k)) ∙ e))

  told_by : (t : Tree) (k : ℕ) → number_among (closed_terms p) t ≡ k → IsNumberIf p t (if_any k)
  told_by t zero e = λ n there.
      let none : None ≡ Some t = ap (numbered (closed_terms p)) (sym e) ∙ numbered_back tree_cmp_level (closed_terms p) t (numbered_closed n t there) in
      absurd cc
  told_by t (suc k) e =
      let has : Has (closed_terms p) t = number_there (closed_terms p) t (λ z. let never : suc k ≡ 0 = sym e ∙ z in absurd cc) in
      subst (IsNumberIf p t) (sym (any_suc k)) (numbered_map (tree p.nodes) p.closed (suc k) ∙ ap (numbered (closed_terms p)) (sym e) ∙ numbered_back tree_cmp_level (closed_terms p) t has)

  pub number_told : (n : ℕ) (o : Option ℕ) → IsTable p.nodes → IsPosed p → n < length p.nodes → o ≡ number_of p n → IsNumberIf p (tree p.nodes n) o
  number_told n o table posed within e =
      subst (IsNumberIf p (tree p.nodes n)) (sym e) (told_by (tree p.nodes n) (place_among p.closed n) (number_is_place p.nodes table tree_cmp_level p.closed n posed.within within))
