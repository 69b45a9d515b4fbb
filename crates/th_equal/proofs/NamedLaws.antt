-- The strings and entities among the closed terms, one after the other.
use Rattle.std.proofs.Common.{◌≡◌, ◌<◌, ◌≤◌, ◌+◌, ℕ, zero, suc, true, false, List, [], ◌∷◌, ◌++◌, length, Some, option_map, sym, ap, ◌∙◌, subst, arith, ⊎_elim, length-append}
use Rattle.std.proofs.lemmas.Bool.{cases_lt, true≢false}
use Rattle.std.proofs.lemmas.List.{length-map}
use Rattle.sc_lists.proofs.ListLaws.{all_append}
use Rattle.sc_lists.proofs.MemberLaws.{Has-left, Has-last}
use Rattle.sc_laws.proofs.OptionLaws.{same_some}
use Rattle.sc_lists.specs.Members.{Has}
use Rattle.sc_terms.specs.Tables.{tree}
use Rattle.sc_terms.specs.Trees.{Tree}
use Rattle.sc_footprint.specs.Problems.{Posed, closed_terms, numbered, term_of}
use Rattle.sc_footprint.proofs.NumberingLaws.{numbered_map, within_count}
use Rattle.sc_rule_laws.specs.Terms.{is_named}
use Rattle.th_equal.specs.Naming.{IsNamed, AreNamed, AreNamedUpTo}

module _ (p : Posed) where
  pub none_named : AreNamedUpTo p 0 []
  none_named = record { few = omega arith; each = tt; all = by }
    where
      by : (n : ℕ) (t : Tree) → n ≤ 0 → term_of p n ≡ Some t → is_named t ≡ true → Has [] n
      by zero t h e f = absurd cc
      by (suc n) t h e f = absurd (omega (arith, h))

  pub named_next : (n at : ℕ) (ns : List ℕ) → AreNamedUpTo p n ns → numbered p.closed (n + 1) ≡ Some at → is_named (tree p.nodes at) ≡ true → AreNamedUpTo p (n + 1) (ns ++ (n + 1) ∷ [])
  named_next n at ns h e f = record {
    few = omega (arith, h.few, length-append ns ((n + 1) ∷ []));
    each = all_append (IsNamed p) ns ((n + 1) ∷ []) h.each (record { term = tree p.nodes at; is = ap (option_map (tree p.nodes)) e; named = f }, tt);
    all = λ j t below g k. ⊎_elim
        (λ (less : j < n + 1). Has-left ns ((n + 1) ∷ []) j (h.all j t (omega (arith, less)) g k))
        (λ (past : n + 1 ≤ j). subst (Has (ns ++ (n + 1) ∷ [])) (omega (arith, past, below)) (Has-last ns (n + 1)))
        (cases_lt j (n + 1));
  }

  pub other_next : (n at : ℕ) (ns : List ℕ) → AreNamedUpTo p n ns → numbered p.closed (n + 1) ≡ Some at → is_named (tree p.nodes at) ≡ false → AreNamedUpTo p (n + 1) ns
  other_next n at ns h e f = record {
    few = omega (arith, h.few);
    each = h.each;
    all = λ j t below g k. ⊎_elim
        (λ (less : j < n + 1). h.all j t (omega (arith, less)) g k)
        (λ (past : n + 1 ≤ j).
        let same : j ≡ n + 1 = omega (arith, past, below) in
        let one : t ≡ tree p.nodes at = same_some (sym g ∙ ap (term_of p) same ∙ ap (option_map (tree p.nodes)) e) in
        absurd (true≢false (sym k ∙ ap is_named one ∙ f)))
        (cases_lt j (n + 1));
  }

  pub all_named : (n : ℕ) (ns : List ℕ) → AreNamedUpTo p n ns → length p.closed ≤ n → AreNamed p ns
  all_named n ns h past = record {
    each = h.each;
    all = λ j t g k.
        let few = within_count (closed_terms p) j t (sym (numbered_map (tree p.nodes) p.closed j) ∙ g) in
        h.all j t (omega (arith, past, few.1, length-map p.closed (tree p.nodes))) g k;
  }
