-- The closed terms that may be strings of a rule, one after the other.
use Rattle.std.proofs.Common.{◌≡◌, ◌<◌, ◌≤◌, ◌+◌, ℕ, zero, suc, true, false, List, [], ◌∷◌, ◌++◌, length, Some, option_map, sym, ap, ◌∙◌, subst, arith, ⊎_elim, length-append}
use Rattle.std.proofs.lemmas.Bool.{cases_lt, true≢false}
use Rattle.std.proofs.lemmas.List.{length-map}
use Rattle.sc_lists.proofs.MemberLaws.{Has-left, Has-last}
use Rattle.sc_laws.proofs.OptionLaws.{same_some}
use Rattle.sc_lists.specs.Members.{Has}
use Rattle.sc_terms.specs.Tables.{tree}
use Rattle.sc_terms.specs.Trees.{Tree}
use Rattle.sc_footprint.specs.Problems.{Posed, closed_terms, numbered, term_of}
use Rattle.sc_footprint.proofs.NumberingLaws.{numbered_map, within_count}
use Rattle.th_strings.specs.Texts.{AreTexts, AreTextsUpTo, is_text}

module _ (p : Posed) where
  pub none_text : AreTextsUpTo p 0 []
  none_text = record { few = omega arith; all = by }
    where
      by : (n : ℕ) (t : Tree) → n ≤ 0 → term_of p n ≡ Some t → is_text t ≡ true → Has [] n
      by zero t h e f = absurd cc
      by (suc n) t h e f = absurd (omega (arith, h))

  pub text_next : (n : ℕ) (ns : List ℕ) → AreTextsUpTo p n ns → AreTextsUpTo p (n + 1) (ns ++ (n + 1) ∷ [])
  text_next n ns h = record {
    few = omega (arith, h.few, length-append ns ((n + 1) ∷ []));
    all = λ j t below g k. ⊎_elim
        (λ (less : j < n + 1). Has-left ns ((n + 1) ∷ []) j (h.all j t (omega (arith, less)) g k))
        (λ (past : n + 1 ≤ j). subst (Has (ns ++ (n + 1) ∷ [])) (omega (arith, past, below)) (Has-last ns (n + 1)))
        (cases_lt j (n + 1));
  }

  pub other_next : (n at : ℕ) (ns : List ℕ) → AreTextsUpTo p n ns → numbered p.closed (n + 1) ≡ Some at → is_text (tree p.nodes at) ≡ false → AreTextsUpTo p (n + 1) ns
  other_next n at ns h e f = record {
    few = omega (arith, h.few);
    all = λ j t below g k. ⊎_elim
        (λ (less : j < n + 1). h.all j t (omega (arith, less)) g k)
        (λ (past : n + 1 ≤ j).
        let same : j ≡ n + 1 = omega (arith, past, below) in
        let one : t ≡ tree p.nodes at = same_some (sym g ∙ ap (term_of p) same ∙ ap (option_map (tree p.nodes)) e) in
        absurd (true≢false (sym k ∙ ap is_text one ∙ f)))
        (cases_lt j (n + 1));
  }

  pub all_texts : (n : ℕ) (ns : List ℕ) → AreTextsUpTo p n ns → length p.closed ≤ n → n ≤ length p.closed → AreTexts p ns
  all_texts n ns h past within = record {
    few = omega (arith, h.few, within);
    all = λ j t g k.
        let few = within_count (closed_terms p) j t (sym (numbered_map (tree p.nodes) p.closed j) ∙ g) in
        h.all j t (omega (arith, past, few.1, length-map p.closed (tree p.nodes))) g k;
  }
