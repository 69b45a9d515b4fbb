-- Where no instance is falsified, no rule of strings at the patterns of a problem is.
use Rattle.std.proofs.Common.{◌≡◌, ◌<◌, ◌≤◌, ◌==◌, ℕ, Bool, true, false, not, List, [], ◌∷◌, codes, map, length, slice_get, Option, Some, None, cond, inl, inr, refl, sym, ap, ◌∙◌, subst, arith}
use Rattle.std.proofs.Math.Dec.{eqb-suc-zero}
use Rattle.std.proofs.lemmas.Bool.Decides.{nat_tests}
use Rattle.std.proofs.lemmas.List.{length-map}
use Rattle.std.proofs.lemmas.Option.{slice_get_within}
use Rattle.std.specs.Cmp.Derive.{both_true}
use Rattle.std.specs.List.{AllByRecursion, list_all}
use Rattle.std.specs.Option.{IsSomeAnd}
use Rattle.sc_lists.specs.Members.{Has}
use Rattle.sc_clauses.specs.Assignments.{Assignment, falsifies}
use Rattle.sc_clauses.specs.declared.step.Instance.{Instance}
use Rattle.sc_clauses.specs.declared.step.Word.{Word}
use Rattle.sc_clauses.specs.declared.step.Word.TheVariants.{Number, Signs as Signed}
use Rattle.sc_terms.specs.Trees.{Tree}
use Rattle.sc_terms.specs.Folds.{equal_term, like_term}
use Rattle.sc_footprint.specs.Problems.{Posed, IsPosed, closed_terms, term_of}
use Rattle.sc_footprint.specs.Written.{is_word}
use Rattle.sc_rule_laws.specs.Signed.{Said, so, unless, given}
use Rattle.sc_rule_laws.specs.Strings.{Pattern, Signs, AreFew, st1_of, st1, crowd, st3}
use Rattle.sc_rule_laws.specs.Terms.{is_string}
use Rattle.sc_rule_instances.specs.Clauses.{said_clause}
use Rattle.sc_rule_instances.specs.Instances.{on_two, said_by}
use Rattle.sc_rule_instances.specs.Known.{is_falsified}
use Rattle.th_strings_instances.specs.Instances.{with_term, all_at, on_all, string_said, IsCrowded, IsInstanceOf, HasString, string_clause}
use Rattle.th_strings_instances.specs.Names.{number_in, counted_named, string_named, string_rule}
use Rattle.th_strings_instances.specs.Patterns.{patterns}
use Rattle.th_strings_instances.specs.declared.rule.StringRule.{StringRule}
use Rattle.th_strings_instances.specs.declared.rule.StringRule.TheVariants.{St1, St3}
use Rattle.th_strings_instances.proofs.FewLaws.{never_few}
use Rattle.th_strings_instances.proofs.NameLaws.{all_numerals, numbers_back}
use Rattle.sc_model_consistency.proofs.NumberLaws.{IsSmall, words_small, count_small, number_small, number, number_term}
use Rattle.sc_model_consistency.proofs.InstanceLaws.{none_falsified, written}
use Rattle.sc_model_consistency.proofs.PatternLaws.{patterns_length}

-- ---- the words of a counting rule

-- where signs are so many as patterns, and fewer texts have them than so many, there are some
some_signs : (qs : List Pattern) (v : Signs) (n : ℕ) → length v ≡ length qs → AreFew qs v n → (length v == 0) ≡ false
some_signs [] v n e few = absurd (never_few v n few)
some_signs (q ∷ qs) [] n e few = absurd (omega (arith, e))
some_signs (q ∷ qs) (s ∷ v) n e few = eqb-suc-zero (length v)

same_number : (a b : ℕ) → a ≡ b → (a == b) ≡ true
same_number a b e = grind (arith, nat_tests, e)

before : (i n k : ℕ) → i < n → n ≤ k → i ≤ k
before i n k h l = omega (arith, h, l)

module _ (p : Posed) (posed : IsPosed p) (m : Assignment) (right : (i : Instance) → HasString p i → falsifies m (string_clause p i) ≡ false) where
  abbrev Free : Said → Type 0
  Free said = is_falsified p m said ≡ false

  rule_free : (i : Instance) (rule : StringRule) → string_rule i ≡ Some rule → IsCrowded (patterns p) rule → Free (string_said p rule)
  rule_free i rule e few = none_falsified p m (string_said p rule) (λ is. at (is, few))
    where
      at : IsInstanceOf p (patterns p) rule → falsifies m (said_clause p (string_said p rule)) ≡ false
      at =
          subst (λ (o : Option StringRule). IsSomeAnd o (IsInstanceOf p (patterns p)) → falsifies m (said_clause p (said_by (string_said p) o)) ≡ false) e (right i)

  -- ---- of closed terms

  numbered : (t : Tree) → Has (closed_terms p) t → term_of p (number p t) ≡ Some t
  numbered t h = number_term p t h

  small : (t : Tree) → Has (closed_terms p) t → IsSmall (number p t)
  small t h = number_small p posed (number p t) t (numbered t h)

  pub match_free : (a b : Tree) (i : ℕ) (q : Pattern) → Has (closed_terms p) a → Has (closed_terms p) b → slice_get (patterns p) i ≡ Some q
      → Free (Some (unless (equal_term a b) ∷ unless (like_term a q) ∷ so (like_term b q) ∷ []))
  match_free a b i q h k e = subst Free said (rule_free (written (codes "ST1") (map Number ns)) (St1 (number p a) (number p b) i) named tt)
    where
      ns : List ℕ
      ns = number p a ∷ number p b ∷ i ∷ []

      place_small : IsSmall i
      place_small =
          count_small p posed i (before i (length (patterns p)) (length (closed_terms p)) (slice_get_within (patterns p) i q e) (patterns_length p))

      named : string_rule (written (codes "ST1") (map Number ns)) ≡ Some (St1 (number p a) (number p b) i)
      named =
          ap (λ (b : Bool). cond b (string_named (codes "ST1") (map Number ns)) None) (words_small ns (small a h, (small b k, (place_small, tt))))

      said : string_said p (St1 (number p a) (number p b) i) ≡ Some (unless (equal_term a b) ∷ unless (like_term a q) ∷ so (like_term b q) ∷ [])
      said =
          ap (λ (o : Option Tree). on_two o (term_of p (number p b)) (λ t u. st1 (patterns p) t u i)) (numbered a h)
          ∙ ap (λ (o : Option Tree). on_two (Some a) o (λ t u. st1 (patterns p) t u i)) (numbered b k)
          ∙ ap (st1_of a b) e

  -- ---- of several

  all_numbered : (ts : List Tree) → ((t : Tree) → Has ts t → Has (closed_terms p) t) → all_at p (map (number p) ts) ≡ Some ts
  all_numbered [] h = refl
  all_numbered (t ∷ ts) h =
      ap (λ (o : Option Tree). with_term o (all_at p (map (number p) ts))) (numbered t (h t (inl refl)))
      ∙ ap (with_term (Some t)) (all_numbered ts (λ u i. h u (inr i)))

  all_small : (ts : List Tree) → ((t : Tree) → Has ts t → Has (closed_terms p) t) → AllByRecursion IsSmall (map (number p) ts)
  all_small [] h = tt
  all_small (t ∷ ts) h = (small t (h t (inl refl)), all_small ts (λ u i. h u (inr i)))

  pub crowd_free : (v : Signs) (ts : List Tree) → ((t : Tree) → Has ts t → Has (closed_terms p) t) → length v ≡ length (patterns p)
      → list_all is_string ts ≡ true → AreFew (patterns p) v (length ts) → Free (Some (crowd (patterns p) v ts))
  crowd_free v ts h size strings few = subst Free said (rule_free (written (codes "ST3") words) (St3 v ns) named crowded)
    where
      ns : List ℕ
      ns = map (number p) ts

      words : List Word
      words = Signed v ∷ map Number ns

      crowded : AreFew (patterns p) v (length ns)
      crowded = subst (AreFew (patterns p) v) (sym (length-map ts (number p))) few

      can_be_written : list_all is_word words ≡ true
      can_be_written = both_true (ap not (some_signs (patterns p) v (length ts) size few)) (words_small ns (all_small ts h))

      named : string_rule (written (codes "ST3") words) ≡ Some (St3 v ns)
      named =
          ap (λ (b : Bool). cond b (string_named (codes "ST3") words) None) can_be_written
          ∙ ap (λ (b : Bool). cond b (counted_named (codes "ST3") v (map number_in (map Number ns))) None) (all_numerals ns)
          ∙ ap (counted_named (codes "ST3") v) (numbers_back ns)

      said : string_said p (St3 v ns) ≡ Some (crowd (patterns p) v ts)
      said =
          ap (λ (o : Option (List Tree)). on_all o (st3 (patterns p) v)) (all_numbered ts h)
          ∙ ap (λ (b : Bool). given b (crowd (patterns p) v ts)) (both_true (same_number (length v) (length (patterns p)) size) strings)
