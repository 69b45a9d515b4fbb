-- Numbers that a log can hold: those of closed terms, and the places of their fields and members.
use Rattle.std.proofs.Common.{◌≡◌, ◌<◌, ◌≤◌, ◌+◌, ◌^◌, ℕ, suc, true, false, List, [], ◌∷◌, ◌++◌, map, length, nat_lt, Some, refl, sym, ap, ◌∙◌, subst, arith, ⊎_elim}
use Rattle.std.proofs.lemmas.Bool.{cases_lt}
use Rattle.std.proofs.lemmas.List.{length-append, length-map}
use Rattle.std.specs.Cmp.Derive.{both_true}
use Rattle.std.specs.List.{AllByRecursion, list_all}
use Rattle.sc_laws.proofs.BoolLaws.{never}
use Rattle.sc_laws.proofs.OptionLaws.{same_some}
use Rattle.sc_lists.specs.Members.{Has}
use Rattle.std.proofs.lemmas.Bool.Decides.{nat_tests}
use Rattle.sc_laws.proofs.NumberLaws.{nat_lt_true}
use Rattle.sc_schema.specs.Declarations.{Declarations}
use Rattle.sc_sorts.specs.Inside.{SortFields}
use Rattle.sc_sorts.specs.declared.sort.Sort.{Sort, Sort-F, out-Sort}
use Rattle.sc_sorts.specs.declared.sort.Sort.TheOpen as s
use Rattle.sc_clauses.specs.declared.step.Word.TheVariants.{Number}
use Rattle.sc_terms.specs.Tables.{tree}
use Rattle.sc_terms.specs.Trees.{Tree, Trees, no_part, part}
use Rattle.sc_terms.specs.TreeSorts.{tree_sort}
use Rattle.sc_terms.proofs.OrderLaws.{tree_cmp_level}
use Rattle.sc_term_definitions.specs.Definitions.{inputs_of}
use Rattle.sc_footprint.specs.Closure.{trees_in, parts, inside_by, inside, choices, beside, follow}
use Rattle.sc_footprint.specs.Problems.{Posed, IsPosed, closed_terms, number_among, term_of}
use Rattle.sc_footprint.specs.Written.{is_number, is_word}
use Rattle.sc_footprint.proofs.NumberingLaws.{numbered_map, numbered_back, within_count}
use Rattle.sc_rule_laws.specs.Terms.{fields_level, fields_of, members}

abbrev pub IsSmall : ℕ → Type 0
IsSmall n = is_number n ≡ true

-- ---- whether a number is small

pub not_less : (n k : ℕ) → nat_lt n k ≡ false → k ≤ n
not_less n k h = ⊎_elim (λ less. never _ (sym (nat_lt_true n k less) ∙ h)) (λ more. more) (cases_lt n k)

-- what is no less than a number is no less than a lesser one
pub none_less : (i n k : ℕ) → nat_lt n k ≡ true → nat_lt i k ≡ false → nat_lt i n ≡ false
none_less i n k few big = grind (arith, nat_tests)

pub zero_small : IsSmall 0
zero_small = refl

pub one_small : IsSmall 1
one_small = refl

pub two_small : IsSmall 2
two_small = refl

-- numbers that a log can hold, as words
pub words_small : (ns : List ℕ) → AllByRecursion IsSmall ns → list_all is_word (map Number ns) ≡ true
words_small [] h = refl
words_small (n ∷ ns) h = both_true h.0 (words_small ns h.1)

-- ---- numbers of closed terms

under : (n a b k : ℕ) → n ≤ a → a ≡ b → b < k → n < k
under n a b k h e l = omega (arith, h, e, l)

pub count_small : (p : Posed) → IsPosed p → (n : ℕ) → n ≤ length (closed_terms p) → IsSmall n
count_small p posed n h =
    nat_lt_true n (10 ^ 18) (under n (length (closed_terms p)) (length p.closed) (10 ^ 18) h (length-map p.closed (tree p.nodes)) posed.small)

pub number_small : (p : Posed) → IsPosed p → (n : ℕ) (t : Tree) → term_of p n ≡ Some t → IsSmall n
number_small p posed n t e =
    count_small p posed n (within_count (closed_terms p) n t (sym (numbered_map (tree p.nodes) p.closed n) ∙ e)).1

-- and each closed term has a number
abbrev pub number : Posed → Tree → ℕ
number p t = number_among (closed_terms p) t

pub number_term : (p : Posed) (t : Tree) → Has (closed_terms p) t → term_of p (number p t) ≡ Some t
number_term p t h =
    numbered_map (tree p.nodes) p.closed (number_among (closed_terms p) t) ∙ numbered_back tree_cmp_level (closed_terms p) t h

-- ---- fields and members go with their record and set

after_first : (a b c d e : ℕ) → b ≤ a + (b + (c + (d + e)))
after_first a b c d e = omega arith

after_all : (a b c d e : ℕ) → e ≤ a + (b + (c + (d + e)))
after_all a b c d e = omega arith

followers : (d : Declarations) (t : Tree) → length (follow d t) ≡ length (inputs_of t) + (length (inside t) + (length (choices t) + (length (beside d t) + length (parts t))))
unfolding follow
followers d t =
    length-append (inputs_of t) (inside t ++ (choices t ++ (beside d t ++ parts t)))
    ∙ ap (λ (n : ℕ). length (inputs_of t) + n) (length-append (inside t) (choices t ++ (beside d t ++ parts t)))
    ∙ ap (λ (n : ℕ). length (inputs_of t) + (length (inside t) + n)) (length-append (choices t) (beside d t ++ parts t))
    ∙ ap (λ (n : ℕ). length (inputs_of t) + (length (inside t) + (length (choices t) + n))) (length-append (beside d t) (parts t))

inside_within : (d : Declarations) (t : Tree) → length (inside t) ≤ length (follow d t)
inside_within d t =
    subst (λ (n : ℕ). length (inside t) ≤ n) (sym (followers d t))
    (after_first (length (inputs_of t)) (length (inside t)) (length (choices t)) (length (beside d t)) (length (parts t)))

parts_within : (d : Declarations) (t : Tree) → length (parts t) ≤ length (follow d t)
parts_within d t =
    subst (λ (n : ℕ). length (parts t) ≤ n) (sym (followers d t))
    (after_all (length (inputs_of t)) (length (inside t)) (length (choices t)) (length (beside d t)) (length (parts t)))

fields_inside : (k : Sort-F Sort) (t : Tree) (fs : SortFields) → fields_level k ≡ Some fs → length fs ≡ length (inside_by k t)
fields_inside (s.Record fields) t fs e = ap (λ (gs : SortFields). length gs) (sym (same_some e)) ∙ sym (length-map fields _)
fields_inside _ t fs e = absurd cc

pub fields_within : (d : Declarations) (t : Tree) (fs : SortFields) → fields_of t ≡ Some fs → length fs ≤ length (follow d t)
fields_within d t fs e =
    subst (λ (n : ℕ). n ≤ length (follow d t)) (sym (fields_inside (out-Sort (tree_sort t)) t fs e)) (inside_within d t)

members_are : (ts : Trees) → length (members ts) ≡ length (trees_in ts)
members_are no_part = refl
members_are (part l t ts) = ap suc (members_are ts)

pub members_within : (d : Declarations) (t : Tree) (ts : Trees) → parts t ≡ trees_in ts → length (members ts) ≤ length (follow d t)
members_within d t ts e =
    subst (λ (n : ℕ). n ≤ length (follow d t)) (ap (λ (us : List Tree). length us) e ∙ sym (members_are ts)) (parts_within d t)

-- a number that a log can't hold is past all places
pub past_places : (n i k : ℕ) → n ≤ k → k < 10 ^ 18 → is_number i ≡ false → n ≤ i
past_places n i k h l big = past n i k (10 ^ 18) h l (not_less i (10 ^ 18) big)
  where
    past : (n i k most : ℕ) → n ≤ k → k < most → most ≤ i → n ≤ i
    past n i k most h l big = omega (arith, h, l, big)

-- and never one past the last
pub never_place : (n i k : ℕ) → n ≤ k → k < 10 ^ 18 → is_number i ≡ false → n < i
never_place n i k h l big = past n i k (10 ^ 18) h l (not_less i (10 ^ 18) big)
  where
    past : (n i k most : ℕ) → n ≤ k → k < most → most ≤ i → n < i
    past n i k most h l big = omega (arith, h, l, big)
