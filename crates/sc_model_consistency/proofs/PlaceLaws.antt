-- How the terms that go with closed ones are gone through: whether some stands past all places that a log can hold.
use Rattle.std.proofs.Common.{◌≡◌, ◌↔◌, ◌<◌, ◌≤◌, ◌+◌, ◌-◌, ◌^◌, ℕ, suc, Bool, true, false, IsTrue, length, slice_get, Option, Some, None, is_some, option_map, option_and_then, refl, sym, ap, ◌∙◌, subst, arith, ⊎_elim}
use Rattle.std.proofs.lemmas.Bool.{cases_lt}
use Rattle.std.proofs.lemmas.List.{length-map}
use Rattle.std.proofs.lemmas.Option.{slice_get_within, slice_get-get_or}
use Rattle.sc_laws.proofs.BoolLaws.{never}
use Rattle.sc_lists.proofs.MemberLaws.{Has-from_Contains}
use Rattle.sc_laws.proofs.OptionLaws.{option_and_then_some, some_is}
use Rattle.sc_terms.specs.Tables.{tree}
use Rattle.sc_terms.specs.Trees.{Tree}
use Rattle.sc_footprint.specs.Closure.{follow}
use Rattle.sc_footprint.specs.Problems.{Posed, closed_terms, term_of, companion}
use Rattle.sc_footprint.proofs.NumberingLaws.{numbered_map, within_count}
use Rattle.sc_rule_instances.proofs.RulesHold.{term_closed}
use Rattle.sc_model_consistency.specs.Laws.{HasSmallPlaces}
use Rattle.sc_model_consistency.specs.Places.{goes_past}
use Rattle.sc_model_consistency.proofs.NumberLaws.{number, number_term}

-- the first places of closed terms have no such term
pub record AreFree (p : Posed) (n : ℕ) : Type 0 where
  pub free : (k : ℕ) → k < n → goes_past p (k + 1) ≡ false

pub free_none : (p : Posed) → AreFree p 0
free_none p = record { free = λ k h. absurd (omega (arith, h)) }

same_place : (k n : ℕ) → n ≤ k → k < n + 1 → n ≡ k
same_place k n h l = omega (arith, h, l)

pub free_more : (p : Posed) (n : ℕ) (b : Bool) → AreFree p n → b ≡ goes_past p (n + 1) → b ≡ false → AreFree p (n + 1)
free_more p n b h e f = record {
  free = λ k l. ⊎_elim (h.free k) (λ more. subst (λ (i : ℕ). goes_past p (i + 1) ≡ false) (same_place k n more l) (sym e ∙ f)) (cases_lt k n);
}

pub some_mapped : (p : Posed) (o : Option ℕ) (q : Option Tree) → option_map (tree p.nodes) o ≡ q → is_some o ≡ is_some q
some_mapped p None q e = ap is_some e
some_mapped p (Some n) q e = ap is_some e

-- ---- the last place that a log can hold

last_place : suc 999999999999999999 ≡ 10 ^ 18
last_place = refl

past_last : (n last limit : ℕ) → suc last ≡ limit → last < n → n < limit → ⊥
past_last n last limit e h l = omega (arith, e, h, l)

not_past : (n last limit : ℕ) → suc last ≡ limit → n ≤ last → n < limit
not_past n last limit e h = omega (arith, e, h)

-- where none is past it, all have small places
few_at : (p : Posed) (t : Tree) (n : ℕ) → term_of p n ≡ Some t → goes_past p n ≡ false → length (follow p.schema t) < 10 ^ 18
few_at p t n e f =
    not_past (length (follow p.schema t)) 999999999999999999 (10 ^ 18) last_place
    (⊎_elim absurd_past (λ h. h) (cases_lt 999999999999999999 (length (follow p.schema t))))
  where
    absurd_past : 999999999999999999 < length (follow p.schema t) → length (follow p.schema t) ≤ 999999999999999999
    absurd_past h =
        let found = slice_get-get_or (follow p.schema t) 999999999999999999 t h in
        let there = ap (λ (o : Option Tree). option_and_then (λ (x : Tree). slice_get (follow p.schema x) 999999999999999999) o) e ∙ found in
        never _ (sym (ap (λ (o : Option Tree). is_some o) there) ∙ f)

pub small_all : (p : Posed) (n : ℕ) → AreFree p n → length p.closed ≤ n → IsTrue true ↔ HasSmallPlaces p
small_all p n h l = ((λ i. small), (λ i. refl))
  where
    at : (t : Tree) (k : ℕ) → term_of p k ≡ Some t → (0 < k) × (k ≤ length (closed_terms p)) → length (follow p.schema t) < 10 ^ 18
    at t k e within =
        let size : length (closed_terms p) ≡ length p.closed = length-map p.closed (tree p.nodes) in
        let next : k - 1 + 1 ≡ k = omega (arith, within.0) in
        let less : k - 1 < n = omega (arith, within.0, within.1, size, l) in
        few_at p t k e (subst (λ (i : ℕ). goes_past p i ≡ false) next (h.free (k - 1) less))

    small : HasSmallPlaces p
    small t c =
        let e = number_term p t (Has-from_Contains (closed_terms p) t c) in
        at t (number p t) e (within_count (closed_terms p) (number p t) t (sym (numbered_map (tree p.nodes) p.closed (number p t)) ∙ e))

-- where some is, they haven't
pub large_there : (p : Posed) (n : ℕ) (b : Bool) → b ≡ goes_past p n → b ≡ true → IsTrue false ↔ HasSmallPlaces p
large_there p n b e f = ((λ h. absurd cc), (λ small. absurd (by small)))
  where
    by : HasSmallPlaces p → ⊥
    by small =
        let some = some_is (companion p n 999999999999999999) (sym e ∙ f) in
        let found = option_and_then_some (λ (x : Tree). slice_get (follow p.schema x) 999999999999999999) (term_of p n) some.0 some.1 in
        past_last (length (follow p.schema found.0)) 999999999999999999 (10 ^ 18) last_place
        (slice_get_within (follow p.schema found.0) 999999999999999999 some.0 found.2) (small found.0 (term_closed p n found.0 found.1))
