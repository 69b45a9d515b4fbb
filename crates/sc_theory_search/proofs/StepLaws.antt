-- What a search tells of a step, as the checker reads it.
use Rattle.std.proofs.Common.{◌≡◌, ◌==◌, ◌&&◌, ◌<◌, ◌≤◌, ℕ, not, Bool, true, false, List, [], ◌∷◌, length, Ok, Contains, refl, arith}
use Rattle.std.proofs.lemmas.Bool.Decides.{nat_tests}
use Rattle.std.specs.List.{list_all}
use Rattle.sc_clauses.specs.declared.lit.Lit.{Lit}
use Rattle.sc_clauses.specs.declared.step.Instance as instance
use Rattle.sc_clauses.specs.declared.step.Learned as learned
use Rattle.sc_clauses.specs.declared.step.Step.{Step}
use Rattle.sc_clauses.specs.declared.step.Step.TheVariants.{Instance, Learned}
use Rattle.sc_clauses.specs.Clauses.{Clause, negation, is_in, clause_holds}
use Rattle.sc_propagation.specs.Steps.{IsClause, IsNumber, IsShown, IsLawful}
use Rattle.sc_propagation.specs.Steps as search
use Rattle.sc_checker.specs.Refutations.{is_listed, is_clause}
use Rattle.sc_checker.proofs.Soundness as Sound
use Rattle.sc_checker.specs.Verdicts.{IsAdded}
use Rattle.sc_checker.specs.Writable.{is_lit, is_hint, are_hints, is_writable}
use Rattle.sc_footprint.specs.Written.{is_instance}
use Rattle.sc_theory_search.proofs.ListLaws.{Has, here, there, contains_of, of_all}
use Rattle.std.proofs.lemmas.Bool.{and_from}
use Rattle.sc_theory_search.proofs.LitLaws.{of_is_in}

-- ---- clauses

listed : (count : ℕ) (l : Lit) → 0 < l.atom → l.atom ≤ count → is_listed count l ≡ true
listed count l least most = grind (arith, nat_tests)

pub absent : (c : Clause) (l : Lit) (b : Bool) → is_in c l ≡ b → ¬ Contains c l → not b ≡ true
absent c l true e h = absurd (h (contains_of c l (of_is_in c l e)))
absent c l false e h = refl

pub is_clause_of : (count : ℕ) (c : Clause) → IsClause count c → is_clause count c ≡ true
is_clause_of count c h =
    of_all (λ l. is_listed count l && not (is_in c (negation l))) c
    (λ l k. let (of, alone) = h l (contains_of c l k) in
    and_from (is_listed count l) (not (is_in c (negation l))) (listed count l of.0 of.1) (absent c (negation l) (is_in c (negation l)) refl alone))

-- ---- soundness: where all clauses hold, what hints show holds

abbrev pub AllHold : (ℕ → Bool) → List Clause → Type 0
AllHold v clauses = (c : Clause) → Has clauses c → clause_holds v c ≡ true

all_hold : (v : ℕ → Bool) (clauses : List Clause) → AllHold v clauses → Sound.AllHold v clauses
all_hold v [] h = tt
all_hold v (c ∷ clauses) h = (h c (here c clauses), all_hold v clauses (λ d k. h d (there c d clauses k)))

-- ---- texts

is_lit_of : (l : Lit) → IsNumber l.atom → is_lit l ≡ true
is_lit_of l h = let least = h.0 in let most = h.1 in grind (arith, nat_tests)

is_hint_of : (h : ℕ) → IsNumber h → is_hint h ≡ true
is_hint_of h k = let least = k.0 in let most = k.1 in grind (arith, nat_tests)

some_hints : (n : ℕ) → 0 < n → not (n == 0) ≡ true
some_hints n h = grind (arith, nat_tests)

pub learned_writable : (atoms : ℕ) (clauses : List Clause) (s : learned.Learned) → IsShown atoms clauses s → is_writable (Learned s) ≡ true
learned_writable atoms clauses s h =
    and_from (list_all is_lit s.clause) (are_hints s.hints) (of_all is_lit s.clause (λ l k. is_lit_of l (h.lit_numbers l (contains_of s.clause l k))))
    (and_from (not (length s.hints == 0)) (list_all is_hint s.hints) (some_hints (length s.hints) h.some) (of_all is_hint s.hints (λ n k. is_hint_of n (h.hint_numbers n (contains_of s.hints n k)))))

-- ---- steps of a search

module _ (atoms : ℕ) (has : instance.Instance → Type 0) (clause_of : instance.Instance → Clause) where
  pub step_adds : (clauses : List Clause) (s : Step) → IsLawful atoms has clause_of clauses s → IsAdded has clause_of atoms clauses s (Ok (search.added clause_of s))
  step_adds clauses (Instance i) h = (h.0, refl)
  step_adds clauses (Learned s) h =
      rw (is_clause_of atoms s.clause h.is_clause, h.shows) refl

  pub step_writable : ((i : instance.Instance) → has i → is_instance i ≡ true) → (clauses : List Clause) (s : Step) → IsLawful atoms has clause_of clauses s → is_writable s ≡ true
  step_writable written clauses (Instance i) h = written i h.0
  step_writable written clauses (Learned s) h = learned_writable atoms clauses s h

  pub step_holds : (v : ℕ → Bool) → ((i : instance.Instance) → has i → clause_holds v (clause_of i) ≡ true) → (clauses : List Clause) (s : Step) → AllHold v clauses → IsLawful atoms has clause_of clauses s
      → clause_holds v (search.added clause_of s) ≡ true
  step_holds v told clauses (Instance i) hold h = told i h.0
  step_holds v told clauses (Learned s) hold h = Sound.shown v clauses s.clause s.hints (all_hold v clauses hold) h.shows
