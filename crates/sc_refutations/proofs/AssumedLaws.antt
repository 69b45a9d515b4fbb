-- Laws of the literals of a clause that is given by their numbers.
use Rattle.std.proofs.Common.{◌≡◌, ◌+◌, ◌<◌, ◌≤◌, ◌⊎◌, ℕ, zero, suc, List, [], ◌∷◌, ◌++◌, take, get_or, map, length, true, false, not, ◌&&◌, append_assoc, sym, ap, ◌∙◌, subst, arith}
use Rattle.std.specs.List.{list_all}
use Rattle.std.proofs.lemmas.Bool.{and_parts, and_left}
use Rattle.std.proofs.lemmas.List.{get_or-map, length-map, map-append, take-map, take_more}
use Rattle.std.proofs.lemmas.List.Folds.{list_all_at}
use Rattle.sc_clauses.specs.declared.lit.Lit.{Lit}
use Rattle.sc_clauses.specs.Clauses.{Clause, negation, is_in}
use Rattle.sc_refutations.specs.Arenas.{code_of, lit_of, has_code}
use Rattle.sc_refutations.specs.Refutations.{LitSet, negated, with_lit, is_listed, is_clause}
use Rattle.sc_refutations.proofs.CodeLaws.{lit_again, unlisted}
use Rattle.sc_refutations.proofs.RefutationLaws.{clause_fails, clause_more, negated_more}

-- ---- literals that are assumed as false

lit_there : (codes : List ℕ) (i : ℕ) → i < length codes → get_or (map lit_of codes) i (lit_of 0) ≡ lit_of (get_or codes i 0)
lit_there codes i h = get_or-map lit_of codes i 0 (lit_of 0) h

pub lits_long : (codes : List ℕ) (i : ℕ) → i < length codes → i < length (map lit_of codes)
lits_long codes i h = subst (λ (n : ℕ). i < n) (sym (length-map codes lit_of)) h

-- each number is that of a literal of an atom
pub code_there : (codes : List ℕ) (i : ℕ) → i < length codes → list_all has_code (map lit_of codes) ≡ true → has_code (lit_of (get_or codes i 0)) ≡ true
code_there [] i h e = absurd (omega arith)
code_there (code ∷ codes) zero h e = (and_parts (has_code (lit_of code)) (list_all has_code (map lit_of codes)) e).0
code_there (code ∷ codes) (suc i) h e = code_there codes i (omega arith) (and_parts (has_code (lit_of code)) (list_all has_code (map lit_of codes)) e).1

pub codes_fail : (n : ℕ) (known : LitSet) (codes : List ℕ) (i : ℕ) → i < length codes → known ≡ negated (map lit_of (take i codes))
    → is_listed n (lit_of (get_or codes i 0)) && not (known (lit_of (get_or codes i 0))) ≡ false → is_clause n (map lit_of codes) ≡ false
codes_fail n known codes i h is e =
    clause_fails n known (map lit_of codes) i (lit_of 0) (lits_long codes i h) (is ∙ ap negated (sym (take-map lit_of i codes)))
    (ap (λ (l : Lit). is_listed n l && not (known l)) (lit_there codes i h) ∙ e)

pub codes_more : (n : ℕ) (known : LitSet) (codes : List ℕ) (i : ℕ) → i < length codes → known ≡ negated (map lit_of (take i codes)) → is_clause n (map lit_of (take i codes)) ≡ true
    → is_listed n (lit_of (get_or codes i 0)) && not (known (lit_of (get_or codes i 0))) ≡ true → is_clause n (map lit_of (take (i + 1) codes)) ≡ true
codes_more n known codes i h is fit e =
    ap (is_clause n) (sym (take-map lit_of (i + 1) codes))
    ∙ clause_more n known (map lit_of codes) i (lit_of 0) (lits_long codes i h) (is ∙ ap negated (sym (take-map lit_of i codes)))
    (ap (is_clause n) (take-map lit_of i codes) ∙ fit) (ap (λ (l : Lit). is_listed n l && not (known l)) (lit_there codes i h) ∙ e)

pub codes_known : (known next : LitSet) (codes : List ℕ) (i : ℕ) → i < length codes → known ≡ negated (map lit_of (take i codes)) → next ≡ with_lit known (negation (lit_of (get_or codes i 0)))
    → next ≡ negated (map lit_of (take (i + 1) codes))
codes_known known next codes i h is e =
    negated_more known next (map lit_of codes) i (lit_of 0) (lits_long codes i h) (is ∙ ap negated (sym (take-map lit_of i codes)))
    (e ∙ ap (λ (l : Lit). with_lit known (negation l)) (sym (lit_there codes i h)))
    ∙ ap negated (take-map lit_of (i + 1) codes)

-- the numbers that are put after others
pub codes_put : (before codes next clause : List ℕ) (i : ℕ) → i < length clause → codes ≡ before ++ take i clause → next ≡ codes ++ get_or clause i 0 ∷ [] → next ≡ before ++ take (i + 1) clause
codes_put before codes next clause i h is e =
    e ∙ (ap (λ (xs : List ℕ). xs ++ get_or clause i 0 ∷ []) is
    ∙ (append_assoc before (take i clause) (get_or clause i 0 ∷ []) ∙ ap (λ (xs : List ℕ). before ++ xs) (sym (take_more clause i 0 h))))

-- ---- the numbers of a clause

-- behind those of other literals
pub codes_after : (before : Clause) (codes next : List ℕ) (c : Clause) (i : ℕ) (d : Lit) (code : ℕ) → i < length c → next ≡ codes ++ code ∷ [] → map lit_of codes ≡ before ++ take i c
    → code ≡ code_of (get_or c i d) → map lit_of next ≡ before ++ take (i + 1) c
codes_after before codes next c i d code h is written e =
    ap (map lit_of) is ∙ (map-append lit_of codes (code ∷ [])
    ∙ ((λ j. written j ++ (ap lit_of e ∙ lit_again (get_or c i d)) j ∷ [])
    ∙ (append_assoc before (take i c) (get_or c i d ∷ []) ∙ ap (λ (xs : Clause). before ++ xs) (sym (take_more c i d h)))))

pub codes_written : (codes next : List ℕ) (c : Clause) (i : ℕ) (d : Lit) (code : ℕ) → i < length c → next ≡ codes ++ code ∷ [] → map lit_of codes ≡ take i c → code ≡ code_of (get_or c i d)
    → map lit_of next ≡ take (i + 1) c
codes_written codes next c i d code h is written e = codes_after [] codes next c i d code h is written e

pub unlisted_fails : (count : ℕ) (c : Clause) (i : ℕ) (d : Lit) → i < length c → count < 2147483648 → ((get_or c i d).atom ≡ 0) ⊎ (2147483648 ≤ (get_or c i d).atom) → is_clause count c ≡ false
unlisted_fails count c i d h few none =
    list_all_at (λ l. is_listed count l && not (is_in c (negation l))) c i d h (and_left _ _ (unlisted count (get_or c i d) few none))
