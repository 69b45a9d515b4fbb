-- Laws of a line that is read in one pass.
use Rattle.std.proofs.Common.{◌≡◌, ◌+◌, ◌*◌, ◌<◌, ◌==◌, ℕ, suc, List, [], ◌∷◌, ◌++◌, map, length, Bool, true, false, not, refl, sym, ap, ◌∙◌, append_assoc, append-nil, arith}
use Rattle.std.specs.List.{list_all}
use Rattle.std.specs.Fmt.{decimal}
use Rattle.std.proofs.lemmas.Bool.{and_from}
use Rattle.std.proofs.lemmas.List.{length-append, map-append}
use Rattle.std.proofs.lemmas.List.Folds.{list_all-append}
use Rattle.sc_clauses.specs.declared.lit.Lit.{Lit}
use Rattle.sc_refutations.specs.Arenas.{lit_of}
use Rattle.sc_refutations.proofs.CodeLaws.{lit_again}
use Rattle.sc_clauses.specs.declared.step.Learned as learned
use Rattle.sc_clauses.specs.declared.step.Step.TheVariants.{Learned}
use Rattle.sc_logs.specs.Texts.{lit_text, spaced, step_line}
use Rattle.sc_logs.specs.Writable.{is_lit, is_hint, are_hints, is_learned}
use Rattle.sc_logs.proofs.TextLaws.{flat_map-append, learned_written}

-- ---- words with a space before each

more_fit : {X : Type 0} (test : X → Bool) (xs : List X) (x : X) → list_all test xs ≡ true → test x ≡ true → list_all test (xs ++ x ∷ []) ≡ true
more_fit test xs x e f = list_all-append test xs (x ∷ []) ∙ and_from (list_all test xs) _ e (and_from (test x) true f refl)

more_text : {X : Type 0} (text : X → List ℕ) (bytes rest word later : List ℕ) (xs : List X) (x : X) → bytes ≡ spaced (map text xs) ++ rest → rest ≡ 32 ∷ word → word ≡ text x ++ later
    → bytes ≡ spaced (map text (xs ++ x ∷ [])) ++ later
more_text text bytes rest word later xs x is next read =
    let moved : spaced (map text (xs ++ x ∷ [])) ≡ spaced (map text xs) ++ (32 ∷ (text x ++ []))
    = ap spaced (map-append text xs (x ∷ [])) ∙ flat_map-append (λ w. 32 ∷ w) (map text xs) (text x ∷ []) in
    is ∙ ap (λ t. spaced (map text xs) ++ t) (next ∙ ap (λ t. 32 ∷ t) (read ∙ ap (λ t. t ++ later) (sym (append-nil (text x)))))
    ∙ (sym (append_assoc (spaced (map text xs)) (32 ∷ (text x ++ [])) later) ∙ ap (λ t. t ++ later) (sym moved))

-- the `0` after the words
pub ended_text : (front bytes rest word later : List ℕ) → bytes ≡ front ++ rest → rest ≡ 32 ∷ word → word ≡ 48 ∷ later → bytes ≡ front ++ 32 ∷ 48 ∷ later
ended_text front bytes rest word later is next zero_is = is ∙ ap (λ t. front ++ t) (next ∙ ap (λ t. 32 ∷ t) zero_is)

-- what is left gets shorter
pub word_shorter : (rest word text later : List ℕ) → rest ≡ 32 ∷ word → word ≡ text ++ later → length later < length rest
word_shorter rest word text later next read =
    let long : length rest ≡ suc (length word) = ap length next in
    let short : length word ≡ length text + length later = ap length read ∙ length-append text later in
    omega (arith, long, short)

-- ---- literals, by their numbers

codes_more : (codes : List ℕ) (code : ℕ) → map lit_of (codes ++ code ∷ []) ≡ map lit_of codes ++ lit_of code ∷ []
codes_more codes code = map-append lit_of codes (code ∷ [])

pub codes_fit : (codes : List ℕ) (code : ℕ) → list_all is_lit (map lit_of codes) ≡ true → is_lit (lit_of code) ≡ true → list_all is_lit (map lit_of (codes ++ code ∷ [])) ≡ true
codes_fit codes code fit e = ap (list_all is_lit) (codes_more codes code) ∙ more_fit is_lit (map lit_of codes) (lit_of code) fit e

pub codes_text : (bytes rest word later codes : List ℕ) (code : ℕ) → bytes ≡ spaced (map lit_text (map lit_of codes)) ++ rest → rest ≡ 32 ∷ word → word ≡ lit_text (lit_of code) ++ later
    → bytes ≡ spaced (map lit_text (map lit_of (codes ++ code ∷ []))) ++ later
codes_text bytes rest word later codes code is next read =
    more_text lit_text bytes rest word later (map lit_of codes) (lit_of code) is next read
    ∙ ap (λ (c : List Lit). spaced (map lit_text c) ++ later) (sym (codes_more codes code))

even_lit : (code n : ℕ) → code ≡ n * 2 → lit_of code ≡ record { atom = n; negated = false }
even_lit code n e =
    let l : Lit = record { atom = n; negated = false } in
    ap lit_of e ∙ lit_again l

odd_lit : (code n : ℕ) → code ≡ n * 2 + 1 → lit_of code ≡ record { atom = n; negated = true }
odd_lit code n e =
    let l : Lit = record { atom = n; negated = true } in
    ap lit_of e ∙ lit_again l

pub atom_fits : (code n : ℕ) → code ≡ n * 2 → is_hint n ≡ true → is_lit (lit_of code) ≡ true
atom_fits code n e fit = ap is_lit (even_lit code n e) ∙ fit

pub negation_fits : (code n : ℕ) → code ≡ n * 2 + 1 → is_hint n ≡ true → is_lit (lit_of code) ≡ true
negation_fits code n e fit = ap is_lit (odd_lit code n e) ∙ fit

pub atom_text : (bytes later : List ℕ) (code n : ℕ) → code ≡ n * 2 → bytes ≡ decimal n ++ later → bytes ≡ lit_text (lit_of code) ++ later
atom_text bytes later code n e read = read ∙ ap (λ (l : Lit). lit_text l ++ later) (sym (even_lit code n e))

pub negation_text : (bytes digits later : List ℕ) (code n : ℕ) → code ≡ n * 2 + 1 → bytes ≡ 45 ∷ digits → digits ≡ decimal n ++ later → bytes ≡ lit_text (lit_of code) ++ later
negation_text bytes digits later code n e sign read =
    sign ∙ ap (λ (t : List ℕ). 45 ∷ t) read ∙ ap (λ (l : Lit). lit_text l ++ later) (sym (odd_lit code n e))

-- ---- hints

pub hints_fit : (xs : List ℕ) (h : ℕ) → list_all is_hint xs ≡ true → is_hint h ≡ true → list_all is_hint (xs ++ h ∷ []) ≡ true
hints_fit xs h fit e = more_fit is_hint xs h fit e

pub hints_text : (bytes rest word later xs : List ℕ) (h : ℕ) → bytes ≡ spaced (map decimal xs) ++ rest → rest ≡ 32 ∷ word → word ≡ decimal h ++ later
    → bytes ≡ spaced (map decimal (xs ++ h ∷ [])) ++ later
hints_text bytes rest word later xs h is next read = more_text decimal bytes rest word later xs h is next read

-- ---- the line

pub learned_fits : (clause : List Lit) (hints : List ℕ) (n : ℕ) → list_all is_lit clause ≡ true → list_all is_hint hints ≡ true → n ≡ length hints → false ≡ (n == 0)
    → is_learned (record { clause = clause; hints = hints }) ≡ true
learned_fits clause hints n lits fit size some =
    and_from (list_all is_lit clause) (are_hints hints) lits (and_from (not (length hints == 0)) (list_all is_hint hints) (ap not (ap (λ k. k == 0) (sym size) ∙ sym some)) fit)

flat : (a b rest : List ℕ) → (((((108 ∷ []) ++ a) ++ 32 ∷ 48 ∷ []) ++ b) ++ 32 ∷ 48 ∷ []) ++ 10 ∷ rest ≡ 108 ∷ (a ++ 32 ∷ 48 ∷ (b ++ 32 ∷ 48 ∷ 10 ∷ rest))
flat a b rest = simp append_assoc

-- the line of a learned clause, and its newline
pub whole_text : (bytes lits later end rest : List ℕ) (clause : List Lit) (hints : List ℕ) → bytes ≡ 108 ∷ lits → lits ≡ spaced (map lit_text clause) ++ 32 ∷ 48 ∷ later
    → later ≡ spaced (map decimal hints) ++ 32 ∷ 48 ∷ end → end ≡ 10 ∷ rest → bytes ≡ step_line (Learned (record { clause = clause; hints = hints })) ++ 10 ∷ rest
whole_text bytes lits later end rest clause hints first second third last =
    let l : learned.Learned = record { clause = clause; hints = hints } in
    let a = spaced (map lit_text clause) in
    let b = spaced (map decimal hints) in
    first ∙ (ap (λ t. 108 ∷ t) (second ∙ ap (λ t. a ++ 32 ∷ 48 ∷ t) (third ∙ ap (λ t. b ++ 32 ∷ 48 ∷ t) last))
    ∙ (sym (flat a b rest) ∙ ap (λ t. t ++ 10 ∷ rest) (learned_written [] l)))
