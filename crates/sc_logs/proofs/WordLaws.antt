-- Laws of words and of lists of words.
use Rattle.std.proofs.Common.{◌≡◌, ◌<◌, ◌≤◌, ◌==◌, ℕ, zero, suc, List, [], ◌∷◌, ◌++◌, map, get_or, length, Bool, true, false, not, Option, Some, None, option_map, refl, sym, ap, ◌∙◌, subst, arith}
use Rattle.std.specs.List.{list_all}
use Rattle.std.specs.Fmt.{decimal}
use Rattle.std.proofs.lemmas.Bool.{and_parts, true≢false}
use Rattle.std.proofs.lemmas.Fmt.{decimal_injective}
use Rattle.sc_lists.proofs.ListLaws.{map_itself}
use Rattle.sc_logs.specs.Writable.{is_hint, is_lit}
use Rattle.sc_footprint.specs.Written.{is_number}
use Rattle.sc_logs.specs.Texts.{sign_text, lit_text}
use Rattle.sc_logs.specs.Readings.{Reads}
use Rattle.sc_logs.proofs.NumberLaws.{number_small, decimal_begins}

-- ---- hints

pub hint_number : (n : ℕ) → is_hint n ≡ true → is_number n ≡ true
hint_number n e = (and_parts _ (is_number n) e).1

pub hint_not_positive : (word : List ℕ) (m : ℕ) → is_number m ≡ true → decimal m ≡ word → is_hint m ≡ false → Reads is_hint decimal word None
hint_not_positive word m s w f n t e =
    let same : n ≡ m = decimal_injective n m (number_small n (hint_number n t)) (number_small m s) (e ∙ sym w) in
    true≢false (sym (subst (λ (k : ℕ). is_hint k ≡ true) same t) ∙ f)

-- ---- literals

pub decimal_no_minus : (n : ℕ) (rest : List ℕ) → is_number n ≡ true → decimal n ≡ 45 ∷ rest → ⊥
decimal_no_minus n rest e h = let least : 48 ≤ 45 = decimal_begins n rest 45 e h in absurd (omega arith)

negated_none : (word rest : List ℕ) (n : ℕ) (b : Bool) → word ≡ 45 ∷ rest → Reads is_hint decimal rest None → is_lit (record { atom = n; negated = b }) ≡ true → lit_text (record { atom = n; negated = b }) ≡ word → ⊥
negated_none word rest n true is none t e = none n t cc
negated_none word rest n false is none t e = decimal_no_minus n rest (and_parts _ (is_number n) t).1 (e ∙ is)

pub lit_negated : (word rest : List ℕ) (o : Option ℕ) → word ≡ 45 ∷ rest → Reads is_hint decimal rest o → Reads is_lit lit_text word (option_map (λ n. record { atom = n; negated = true }) o)
lit_negated word rest (Some n) is read = (read.0, ap (λ (bs : List ℕ). 45 ∷ bs) read.1 ∙ sym is)
lit_negated word rest None is none = λ l t e. negated_none word rest l.atom l.negated is none t e

-- ---- lists of words

-- where one of the words has no value, the list has none
pub each_none : {X T Y : Type 0} (test : X → Bool) (text : X → T) (f : Y → T) (ys : List Y) (i : ℕ) (d : Y) → i < length ys → Reads test text (f (get_or ys i d)) None → Reads (list_all test) (map text) (map f ys) None
each_none test text f [] i d h none xs t e = absurd (omega arith)
each_none test text f (y ∷ ys) zero d h none [] t e = absurd cc
each_none test text f (y ∷ ys) zero d h none (x ∷ xs) t e = none x (and_parts (test x) (list_all test xs) t).0 cc
each_none test text f (y ∷ ys) (suc i) d h none [] t e = absurd cc
each_none test text f (y ∷ ys) (suc i) d h none (x ∷ xs) t e = each_none test text f ys i d (omega arith) none xs (and_parts (test x) (list_all test xs) t).1 cc

-- so where the first one behind some that are read has none
behind : {X T : Type 0} (test : X → Bool) (text : X → T) (ws : List T) (w : T) (xs ys : List X) → Reads test text w None → list_all test ys ≡ true → map text ys ≡ map text xs ++ w ∷ ws → ⊥
behind test text ws w [] [] none t e = absurd cc
behind test text ws w [] (y ∷ ys) none t e = none y (and_parts (test y) (list_all test ys) t).0 cc
behind test text ws w (x ∷ xs) [] none t e = absurd cc
behind test text ws w (x ∷ xs) (y ∷ ys) none t e = behind test text ws w xs ys none (and_parts (test y) (list_all test ys) t).1 cc

pub next_none : {X T : Type 0} (test : X → Bool) (text : X → T) (all words ws : List T) (w : T) (xs : List X) → all ≡ map text xs ++ words → words ≡ w ∷ ws → Reads test text w None → Reads (list_all test) (map text) all None
next_none test text all words ws w xs is next none ys t e = behind test text ws w xs ys none t (e ∙ (is ∙ ap (λ (us : List _). map text xs ++ us) next))

all_true : {X : Type 0} (xs : List X) → list_all (λ x. true) xs ≡ true
all_true [] = refl
all_true (x ∷ xs) = all_true xs

pub signs_none : (word : List ℕ) (i d : ℕ) → i < length word → Reads (λ b. true) sign_text (get_or word i d) None → Reads (λ signs. not (length signs == 0)) (map sign_text) word None
signs_none word i d h none signs t e = each_none (λ b. true) sign_text (λ x. x) word i d h none signs (all_true signs) (e ∙ sym (map_itself word))
