-- An alphabet in which some character behaves like any given one.
use Rattle.std.proofs.Common.{◌≡◌, ℕ, ◌<◌, ◌≤◌, Bool, true, false, ◌==◌, nat_eq, ◌+◌, inl, inr, ⊎_elim, List, [], ◌∷◌, ◌++◌, ◌&&◌, ◌||◌, refl, sym, ap, ◌∙◌, subst, arith, take, length, get_or}
use Rattle.std.proofs.lemmas.Bool.{ne_eqb, cases_lt}
use Rattle.std.proofs.lemmas.List.{take_more, take_all}
use Rattle.std.specs.Bool.{MatchBool}
use Rattle.std.specs.List.{list_any}
use Rattle.std.specs.Char.{IsScalar}
use Rattle.sc_lists.proofs.MemberLaws.{Has-left, Has-last, Has-push, list_any-Has}
use Rattle.sc_lists.specs.Members.{Has}
use Rattle.sc_languages.specs.declared.item.Item.{Item}
use Rattle.sc_languages.specs.declared.item.Item.TheVariants.{Star, Char, End}
use Rattle.sc_languages.specs.Items.{step}
use Rattle.sc_languages.specs.Searching.{AreAlike, StandsFor, Covers, HasLetters, AreAmong, IsNoted}

-- characters that no item tells apart are read alike
pub step_alike : (c d : ℕ) (k a : Bool) (items : List Item) (marks : List Bool) → AreAlike items c d → step c k a items marks ≡ step d k a items marks
step_alike c d k a [] marks h = refl
step_alike c d k a (x ∷ items) [] h = refl
step_alike c d k a (Star ∷ items) (b ∷ marks) h = ap (λ l. (k || (b || a)) ∷ l) (step_alike c d (k || (b || a)) (b || a) items marks h)
step_alike c d k a (Char x ∷ items) (b ∷ marks) h =
    ap (λ l. k ∷ l)
    (step_alike c d ((b || a) && (c == x)) false items marks h.1 ∙ ap (λ t. step d ((b || a) && t) false items marks) h.0)
step_alike c d k a (End sign ∷ items) (b ∷ marks) h = ap (λ l. k ∷ l) (step_alike c d false false items marks h)

alike_same : (items : List Item) (c : ℕ) → AreAlike items c c
alike_same [] c = tt
alike_same (Star ∷ items) c = alike_same items c
alike_same (Char x ∷ items) c = (refl, alike_same items c)
alike_same (End sign ∷ items) c = alike_same items c

-- two characters that no item has aren't told apart
alike_others : (items : List Item) (c d : ℕ) → ¬ (Has items (Char c)) → ¬ (Has items (Char d)) → AreAlike items c d
alike_others [] c d h g = tt
alike_others (Star ∷ items) c d h g = alike_others items c d (λ k. h (inr k)) (λ k. g (inr k))
alike_others (Char x ∷ items) c d h g =
    (ne_eqb c x (λ e. h (inl (ap Char (sym e)))) ∙ sym (ne_eqb d x (λ e. g (inl (ap Char (sym e))))), alike_others items c d (λ k. h (inr k)) (λ k. g (inr k)))
alike_others (End sign ∷ items) c d h g = alike_others items c d (λ k. h (inr k)) (λ k. g (inr k))

-- an alphabet that holds every character stands for all
pub covers_all : (items : List Item) (words : List (List ℕ)) (letters : List ℕ) → ((c : ℕ) → IsScalar c → Has letters c) → Covers items words letters
covers_all items words letters all c scalar = (c, all c scalar, inl refl)

covers_by : (b : Bool) (items : List Item) (words : List (List ℕ)) (letters : List ℕ) (c d : ℕ) → MatchBool b (Has letters c) (¬ (Has letters c)) → HasLetters items words letters
    → ¬ (Has letters d) → (e : ℕ) × Has (d ∷ letters) e × StandsFor items words e c
covers_by true items words letters c d h has other = (c, inr h, inl refl)
covers_by false items words letters c d h has other =
    (d, inl refl, inr (alike_others items c d (λ k. h (has.of_items c k)) (λ k. other (has.of_items d k)), λ w there k. other (has.of_words w there d k)))

-- so do the characters of the items and texts with one other
pub covers_with : (items : List Item) (words : List (List ℕ)) (letters : List ℕ) (d : ℕ) → HasLetters items words letters → ¬ (Has letters d) → Covers items words (d ∷ letters)
covers_with items words letters d has other c scalar = covers_by (list_any (λ y. nat_eq y c) letters) items words letters c d (list_any-Has letters c) has other

-- one more item
pub items_next : (items : List Item) (i : ℕ) (d : Item) (old new : List ℕ) → i < length items → ((c : ℕ) → Has (take i items) (Char c) → Has old c)
    → IsNoted old new (get_or items i d) → (c : ℕ) → Has (take (i + 1) items) (Char c) → Has new c
items_next items i d old new within has more c h =
    ⊎_elim (λ k. more.kept c (has c k)) (λ e. more.noted c e)
    (Has-push (take i items) (get_or items i d) (Char c) (subst (λ (l : List Item). Has l (Char c)) (take_more items i d within) h))

-- one more character of a text
pub word_next : (word : List ℕ) (i d : ℕ) (old new : List ℕ) → i < length word → d ≡ get_or word i d → ((c : ℕ) → Has (take i word) c → Has old c)
    → IsNoted old new (Char d) → (c : ℕ) → Has (take (i + 1) word) c → Has new c
word_next word i d old new within read has more c h =
    ⊎_elim (λ k. more.kept c (has c k)) (λ e. more.noted c (ap Char (read ∙ e)))
    (Has-push (take i word) (get_or word i d) c (subst (λ (l : List ℕ). Has l c) (take_more word i d within) h))

pub kept_on : (first old new : List ℕ) (item : Item) → AreAmong first old → IsNoted old new item → AreAmong first new
kept_on first old new item kept more c h = more.kept c (kept c h)

-- one more text
pub words_next : (words : List (List ℕ)) (i : ℕ) (word : List ℕ) (old new : List ℕ) → i < length words → word ≡ get_or words i word
    → ((w : List ℕ) → Has (take i words) w → (c : ℕ) → Has w c → Has old c) → AreAmong old new → ((c : ℕ) → Has word c → Has new c)
    → (w : List ℕ) → Has (take (i + 1) words) w → (c : ℕ) → Has w c → Has new c
words_next words i word old new within read has kept noted w h c k =
    ⊎_elim (λ there. kept c (has w there c k)) (λ is. noted c (subst (λ (l : List ℕ). Has l c) (sym (read ∙ is)) k))
    (Has-push (take i words) (get_or words i word) w (subst (λ (l : List (List ℕ)). Has l w) (take_more words i word within) h))

pub letters_all : (items : List Item) (words : List (List ℕ)) (i : ℕ) (letters : List ℕ) → length words ≤ i → ((c : ℕ) → Has items (Char c) → Has letters c)
    → ((w : List ℕ) → Has (take i words) w → (c : ℕ) → Has w c → Has letters c) → HasLetters items words letters
letters_all items words i letters past of_items of_words = record {
  of_items = of_items;
  of_words = λ w h. of_words w (subst (λ (l : List (List ℕ)). Has l w) (sym (take_all i words past)) h);
}

-- a range with one more number
pub within_next : (letters : List ℕ) (low n : ℕ) → ((c : ℕ) → IsScalar c → low ≤ c → c < n → Has letters c) → (IsScalar n → Has letters n)
    → (c : ℕ) → IsScalar c → low ≤ c → c < n + 1 → Has letters c
within_next letters low n so_far here c scalar above below =
    ⊎_elim (λ h. so_far c scalar above h)
    (λ h. let same : n ≡ c = omega (arith, h, below) in subst (λ m. Has letters m) same (here (subst IsScalar (sym same) scalar)))
    (cases_lt c n)

-- an item's character is appended
pub noted_push : (old new : List ℕ) (item : Item) (c : ℕ) → item ≡ Char c → new ≡ old ++ c ∷ [] → IsNoted old new item
noted_push old new item c is put = record {
  kept = λ d h. subst (λ (l : List ℕ). Has l d) (sym put) (Has-left old (c ∷ []) d h);
  noted = λ d e. let both : Char c ≡ Char d = sym is ∙ e in let same : c ≡ d = cc in subst (λ (l : List ℕ). Has l d) (sym put) (subst (λ m. Has (old ++ c ∷ []) m) same (Has-last old c));
}

-- or the list holds it
pub noted_there : (old : List ℕ) (item : Item) (c : ℕ) → item ≡ Char c → Has old c → IsNoted old old item
noted_there old item c is there = record {
  kept = λ d h. h;
  noted = λ d e. let both : Char c ≡ Char d = sym is ∙ e in let same : c ≡ d = cc in subst (λ m. Has old m) same there;
}
