-- What the automaton reads character by character is what the patterns match.
use Rattle.std.proofs.Common.{◌≡◌, ℕ, List, [], ◌∷◌, Bool, true, false, not, ◌&&◌, ◌||◌, ◌==◌, cond, length, ⊎_elim, refl, ◌∙◌, ap, arith}
use Rattle.std.proofs.lemmas.Bool.{or_parts, or_right, or_cases, and_from, and_left, and_right}
use Rattle.sc_pattern.specs.Language.{is_end, behind, somewhere}
use Rattle.sc_languages.specs.declared.item.Item.{Item}
use Rattle.sc_languages.specs.declared.item.Item.TheVariants.{Star, Char, End}
use Rattle.sc_languages.specs.Items.{refuses, step, accepts, fits, completes, is_dead}

-- no marks are left
pub accepts_none : (skipped : Bool) (items : List Item) (marks : List Bool) → length marks ≡ 0 → accepts skipped items marks ≡ true
accepts_none skipped [] marks h = refl
accepts_none skipped (x ∷ items) [] h = refl
accepts_none skipped (x ∷ items) (b ∷ marks) h = absurd (omega (arith, h))

pub step_none : (c : ℕ) (reached skipped : Bool) (items : List Item) (marks : List Bool) → length marks ≡ 0 → step c reached skipped items marks ≡ []
step_none c reached skipped [] marks h = refl
step_none c reached skipped (x ∷ items) [] h = refl
step_none c reached skipped (x ∷ items) (b ∷ marks) h = absurd (omega (arith, h))

-- ---- the equations of Booleans behind it

-- what matches at a place matches behind a star there too
twice : (a : Bool) → (a || a) ≡ a
twice true = refl
twice false = refl

again : (a b : Bool) → ((a || b) || a) ≡ (a || b)
again true b = refl
again false true = refl
again false false = refl

star_takes_none : (test : List ℕ → Bool) (text : List ℕ) → (somewhere test text || test text) ≡ somewhere test text
star_takes_none test [] = twice (test [])
star_takes_none test (c ∷ text) = again (test (c ∷ text)) (somewhere test text)

-- at a star: x is what matches at it, y behind it, and z behind it one character before
star_bits : (known k a b x y z : Bool) → (x || y) ≡ x
    → ((known || ((k || (b || a)) && x)) || (((k || (b || a)) && y) || ((b || a) && z))) ≡ ((known || ((k && x) || (a && (z || x)))) || (b && (z || x)))
star_bits known k a b x y z h = grind (arith)

-- at a character: x is what matches at it, y behind it, and same is whether the character is the one that was read
char_bits : (known k a b x y z same : Bool)
    → ((known || (k && x)) || ((((b || a) && same) && y) || (false && z))) ≡ ((known || ((k && x) || (a && (same && y)))) || (b && (same && y)))
char_bits known k a b x y z same = grind (arith)

end_bits : (known k a b x : Bool) → (known || (k && x)) ≡ ((known || ((k && x) || (a && false))) || (b && false))
end_bits known k a b x = grind (arith)

both_bits : (a b y : Bool) → ((a && y) || (b && y)) ≡ ((b || a) && y)
both_bits a b y = grind (arith)

no_bits : (a b y : Bool) → ((a && false) || (b && false)) ≡ (false && y)
no_bits a b y = grind (arith)

end_of_bits : (a b : Bool) → ((a && true) || (b && true)) ≡ (b || a)
end_of_bits a b = grind (arith)

-- ---- one character

-- what is left after a character matches as the whole did
pub good_step : (c : ℕ) (k a : Bool) (items : List Item) (marks : List Bool) (known : Bool) (text : List ℕ)
    → completes items (step c k a items marks) known text ≡ completes items marks (known || ((k && fits items text) || (a && fits items (c ∷ text)))) (c ∷ text)
good_step c k a [] marks known text = refl
good_step c k a (x ∷ items) [] known text = refl
good_step c k a (Star ∷ items) (b ∷ marks) known text =
    good_step c (k || (b || a)) (b || a) items marks (known || ((k || (b || a)) && somewhere (fits items) text)) text
    ∙ ap (λ v. completes items marks v (c ∷ text))
    (star_bits known k a b (somewhere (fits items) text) (fits items text) (fits items (c ∷ text)) (star_takes_none (fits items) text))
good_step c k a (Char d ∷ items) (b ∷ marks) known text =
    good_step c ((b || a) && (c == d)) false items marks (known || (k && behind d (fits items) text)) text
    ∙ ap (λ v. completes items marks v (c ∷ text))
    (char_bits known k a b (behind d (fits items) text) (fits items text) (fits items (c ∷ text)) (c == d))
good_step c k a (End sign ∷ items) (b ∷ marks) known text =
    ap (λ g. not (refuses (End sign) (known || (k && is_end text))) && g) (good_step c false false items marks false text)
    ∙ ap (λ v. not (refuses (End sign) v) && completes items marks false (c ∷ text)) (end_bits known k a b (is_end text))

pub completes_next : (c : ℕ) (items : List Item) (marks : List Bool) (text : List ℕ) → completes items (step c false false items marks) false text ≡ completes items marks false (c ∷ text)
completes_next c items marks text = good_step c false false items marks false text

-- at the end of the text
accepts_from : (a : Bool) (items : List Item) (marks : List Bool) → completes items marks (a && fits items []) [] ≡ accepts a items marks
accepts_from a [] marks = refl
accepts_from a (x ∷ items) [] = refl
accepts_from a (Star ∷ items) (b ∷ marks) =
    ap (λ v. completes items marks v []) (both_bits a b (fits items [])) ∙ accepts_from (b || a) items marks
accepts_from a (Char d ∷ items) (b ∷ marks) =
    ap (λ v. completes items marks v []) (no_bits a b (fits items [])) ∙ accepts_from false items marks
accepts_from a (End sign ∷ items) (b ∷ marks) =
    ap (λ v. not (refuses (End sign) v) && completes items marks false []) (end_of_bits a b)
    ∙ ap (λ g. not (refuses (End sign) (b || a)) && g) (accepts_from false items marks)

pub completes_end : (items : List Item) (marks : List Bool) → completes items marks false [] ≡ accepts false items marks
completes_end items marks = accepts_from false items marks

-- ---- dead marks

pub lost_none : (any star : Bool) (items : List Item) (marks : List Bool) → length marks ≡ 0 → is_dead any star items marks ≡ false
lost_none any star [] marks h = refl
lost_none any star (x ∷ items) [] h = refl
lost_none any star (x ∷ items) (b ∷ marks) h = absurd (omega (arith, h))

some_end : (text : List ℕ) → somewhere is_end text ≡ true
some_end [] = refl
some_end (c ∷ text) = some_end text

none_known : (known b f : Bool) → known ≡ false → b ≡ false → (known || (b && f)) ≡ false
none_known known b f h g = grind (arith, h, g)

end_dead : (sign any star known b f : Bool) → cond sign (not (any || b)) star ≡ true → (any ≡ false → known ≡ false) → (star ≡ true → known ≡ true)
    → not (cond sign (not (known || (b && f))) (known || (b && f))) ≡ false
end_dead true true star known b f lost h g = absurd cc
end_dead true false star known true f lost h g = absurd cc
end_dead true false star known false f lost h g = let e = h refl in rw e refl
end_dead false any true known b f lost h g = let e = g refl in rw e refl
end_dead false any false known b f lost h g = absurd cc

-- any: whether an item of the pattern before is active; star: whether the item before is an active star
pub dead_for_good : (any star known : Bool) (items : List Item) (marks : List Bool) (text : List ℕ) → is_dead any star items marks ≡ true
    → (any ≡ false → known ≡ false) → (star ≡ true → somewhere (fits items) text ≡ true → known ≡ true) → completes items marks known text ≡ false
dead_for_good any star known [] marks text lost h g = absurd cc
dead_for_good any star known (x ∷ items) [] text lost h g = absurd cc
dead_for_good any star known (Star ∷ items) (b ∷ marks) text lost h g =
    dead_for_good (any || b) b (known || (b && somewhere (fits items) text)) items marks text lost
    (λ e. let p = or_parts any b e in none_known known b (somewhere (fits items) text) (h p.0) p.1)
    (λ e f. or_right known (b && somewhere (fits items) text) (and_from b (somewhere (fits items) text) e f))
dead_for_good any star known (Char c ∷ items) (b ∷ marks) text lost h g =
    dead_for_good (any || b) false (known || (b && behind c (fits items) text)) items marks text lost
    (λ e. let p = or_parts any b e in none_known known b (behind c (fits items) text) (h p.0) p.1)
    (λ e f. absurd cc)
dead_for_good any star known (End sign ∷ items) (b ∷ marks) text lost h g =
    ⊎_elim
    (λ e. and_left _ _ (end_dead sign any star known b (is_end text) e h (λ s. g s (some_end text))))
    (λ e. and_right _ _ (dead_for_good false false false items marks text e (λ k. refl) (λ k. absurd cc)))
    (or_cases (cond sign (not (any || b)) star) (is_dead false false items marks) lost)
