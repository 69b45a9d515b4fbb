-- A text of a form is as long as the pattern, and its numbers are no greater than their digits can make.
use Rattle.std.proofs.Common.{◌≡◌, ℕ, zero, suc, ◌+◌, ◌<◌, ◌≤◌, Bool, true, false, ◌&&◌, List, [], ◌∷◌, length, get_or, refl, ap, sym, ◌∙◌, arith}
use Rattle.std.specs.Char.{is_ascii_digit}
use Rattle.std.proofs.lemmas.Bool.Decides.{nat_tests}
use Rattle.sc_date_texts.specs.Forms.{allows, fits, two_at, three_at, four_at}

pub both : (a b : Bool) → (a && b) ≡ true → (a ≡ true) × (b ≡ true)
both true b h = (refl, h)
both false b h = absurd cc

pub fits_length : (pattern text : List ℕ) → fits pattern text ≡ true → length text ≡ length pattern
unfolding fits
fits_length [] [] h = refl
fits_length [] (b ∷ bs) h = absurd cc
fits_length (p ∷ ps) [] h = absurd cc
fits_length (p ∷ ps) (b ∷ bs) h = let t = both (allows p b) (fits ps bs) h in let e = fits_length ps bs t.1 in omega arith

allowed : (b : ℕ) → allows 35 b ≡ true → b ≤ 57
allowed b h = let d : is_ascii_digit b ≡ true = h in grind (arith, nat_tests)

pub fits_digit : (pattern text : List ℕ) → fits pattern text ≡ true → (i : ℕ) → get_or pattern i 0 ≡ 35 → get_or text i 0 ≤ 57
unfolding fits
fits_digit [] [] h i e = absurd (omega arith)
fits_digit [] (b ∷ bs) h i e = absurd cc
fits_digit (p ∷ ps) [] h i e = absurd cc
fits_digit (p ∷ ps) (b ∷ bs) h zero e = let t = both (allows p b) (fits ps bs) h in allowed b (ap (λ q. allows q b) (sym e) ∙ t.0)
fits_digit (p ∷ ps) (b ∷ bs) h (suc i) e = fits_digit ps bs (both (allows p b) (fits ps bs) h).1 i e

pub two_small : (pattern text : List ℕ) → fits pattern text ≡ true → (i : ℕ) → get_or pattern i 0 ≡ 35 → get_or pattern (i + 1) 0 ≡ 35 → two_at text i < 100
unfolding two_at
two_small p t h i d e = omega (arith, fits_digit p t h i d, fits_digit p t h (i + 1) e)

pub three_small : (pattern text : List ℕ) → fits pattern text ≡ true → (i : ℕ) → get_or pattern i 0 ≡ 35 → get_or pattern (i + 1) 0 ≡ 35 → get_or pattern (i + 1 + 1) 0 ≡ 35 → three_at text i < 1000
unfolding three_at
three_small p t h i d e f = omega (arith, fits_digit p t h i d, two_small p t h (i + 1) e f)

pub four_small : (pattern text : List ℕ) → fits pattern text ≡ true → (i : ℕ) → get_or pattern i 0 ≡ 35 → get_or pattern (i + 1) 0 ≡ 35
    → get_or pattern (i + 2) 0 ≡ 35 → get_or pattern (i + 2 + 1) 0 ≡ 35 → four_at text i < 10000
unfolding four_at
four_small p t h i d e f g = omega (arith, two_small p t h i d e, two_small p t h (i + 2) f g)
