-- What two texts have in common from the front on.
use Rattle.std.proofs.Common.{◌≡◌, ◌<◌, ◌≤◌, ◌+◌, ℕ, suc, cond, Bool, true, false, List, [], ◌∷◌, length, refl, sym, ap, ◌∙◌, arith}
use Rattle.std.specs.Prelude.{nat_eq}
use Rattle.std.specs.List.{common_prefix_len}
use Rattle.std.proofs.lemmas.Bool.{eqb-true, eq-eqb}

front_step : (x y : ℕ) (a b : List ℕ) (t : Bool) → nat_eq x y ≡ t → (length a ≤ common_prefix_len nat_eq a b → length b ≤ common_prefix_len nat_eq a b → a ≡ b)
    → suc (length a) ≤ cond t (1 + common_prefix_len nat_eq a b) 0 → suc (length b) ≤ cond t (1 + common_prefix_len nat_eq a b) 0 → x ∷ a ≡ y ∷ b
front_step x y a b true e rest h k = let first = eqb-true x y e in let later = rest (omega arith) (omega arith) in cc
front_step x y a b false e rest h k = absurd (omega arith)

pub front_all : (a b : List ℕ) → length a ≤ common_prefix_len nat_eq a b → length b ≤ common_prefix_len nat_eq a b → a ≡ b
front_all [] [] h k = refl
front_all [] (y ∷ b) h k = absurd (omega arith)
front_all (x ∷ a) [] h k = absurd (omega arith)
front_all (x ∷ a) (y ∷ b) h k = front_step x y a b (nat_eq x y) refl (front_all a b) h k

front_own_step : (x : ℕ) (a : List ℕ) (t : Bool) → nat_eq x x ≡ t → common_prefix_len nat_eq a a ≡ length a → cond t (1 + common_prefix_len nat_eq a a) 0 ≡ suc (length a)
front_own_step x a true e rest = omega arith
front_own_step x a false e rest = let t : false ≡ true = sym e ∙ eq-eqb x x refl in cc

pub front_own : (a : List ℕ) → common_prefix_len nat_eq a a ≡ length a
front_own [] = refl
front_own (x ∷ a) = front_own_step x a (nat_eq x x) refl (front_own a)

longer : (a b : List ℕ) → common_prefix_len nat_eq a b < length a → a ≡ b → ⊥
longer a b h e =
    let same : common_prefix_len nat_eq a b ≡ length a = ap (common_prefix_len nat_eq a) (sym e) ∙ front_own a in omega arith

pub left_longer : (a b : List ℕ) (n : ℕ) → n ≡ common_prefix_len nat_eq a b → n < length a → a ≡ b → ⊥
left_longer a b n is h e = longer a b (omega arith) e

pub right_longer : (a b : List ℕ) (n : ℕ) → n ≡ common_prefix_len nat_eq a b → n < length b → a ≡ b → ⊥
right_longer a b n is h e = let same : length a ≡ length b = ap length e in longer a b (omega arith) e
