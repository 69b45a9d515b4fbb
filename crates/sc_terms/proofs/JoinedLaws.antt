-- Lists of terms that are joined by halves.
use Rattle.std.proofs.Common.{◌≡◌, ℕ, zero, suc, ◌+◌, ◌-◌, ◌/◌, ◌<◌, ◌≤◌, Bool, true, false, ◌&&◌, ◌||◌, List, [], ◌∷◌, length, take, drop, map, All, refl, sym, ap, ◌∙◌, arith, length-drop, take-append-drop}
use Rattle.std.specs.List.{list_all, list_any}
use Rattle.std.proofs.lemmas.List.Elements.{All-from_recursion}
use Rattle.std.proofs.lemmas.List.Folds.{list_all-append, list_any-append}
use Rattle.sc_laws.proofs.BoolLaws.{or_false}
use Rattle.std.proofs.lemmas.List.{length-take-le, length-map, take-map, drop-map, take_all}
use Rattle.sc_world.specs.declared.world.World.{World}
use Rattle.sc_sorts.specs.declared.node.Node.{Node}
use Rattle.sc_terms.specs.Trees.{Tree}
use Rattle.sc_terms.specs.Tables.{tree, Keeps, StandsFor}
use Rattle.sc_terms.specs.Folds.{truth_term, and_term, or_term}
use Rattle.sc_terms.specs.Joined.{joined, all_of, any_of, joins}
use Rattle.sc_terms.specs.Values.{val, truth}
use Rattle.sc_terms.proofs.FoldValues.{constant_value, truth_yes, and_is, or_is, and_truth, or_truth}

-- ---- halves

-- both halves are shorter
first_half : (n : ℕ) (xs : List Tree) → length xs ≤ suc n → 2 ≤ length xs → length (take (length xs / 2) xs) ≤ n
first_half n xs h k = omega (arith, length-take-le (length xs / 2) xs (omega arith))

second_half : (n : ℕ) (xs : List Tree) → length xs ≤ suc n → 2 ≤ length xs → length (drop (length xs / 2) xs) ≤ n
second_half n xs h k = omega (arith, length-drop (length xs / 2) xs)

pub joins_halves : (n : ℕ) → 2 ≤ n → joins (n / 2) + joins (n - n / 2) + 1 ≤ joins n
joins_halves n h = counted (n / 2) (n - n / 2) n (omega arith) (omega arith) (omega arith)
  where
    counted : (i j n : ℕ) → 1 ≤ i → 1 ≤ j → i + j ≡ n → joins i + joins j + 1 ≤ joins n
    counted zero j n a b e = absurd (omega arith)
    counted (suc i) zero n a b e = absurd (omega arith)
    counted (suc i) (suc j) zero a b e = absurd (omega arith)
    counted (suc i) (suc j) (suc n) a b e = omega arith

-- both halves, and then one more term at most
pub joined_grows : (s0 s1 s2 s3 : ℕ) (xs : List ℕ) → 2 ≤ length xs → s1 ≤ s0 + joins (length (take (length xs / 2) xs))
    → s2 ≤ s1 + joins (length (take (length xs - length xs / 2) (drop (length xs / 2) xs))) → s3 ≤ s2 + 1 → s3 ≤ s0 + joins (length xs)
joined_grows s0 s1 s2 s3 xs h p q r =
    let first : length (take (length xs / 2) xs) ≡ length xs / 2 = length-take-le (length xs / 2) xs (omega arith) in
    let rest : length (drop (length xs / 2) xs) ≡ length xs - length xs / 2 = length-drop (length xs / 2) xs in
    let second : length (take (length xs - length xs / 2) (drop (length xs / 2) xs)) ≡ length xs - length xs / 2 = ap length (take_all (length xs - length xs / 2) (drop (length xs / 2) xs) (omega arith)) ∙ rest in
    omega (arith, joins_halves (length xs) h, ap joins first, ap joins second, p, q, r)

module _ (f : Tree → Tree → Tree) (e : Tree) where
  -- more levels than need be change nothing
  enough : (n m : ℕ) (xs : List Tree) → length xs ≤ n → length xs ≤ m → joined f e n xs ≡ joined f e m xs
  unfolding joined
  enough n m [] h k = refl
  enough n m (x ∷ []) h k = refl
  enough zero m (x ∷ y ∷ xs) h k = absurd (omega arith)
  enough (suc n) zero (x ∷ y ∷ xs) h k = absurd (omega arith)
  enough (suc n) (suc m) (x ∷ y ∷ xs) h k =
      let l = x ∷ y ∷ xs in
      let a = enough n m (take (length l / 2) l) (first_half n l h (omega arith)) (first_half m l k (omega arith)) in
      let b = enough n m (drop (length l / 2) l) (second_half n l h (omega arith)) (second_half m l k (omega arith)) in
      cc

  abbrev all : List Tree → Tree
  all xs = joined f e (length xs) xs

  pub halves : (xs : List Tree) → 2 ≤ length xs → all xs ≡ f (all (take (length xs / 2) xs)) (all (drop (length xs / 2) xs))
  unfolding joined
  halves [] h = absurd (omega arith)
  halves (x ∷ []) h = absurd (omega arith)
  halves (x ∷ y ∷ xs) h =
      let l = x ∷ y ∷ xs in
      let a = take (length l / 2) l in
      let b = drop (length l / 2) l in
      let i = enough (suc (length xs)) (length a) a (first_half (suc (length xs)) l (omega arith) (omega arith)) (omega arith) in
      let j = enough (suc (length xs)) (length b) b (second_half (suc (length xs)) l (omega arith) (omega arith)) (omega arith) in
      cc

  map_later : (s t : List Node) → Keeps s t → (xs : List ℕ) → All (λ n. n < length s) xs → map (tree t) xs ≡ map (tree s) xs
  map_later s t k [] h = refl
  map_later s t k (x ∷ xs) h =
      let i = k.same x (h 0 0 (omega arith)) in
      let j = map_later s t k xs (λ l d m. h (suc l) d (omega arith)) in
      cc

  -- both halves, and then what joins them
  pub joined_step : (s0 s1 s2 s3 : List Node) (xs : List ℕ) (a b n : ℕ) → 2 ≤ length xs → All (λ m. m < length s0) xs → Keeps s0 s1 → Keeps s1 s2
      → StandsFor s1 a (all (map (tree s0) (take (length xs / 2) xs))) → StandsFor s2 b (all (map (tree s1) (take (length xs - length xs / 2) (drop (length xs / 2) xs))))
      → StandsFor s3 n (f (tree s2 a) (tree s2 b)) → StandsFor s3 n (all (map (tree s0) xs))
  joined_step s0 s1 s2 s3 xs a b n h k i j p q r = record { within = r.within; is = r.is ∙ both ∙ sym whole }
    where
      first : tree s2 a ≡ all (take (length xs / 2) (map (tree s0) xs))
      first = j.same a p.within ∙ p.is ∙ ap all (sym (take-map (tree s0) (length xs / 2) xs))

      second : tree s2 b ≡ all (drop (length xs / 2) (map (tree s0) xs))
      second = q.is ∙ ap (λ (ys : List ℕ). all (map (tree s1) ys)) (take_all (length xs - length xs / 2) (drop (length xs / 2) xs) (omega (arith, length-drop (length xs / 2) xs)))
          ∙ ap all (sym (drop-map (tree s1) (length xs / 2) xs) ∙ ap (drop (length xs / 2)) (map_later s0 s1 i xs k))

      both : f (tree s2 a) (tree s2 b) ≡ f (all (take (length xs / 2) (map (tree s0) xs))) (all (drop (length xs / 2) (map (tree s0) xs)))
      both = let x = first in let y = second in cc

      whole : all (map (tree s0) xs) ≡ f (all (take (length xs / 2) (map (tree s0) xs))) (all (drop (length xs / 2) (map (tree s0) xs)))
      whole = halves (map (tree s0) xs) (omega (arith, length-map xs (tree s0)))
          ∙ ap (λ (m : ℕ). f (all (take (m / 2) (map (tree s0) xs))) (all (drop (m / 2) (map (tree s0) xs)))) (length-map xs (tree s0))

-- ---- whether all are true, and whether one is

module _ (w : World) where
  abbrev holds : Tree → Bool
  holds t = truth (val t w)

  and_holds : (a b : Tree) → holds (and_term a b) ≡ (holds a && holds b)
  and_holds a b = ap truth (and_is a b w) ∙ and_truth (val a w) (val b w)

  or_holds : (a b : Tree) → holds (or_term a b) ≡ (holds a || holds b)
  or_holds a b = ap truth (or_is a b w) ∙ or_truth (val a w) (val b w)

  and_true : (b : Bool) → b ≡ (b && true)
  and_true true = refl
  and_true false = refl

  constant_holds : (b : Bool) → holds (truth_term b) ≡ b
  constant_holds b = ap truth (constant_value (truth_term b) b w refl) ∙ truth_yes b

  all_at : (n : ℕ) (xs : List Tree) → length xs ≤ n → holds (joined and_term (truth_term true) n xs) ≡ list_all holds xs
  unfolding joined
  all_at n [] h = constant_holds true
  all_at n (x ∷ []) h = and_true (holds x)
  all_at zero (x ∷ y ∷ xs) h = absurd (omega arith)
  all_at (suc n) (x ∷ y ∷ xs) h =
      let l = x ∷ y ∷ xs in
      let k = length l / 2 in
      let a = all_at n (take k l) (first_half n l h (omega arith)) in
      let b = all_at n (drop k l) (second_half n l h (omega arith)) in
      and_holds (joined and_term (truth_term true) n (take k l)) (joined and_term (truth_term true) n (drop k l))
      ∙ ap (λ (c : Bool). c && holds (joined and_term (truth_term true) n (drop k l))) a
      ∙ ap (λ (c : Bool). list_all holds (take k l) && c) b
      ∙ sym (list_all-append holds (take k l) (drop k l))
      ∙ ap (list_all holds) (take-append-drop k l)

  any_at : (n : ℕ) (xs : List Tree) → length xs ≤ n → holds (joined or_term (truth_term false) n xs) ≡ list_any holds xs
  unfolding joined
  any_at n [] h = constant_holds false
  any_at n (x ∷ []) h = sym (or_false (holds x))
  any_at zero (x ∷ y ∷ xs) h = absurd (omega arith)
  any_at (suc n) (x ∷ y ∷ xs) h =
      let l = x ∷ y ∷ xs in
      let k = length l / 2 in
      let a = any_at n (take k l) (first_half n l h (omega arith)) in
      let b = any_at n (drop k l) (second_half n l h (omega arith)) in
      or_holds (joined or_term (truth_term false) n (take k l)) (joined or_term (truth_term false) n (drop k l))
      ∙ ap (λ (c : Bool). c || holds (joined or_term (truth_term false) n (drop k l))) a
      ∙ ap (λ (c : Bool). list_any holds (take k l) || c) b
      ∙ sym (list_any-append holds (take k l) (drop k l))
      ∙ ap (list_any holds) (take-append-drop k l)

  pub all_true : (xs : List Tree) → holds (all_of xs) ≡ list_all holds xs
  all_true xs = all_at (length xs) xs (omega arith)

  pub any_true : (xs : List Tree) → holds (any_of xs) ≡ list_any holds xs
  any_true xs = any_at (length xs) xs (omega arith)

pub three_below : (n a b c : ℕ) → a < n → b < n → c < n → All (λ m. m < n) (a ∷ b ∷ c ∷ [])
three_below n a b c h i j = All-from_recursion (λ (m : ℕ). m < n) (a ∷ b ∷ c ∷ []) (h, (i, (j, tt)))
