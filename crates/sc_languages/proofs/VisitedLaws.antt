-- Marks in the queue.
use Rattle.std.proofs.Common.{◌≡◌, ℕ, inl, inr, List, [], ◌∷◌, ◌++◌, Bool, true, false, cond, map, is_some, Option, Some, refl, sym, ◌∙◌, ap, subst}
use Rattle.std.proofs.lemmas.Bool.{and_parts}
use Rattle.std.specs.Bool.{beq}
use Rattle.std.specs.Cmp.Lexicographic.{pointwise}
use Rattle.std.specs.Map.{lookup}
use Rattle.sc_lists.specs.Members.{Has}
use Rattle.indexmap.specs.IndexMap.{insert_entry}
use Rattle.sc_languages.specs.Searching.{Entry, places_of, IsPut}

same_bit : (a b : Bool) → beq a b ≡ true → a ≡ b
same_bit true true h = refl
same_bit true false h = absurd cc
same_bit false true h = absurd cc
same_bit false false h = refl

same_bits : (xs ys : List Bool) → pointwise beq xs ys ≡ true → xs ≡ ys
same_bits [] [] h = refl
same_bits [] (y ∷ ys) h = absurd cc
same_bits (x ∷ xs) [] h = absurd cc
same_bits (x ∷ xs) (y ∷ ys) h =
    let both = and_parts (beq x y) (pointwise beq xs ys) h in
    let first : x ≡ y = same_bit x y both.0 in
    let rest : xs ≡ ys = same_bits xs ys both.1 in
    cc

module _ {K V : Type 0} (f : K → List Bool) (g : V → List ℕ) where
  abbrev pub shown : List (K × V) → List Entry
  shown es = map (λ (e : K × V). (f e.0, g e.1)) es

  has_step : (t : Bool) (marks : List Bool) (k : K) (v : V) (es : List (K × V)) (o : Option V) → pointwise beq marks (f k) ≡ t
      → (is_some o ≡ true → Has (places_of (shown es)) marks) → is_some (cond t (Some v) o) ≡ true → Has (places_of (shown ((k, v) ∷ es))) marks
  has_step true marks k v es o is later h = inl (sym (same_bits marks (f k) is))
  has_step false marks k v es o is later h = inr (later h)

  pub has_place : (es : List (K × V)) (marks : List Bool) → is_some (lookup (λ k. pointwise beq marks (f k)) es) ≡ true → Has (places_of (shown es)) marks
  has_place [] marks h = absurd cc
  has_place (e ∷ es) marks h =
      has_step (pointwise beq marks (f e.0)) marks e.0 e.1 es (lookup (λ k. pointwise beq marks (f k)) es) refl (has_place es marks) h

  put_step : (t : Bool) (e : K × V) (k : K) (v : V) (es more : List (K × V)) (o : Option V)
      → (is_some o ≡ false → shown more ≡ shown es ++ (f k, g v) ∷ []) → is_some (cond t (Some e.1) o) ≡ false
      → shown (cond t ((e.0, v) ∷ es) (e ∷ more)) ≡ shown (e ∷ es) ++ (f k, g v) ∷ []
  put_step true e k v es more o later h = absurd cc
  put_step false e k v es more o later h = ap (λ (l : List Entry). (f e.0, g e.1) ∷ l) (later h)

  pub put_last : (es : List (K × V)) (k : K) (v : V) → is_some (lookup (λ x. pointwise beq (f k) (f x)) es) ≡ false
      → shown (insert_entry (λ x y. pointwise beq (f x) (f y)) es k v) ≡ shown es ++ (f k, g v) ∷ []
  put_last [] k v h = refl
  put_last (e ∷ es) k v h =
      put_step (pointwise beq (f k) (f e.0)) e k v es (insert_entry (λ x y. pointwise beq (f x) (f y)) es k v) (lookup (λ x. pointwise beq (f k) (f x)) es) (put_last es k v) h

  -- what `put` does
  pub put_there : (es : List (K × V)) (now : List Entry) (marks : List Bool) (word : List ℕ) → shown es ≡ now
      → is_some (lookup (λ x. pointwise beq marks (f x)) es) ≡ true → IsPut now now marks word
  put_there es now marks word is h = inl (refl, subst (λ l. Has (places_of l) marks) is (has_place es marks h))

  pub put_new : (es new : List (K × V)) (now : List Entry) (marks : List Bool) (k : K) (v : V) → shown es ≡ now → marks ≡ f k
      → new ≡ insert_entry (λ x y. pointwise beq (f x) (f y)) es k v
      → is_some (lookup (λ x. pointwise beq marks (f x)) es) ≡ false → IsPut now (shown new) (f k) (g v)
  put_new es new now marks k v is same put h =
      inr (ap shown put ∙ put_last es k v (subst (λ l. is_some (lookup (λ x. pointwise beq l (f x)) es) ≡ false) same h) ∙ ap (λ (l : List Entry). l ++ (f k, g v) ∷ []) is)
