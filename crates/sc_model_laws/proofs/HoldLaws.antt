-- What follows from signed terms some of which has its truth.
use Rattle.std.proofs.Common.{◌≡◌, ◌||◌, Bool, true, false, not, inl, inr, cond, List, [], ◌∷◌, map, refl, sym, ◌∙◌}
use Rattle.sc_lists.specs.Members.{Has}
use Rattle.sc_terms.specs.Trees.{Tree}
use Rattle.sc_rule_laws.specs.Signed.{Signed, so, unless}
use Rattle.sc_model_laws.specs.Assignments.{Assignment, lit, some_hold}

told_by : (b c d : Bool) → (cond b c (not c) || d) ≡ true → c ≡ not b → d ≡ true
told_by true true d h e = absurd cc
told_by true false d h e = h
told_by false true d h e = h
told_by false false d h e = absurd cc

only_by : (b c d : Bool) → (cond b c (not c) || d) ≡ true → d ≡ false → c ≡ b
only_by true true d h e = refl
only_by true false d h e = absurd cc
only_by false true d h e = absurd cc
only_by false false d h e = refl

module _ (m : Assignment) where
  -- its first term has the other truth: the others hold
  pub others : (b : Bool) (x : Tree) (ps : List Signed) → some_hold m ((b, x) ∷ ps) ≡ true → lit m x ≡ not b → some_hold m ps ≡ true
  unfolding some_hold
  others b x ps h e = told_by b (lit m x) (some_hold m ps) h e

  -- no other holds
  pub only : (b : Bool) (x : Tree) (ps : List Signed) → some_hold m ((b, x) ∷ ps) ≡ true → some_hold m ps ≡ false → lit m x ≡ b
  unfolding some_hold
  only b x ps h e = only_by b (lit m x) (some_hold m ps) h e

  pub none_holds : some_hold m [] ≡ false
  unfolding some_hold
  none_holds = refl

  -- it is alone
  pub last : (b : Bool) (x : Tree) → some_hold m ((b, x) ∷ []) ≡ true → lit m x ≡ b
  last b x h = only b x [] h none_holds

  pub second : (b c : Bool) (x y : Tree) → some_hold m ((b, x) ∷ (c, y) ∷ []) ≡ true → lit m x ≡ not b → lit m y ≡ c
  second b c x y h e = last c y (others b x ((c, y) ∷ []) h e)

  pub third : (b c d : Bool) (x y z : Tree) → some_hold m ((b, x) ∷ (c, y) ∷ (d, z) ∷ []) ≡ true
      → lit m x ≡ not b → lit m y ≡ not c → lit m z ≡ d
  third b c d x y z h e f = second c d y z (others b x ((c, y) ∷ (d, z) ∷ []) h e) f

  -- a term has the other truth, and no later one holds
  pub fails : (b : Bool) (x : Tree) (ps : List Signed) → lit m x ≡ not b → some_hold m ps ≡ false → some_hold m ((b, x) ∷ ps) ≡ false
  unfolding some_hold
  fails true x ps e h = rw e h
  fails false x ps e h = rw e h

  pub first_of_three : (b c d : Bool) (x y z : Tree) → some_hold m ((b, x) ∷ (c, y) ∷ (d, z) ∷ []) ≡ true
      → lit m y ≡ not c → lit m z ≡ not d → lit m x ≡ b
  first_of_three b c d x y z h e f =
      only b x ((c, y) ∷ (d, z) ∷ []) h (fails c y ((d, z) ∷ []) e (fails d z [] f none_holds))

  pub first_of_four : (b c d o : Bool) (x y z u : Tree) → some_hold m ((b, x) ∷ (c, y) ∷ (d, z) ∷ (o, u) ∷ []) ≡ true
      → lit m y ≡ not c → lit m z ≡ not d → lit m u ≡ not o → lit m x ≡ b
  first_of_four b c d o x y z u h e f i =
      only b x ((c, y) ∷ (d, z) ∷ (o, u) ∷ []) h
      (fails c y ((d, z) ∷ (o, u) ∷ []) e (fails d z ((o, u) ∷ []) f (fails o u [] i none_holds)))

  -- none of many fails to hold where each is true
  pub none_unless : {X : Type 0} (f : X → Tree) (xs : List X) → ((x : X) → Has xs x → lit m (f x) ≡ true)
      → some_hold m (map (λ x. unless (f x)) xs) ≡ false
  none_unless f [] h = none_holds
  none_unless f (x ∷ xs) h =
      fails false (f x) (map (λ x. unless (f x)) xs) (h x (inl refl)) (none_unless f xs (λ y k. h y (inr k)))

  so_by : (X : Type 0) (f : X → Tree) (x : X) (xs : List X) (b : Bool) → lit m (f x) ≡ b → some_hold m (map (λ x. so (f x)) (x ∷ xs)) ≡ true
      → (some_hold m (map (λ x. so (f x)) xs) ≡ true → (y : X) × Has xs y × (lit m (f y) ≡ true))
      → (y : X) × Has (x ∷ xs) y × (lit m (f y) ≡ true)
  so_by X f x xs true e h later = (x, inl refl, e)
  so_by X f x xs false e h later =
      let r = later (others true (f x) (map (λ x. so (f x)) xs) h e) in
      (r.0, inr r.1, r.2)

  -- some of many is true
  pub some_so : {X : Type 0} (f : X → Tree) (xs : List X) → some_hold m (map (λ x. so (f x)) xs) ≡ true
      → (x : X) × Has xs x × (lit m (f x) ≡ true)
  some_so f [] h = let both : true ≡ false = sym h ∙ none_holds in absurd cc
  some_so f (x ∷ xs) h = so_by _ f x xs (lit m (f x)) refl h (some_so f xs)
