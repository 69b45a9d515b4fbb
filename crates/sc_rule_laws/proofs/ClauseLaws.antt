-- When some signed term of a few has its truth.
use Rattle.std.proofs.Common.{◌≡◌, ◌||◌, Bool, true, false, not, List, [], ◌∷◌, map, inl, inr, refl, ap, sym, ◌∙◌}
use Rattle.std.proofs.lemmas.Bool.{or_left, or_right}
use Rattle.sc_lists.specs.Members.{Has}
use Rattle.sc_laws.proofs.BoolLaws.{or_first, or_second, not_false}
use Rattle.sc_world.specs.declared.world.World.{World}
use Rattle.sc_terms.specs.Trees.{Tree}
use Rattle.sc_rule_laws.specs.Signed.{Signed, so, unless, given, is_true, holds_in, some_holds, Holds}

unless_by : (b d : Bool) → (b ≡ true → d ≡ true) → (not b || d) ≡ true
unless_by true d h = h refl
unless_by false d h = refl

so_by : (b d : Bool) → (b ≡ false → d ≡ true) → (b || d) ≡ true
so_by true d h = refl
so_by false d h = h refl

not_by : (b d : Bool) → b ≡ false → (not b || d) ≡ true
not_by true d h = absurd cc
not_by false d h = refl

module _ (w : World) where
  -- the others hold where the first doesn't
  pub unless_else : (t : Tree) (parts : List Signed) → (is_true t w ≡ true → some_holds w parts ≡ true) → some_holds w (unless t ∷ parts) ≡ true
  unfolding some_holds
  unless_else t parts h = unless_by (is_true t w) (some_holds w parts) h

  pub so_else : (t : Tree) (parts : List Signed) → (is_true t w ≡ false → some_holds w parts ≡ true) → some_holds w (so t ∷ parts) ≡ true
  unfolding some_holds
  so_else t parts h = so_by (is_true t w) (some_holds w parts) h

  -- the first holds
  pub so_holds : (t : Tree) (parts : List Signed) → is_true t w ≡ true → some_holds w (so t ∷ parts) ≡ true
  unfolding some_holds
  so_holds t parts e = or_left (is_true t w) (some_holds w parts) e

  pub unless_holds : (t : Tree) (parts : List Signed) → is_true t w ≡ false → some_holds w (unless t ∷ parts) ≡ true
  unfolding some_holds
  unless_holds t parts e = not_by (is_true t w) (some_holds w parts) e

  later_holds : (s : Signed) (parts : List Signed) → some_holds w parts ≡ true → some_holds w (s ∷ parts) ≡ true
  unfolding some_holds
  later_holds s parts h = or_right (holds_in w s) (some_holds w parts) h

  -- one of many
  pub one_of : {X : Type 0} (f : X → Tree) (xs : List X) (x : X) → Has xs x → is_true (f x) w ≡ true → some_holds w (map (λ z. so (f z)) xs) ≡ true
  one_of f [] x h e = absurd h
  one_of f (y ∷ xs) x (inl is) e = so_holds (f y) (map (λ z. so (f z)) xs) (ap (λ z. is_true (f z) w) is ∙ e)
  one_of f (y ∷ xs) x (inr later) e = later_holds (so (f y)) (map (λ z. so (f z)) xs) (one_of f xs x later e)

  -- where none of many is so, each isn't
  pub all_true : {X : Type 0} (f : X → Tree) (xs : List X) → some_holds w (map (λ x. unless (f x)) xs) ≡ false → (x : X) → Has xs x → is_true (f x) w ≡ true
  unfolding some_holds
  all_true f [] e x h = absurd h
  all_true f (y ∷ xs) e x (inl is) = ap (λ z. is_true (f z) w) (sym is) ∙ not_false (is_true (f y) w) (or_first (not (is_true (f y) w)) _ e)
  all_true f (y ∷ xs) e x (inr later) = all_true f xs (or_second (not (is_true (f y) w)) _ e) x later

  -- what is said where a test passes
  pub given_holds : (test : Bool) (parts : List Signed) → (test ≡ true → some_holds w parts ≡ true) → Holds w (given test parts)
  given_holds true parts h = h refl
  given_holds false parts h = tt
