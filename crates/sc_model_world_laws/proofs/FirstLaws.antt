-- What the first of some terms says that says something.
use Rattle.std.proofs.Common.{◌≡◌, inl, inr, List, [], ◌∷◌, Option, Some, None, unwrap_or, refl, sym, ap, ◌∙◌}
use Rattle.sc_lists.specs.Members.{Has}
use Rattle.sc_terms.specs.Trees.{Tree}
use Rattle.sc_model_world_laws.specs.Rebuilt.{or_said, first_said}

module _ {X : Type 0} (f : Tree → Option X) (otherwise : X) where
  -- what holds of what is said otherwise and of each that a term says holds of it
  each_by : (P : X → Type 0) (o q : Option X) → ((w : X) → o ≡ Some w → P w) → P (unwrap_or q otherwise) → P (unwrap_or (or_said o q) otherwise)
  each_by P (Some w) q h later = h w refl
  each_by P None q h later = later

  pub said_each : (P : X → Type 0) (xs : List Tree) → ((y : Tree) (w : X) → Has xs y → f y ≡ Some w → P w) → P otherwise → P (unwrap_or (first_said f xs) otherwise)
  unfolding first_said
  said_each P [] h d = d
  said_each P (x ∷ xs) h d = each_by P (f x) (first_said f xs) (λ w e. h x w (inl refl) e) (said_each P xs (λ y w k e. h y w (inr k) e) d)

  -- where some term says it, and none says anything else
  is_by : (v : X) (o q : Option X) → ((w : X) → o ≡ Some w → w ≡ v) → (o ≡ None → unwrap_or q otherwise ≡ v) → unwrap_or (or_said o q) otherwise ≡ v
  is_by v (Some w) q same later = same w refl
  is_by v None q same later = later refl

  pub said_is : (v : X) (xs : List Tree) (x : Tree) → Has xs x → f x ≡ Some v → ((y : Tree) (w : X) → Has xs y → f y ≡ Some w → w ≡ v) → unwrap_or (first_said f xs) otherwise ≡ v
  unfolding first_said
  said_is v [] x h e same = absurd h
  said_is v (z ∷ xs) x (inl is) e same =
      is_by v (f z) (first_said f xs) (λ w k. same z w (inl refl) k) (λ none. let both : None ≡ Some v = sym none ∙ ap f is ∙ e in absurd cc)
  said_is v (z ∷ xs) x (inr later) e same =
      is_by v (f z) (first_said f xs) (λ w k. same z w (inl refl) k) (λ none. said_is v xs x later e (λ y w k q. same y w (inr k) q))
