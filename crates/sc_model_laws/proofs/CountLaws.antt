-- Distinct elements that are all among others are no more than these.
use Rattle.std.proofs.Common.{◌≡◌, ◌≤◌, inl, inr, suc, arith, List, [], ◌∷◌, length, refl, sym, ap, ◌∙◌, subst}
use Rattle.sc_lists.specs.Members.{Has}
use Rattle.sc_languages.specs.Strings.{AreDistinct}

module _ {X : Type 0} where
  -- the others of an element
  abbrev without : (ys : List X) (x : X) → Has ys x → List X
  without [] x h = absurd h
  without (y ∷ ys) x (inl is) = ys
  without (y ∷ ys) x (inr later) = y ∷ without ys x later

  length-without : (ys : List X) (x : X) (h : Has ys x) → length ys ≡ suc (length (without ys x h))
  length-without [] x h = absurd h
  length-without (y ∷ ys) x (inl is) = refl
  length-without (y ∷ ys) x (inr later) = ap suc (length-without ys x later)

  Has-without : (ys : List X) (x z : X) (h : Has ys x) → Has ys z → (z ≡ x → ⊥) → Has (without ys x h) z
  Has-without [] x z h k n = absurd h
  Has-without (y ∷ ys) x z (inl is) (inl same) n = absurd (n (sym same ∙ is))
  Has-without (y ∷ ys) x z (inl is) (inr more) n = more
  Has-without (y ∷ ys) x z (inr later) (inl same) n = inl same
  Has-without (y ∷ ys) x z (inr later) (inr more) n = inr (Has-without ys x z later more n)

  pub distinct_within : (xs ys : List X) → AreDistinct xs → ((z : X) → Has xs z → Has ys z) → length xs ≤ length ys
  distinct_within [] ys d h = omega arith
  distinct_within (x ∷ xs) ys d h =
      let there : Has ys x = h x (inl refl) in
      let rest : length xs ≤ length (without ys x there) =
      distinct_within xs (without ys x there) d.1 (λ z k. Has-without ys x z there (h z (inr k)) (λ e. d.0 (subst (Has xs) e k))) in
      let size : length ys ≡ suc (length (without ys x there)) = length-without ys x there in
      omega (arith, rest, size)
