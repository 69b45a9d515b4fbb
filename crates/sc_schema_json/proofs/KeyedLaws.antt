-- Of declarations with keys of their own one has a key.
use Rattle.std.proofs.Common.{◌≡◌, ◌⊎◌, ◌∙◌, List, [], ◌∷◌, map, Bool, true, false, Contains, inl, inr, sym, ap}
use Rattle.std.specs.Bool.{Decides}
use Rattle.std.specs.List.{IsDistinct}
use Rattle.std.proofs.lemmas.Map.Keys.{IsDistinct-head, IsDistinct-tail}
use Rattle.sc_lists.proofs.ListLaws.{all_element, contains_nothing, contains_split, contains_map}

module _ {D K : Type 0} (eq : K → K → Bool) (decides : (a b : K) → Decides (eq a b) (a ≡ b)) (key : D → K) where
  pub one_keyed : (ds : List D) → IsDistinct eq (map key ds) → (d e : D) → Contains ds d → Contains ds e → key d ≡ key e → d ≡ e
  one_keyed [] distinct d e has had same = absurd (contains_nothing d has)
  one_keyed (x ∷ xs) distinct d e has had same = at (contains_split x xs d has) (contains_split x xs e had) (λ p q. one_keyed xs (IsDistinct-tail eq (key x) (map key xs) distinct) d e p q same) where
    apart : (z : D) → Contains xs z → key x ≡ key z → ⊥
    apart z there is =
        let other : eq (key x) (key z) ≡ false = all_element (λ k. eq (key x) k ≡ false) (map key xs) (key z) (IsDistinct-head eq (key x) (map key xs) distinct) (contains_map key xs z there) in
        let alike : eq (key x) (key z) ≡ true = (decides (key x) (key z)).1 is in
        let no : true ≡ false = sym alike ∙ other in
        cc

    at : (x ≡ d) ⊎ Contains xs d → (x ≡ e) ⊎ Contains xs e → (Contains xs d → Contains xs e → d ≡ e) → d ≡ e
    at (inl p) (inl q) rest = sym p ∙ q
    at (inl p) (inr q) rest = absurd (apart e q (ap key p ∙ same))
    at (inr p) (inl q) rest = absurd (apart d p (ap key q ∙ sym same))
    at (inr p) (inr q) rest = rest p q
