-- Names in an order in which each leads to earlier ones alone.
use Rattle.std.proofs.Common.{◌<◌, ◌+◌, ℕ, zero, suc, List, [], length, take, get_or, Contains, min, sym, ◌∙◌, subst, arith, length-take}
use Rattle.std.proofs.lemmas.List.{get_or-take, get_or_default}
use Rattle.std.proofs.lemmas.List.Elements.{All-contains, Contains-get_or}
use Rattle.sc_graphs.specs.Reaching.{step as at_once, on as through}
use Rattle.sc_graphs.proofs.ReachesLaws.{then_one}
use Rattle.sc_schema_types.specs.References.{Names, Graph, Reaches}
use Rattle.sc_schema_types.specs.Orders.{LeadsBack}

-- what holds of the names before a place holds of each name in the list as far as there
at_earlier : (P : List ℕ → Type 0) (order : Names) (k : ℕ) (r : List ℕ) → ((j : ℕ) → j < k → j < length order → P (get_or order j [])) → Contains (take k order) r → P r
at_earlier P order k r before (j, within, is) =
    let short : j < min k (length order) = omega (arith, within, length-take k order) in
    let less : j < k = omega (arith, short) in
    let inside : j < length order = omega (arith, short) in
    subst P (get_or_default order j [] r inside ∙ sym (get_or-take k order j r less) ∙ is) (before j less inside)

module _ (graph : Graph) (order : Names) (h : LeadsBack graph order) where
  -- what holds of a name in the order, if it holds of those that this leads to, holds of each name in it
  module _ (P : List ℕ → Type 0) (step : (q : List ℕ) → Contains order q → ((r : List ℕ) → Contains (graph q) r → P r) → P q) where
    below : (n k : ℕ) → k < n → k < length order → P (get_or order k [])
    below zero k less within = absurd (omega (arith, less))
    below (suc n) k less within =
        step (get_or order k []) (Contains-get_or order k [] within)
        (λ r leads. at_earlier P order k r (λ j earlier inside. below n j (omega (arith, earlier, less)) inside) (All-contains (Contains (take k order)) (graph (get_or order k [])) r (h k within) leads))

    pub by_order : (q : List ℕ) → Contains order q → P q
    by_order q (k, within, is) = subst P (get_or_default order k [] q within ∙ is) (below (k + 1) k (omega arith) within)

  Circles : List ℕ → Type 0
  Circles q = Reaches graph q q → ⊥

  not_round : (q : List ℕ) → ((r : List ℕ) → Contains (graph q) r → Circles r) → Circles q
  unfolding Circles
  not_round q none (at_once _ _ leads) = none q leads (at_once q q leads)
  not_round q none (through _ m _ leads r) = none m leads (then_one m r leads)

  -- no name in it reaches itself
  pub none_circles : (q : List ℕ) → Contains order q → Reaches graph q q → ⊥
  unfolding Circles
  none_circles = by_order Circles (λ q _ none. not_round q none)
