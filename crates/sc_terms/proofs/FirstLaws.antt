-- The table that comes first.
use Rattle.std.proofs.Common.{◌≡◌, ℕ, ◌+◌, ◌<◌, ◌≤◌, true, false, List, [], length, sym, ap, ◌∙◌, arith}
use Rattle.sc_sorts.specs.declared.node.Node.{Node}
use Rattle.sc_terms.specs.Tables.{tree, Keeps, StandsFor}
use Rattle.sc_terms.specs.Folds.{truth_term}

-- `true` is no term of `false`
terms_differ : truth_term true ≡ truth_term false → ⊥
terms_differ e = cc

pub record IsFirst (xs : List Node) : Type 0 where
  pub of_true : StandsFor xs 0 (truth_term true)
  pub of_false : StandsFor xs 1 (truth_term false)
  pub size : length xs ≡ 2

-- what an empty table is once both came in
pub first_is : (xs ys zs : List Node) (m n : ℕ) → xs ≡ [] → length ys ≤ length xs + 1 → StandsFor ys m (truth_term true)
    → Keeps ys zs → length zs ≤ length ys + 1 → StandsFor zs n (truth_term false) → IsFirst zs
first_is xs ys zs m n empty grown p k more q =
    let none : length xs ≡ 0 = ap length empty in
    let place : m ≡ 0 = omega (arith, p.within) in
    let there : 0 < length ys = omega (arith, p.within) in
    let stays : tree zs 0 ≡ truth_term true = k.same 0 there ∙ ap (tree ys) (sym place) ∙ p.is in
    let apart : n ≡ 0 → ⊥ = λ e. terms_differ (sym stays ∙ ap (tree zs) (sym e) ∙ q.is) in
    let last : n ≡ 1 = omega (arith, q.within, apart) in
    record {
      of_true = record { within = omega (arith, q.within); is = stays };
      of_false = record { within = omega (arith, q.within); is = ap (tree zs) (sym last) ∙ q.is };
      size = omega (arith, q.within);
    }
