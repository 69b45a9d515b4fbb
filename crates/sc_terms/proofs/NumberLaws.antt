-- Numbers are one where their terms are.
use Rattle.std.proofs.Common.{◌≡◌, ℕ, ◌<◌, true, List, length, nat_eq, subst, arith}
use Rattle.std.proofs.lemmas.Bool.Decides.{nat_tests}
use Rattle.std.specs.Cmp.{both_ways}
use Rattle.sc_laws.proofs.NumberLaws.{nat_eq_true}
use Rattle.sc_sorts.specs.declared.node.Node.{Node}
use Rattle.sc_terms.specs.Tables.{tree, IsTable}
use Rattle.sc_terms.specs.Order.{tree_eq}
use Rattle.sc_terms.proofs.OrderLaws.{tree_eq-exact, tree_eq-itself}

nat_eq-from : (a b : ℕ) → a ≡ b → nat_eq a b ≡ true
nat_eq-from a b h = grind (arith, nat_tests)

pub same_number : (xs : List Node) → IsTable xs → (a b : ℕ) → a < length xs → b < length xs → nat_eq a b ≡ tree_eq (tree xs a) (tree xs b)
same_number xs t a b h k =
    both_ways (nat_eq a b) (tree_eq (tree xs a) (tree xs b))
    (λ e. subst (λ (n : ℕ). tree_eq (tree xs a) (tree xs n) ≡ true) (nat_eq_true a b e) (tree_eq-itself (tree xs a)))
    (λ e. nat_eq-from a b (t.apart a b h k (tree_eq-exact (tree xs a) (tree xs b) e)))
