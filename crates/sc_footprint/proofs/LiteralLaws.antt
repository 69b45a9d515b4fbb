-- The literal of a term, one negation at a time.
use Rattle.std.proofs.Common.{◌≡◌, ℕ, Bool, true, false, not, Some, None, refl, ap, ◌∙◌}
use Rattle.sc_laws.proofs.BoolLaws.{not_not}
use Rattle.sc_clauses.specs.declared.lit.Lit.{Lit}
use Rattle.sc_clauses.specs.Clauses.{negation}
use Rattle.sc_sorts.specs.declared.node.Leaf.TheVariants as leafs
use Rattle.sc_sorts.specs.declared.node.Literal.TheVariants as literals
use Rattle.sc_sorts.specs.declared.node.UnaryOp.TheVariants as unary
use Rattle.sc_terms.specs.Trees.{Tree, leaf, one, two, choice, many}
use Rattle.sc_terms.specs.Folds.{under_not}
use Rattle.sc_footprint.specs.Problems.{literal}
use Rattle.sc_footprint.specs.Indices.{signed, own_literal}

module _ (number : Tree → ℕ) where
  literal_of_not : (t a : Tree) → Some a ≡ under_not t → literal number t ≡ negation (literal number a)
  unfolding literal
  literal_of_not (leaf l) a h = cc
  literal_of_not (one unary.Not b) a h = let e : b ≡ a = cc in ap (λ (x : Tree). negation (literal number x)) e
  literal_of_not (one (unary.Bit i) b) a h = cc
  literal_of_not (one (unary.CarryIn i) b) a h = cc
  literal_of_not (one (unary.ProductRow i j) b) a h = cc
  literal_of_not (one (unary.ProductCarry i j) b) a h = cc
  literal_of_not (one (unary.Attributes s) b) a h = cc
  literal_of_not (one (unary.Ancestors s) b) a h = cc
  literal_of_not (one unary.Keys b) a h = cc
  literal_of_not (one (unary.Field name) b) a h = cc
  literal_of_not (one unary.Present b) a h = cc
  literal_of_not (one unary.Held b) a h = cc
  literal_of_not (one (unary.Like p) b) a h = cc
  literal_of_not (two o b c) a h = cc
  literal_of_not (choice c b d) a h = cc
  literal_of_not (many o ts) a h = cc

  pub literal_of_other : (t : Tree) → None ≡ under_not t → literal number t ≡ own_literal number t
  unfolding literal
  literal_of_other (leaf (leafs.Literal (literals.Bool true))) h = refl
  literal_of_other (leaf (leafs.Literal (literals.Bool false))) h = refl
  literal_of_other (leaf (leafs.Literal (literals.Long n))) h = refl
  literal_of_other (leaf (leafs.Literal (literals.String n))) h = refl
  literal_of_other (leaf (leafs.Literal (literals.Decimal n))) h = refl
  literal_of_other (leaf (leafs.Literal (literals.Ip n))) h = refl
  literal_of_other (leaf (leafs.Literal (literals.Entity u us))) h = refl
  literal_of_other (leaf (leafs.None s)) h = refl
  literal_of_other (leaf (leafs.Principal s)) h = refl
  literal_of_other (leaf (leafs.Resource s)) h = refl
  literal_of_other (leaf (leafs.Context s)) h = refl
  literal_of_other (one unary.Not b) h = cc
  literal_of_other (one (unary.Bit i) b) h = refl
  literal_of_other (one (unary.CarryIn i) b) h = refl
  literal_of_other (one (unary.ProductRow i j) b) h = refl
  literal_of_other (one (unary.ProductCarry i j) b) h = refl
  literal_of_other (one (unary.Attributes s) b) h = refl
  literal_of_other (one (unary.Ancestors s) b) h = refl
  literal_of_other (one unary.Keys b) h = refl
  literal_of_other (one (unary.Field name) b) h = refl
  literal_of_other (one unary.Present b) h = refl
  literal_of_other (one unary.Held b) h = refl
  literal_of_other (one (unary.Like p) b) h = refl
  literal_of_other (two o b c) h = refl
  literal_of_other (choice c b d) h = refl
  literal_of_other (many o ts) h = refl

signed_once : (b : Bool) (l : Lit) → signed b (negation l) ≡ signed (not b) l
signed_once true l = ap (λ (b : Bool). let m : Lit = record { atom = l.atom; negated = b } in m) (not_not l.negated)
signed_once false l = refl

-- one negation further down
pub literal_step : (number : Tree → ℕ) (t u a : Tree) (b : Bool) → literal number t ≡ signed b (literal number u) → Some a ≡ under_not u
    → literal number t ≡ signed (not b) (literal number a)
literal_step number t u a b e h = e ∙ ap (signed b) (literal_of_not number u a h) ∙ signed_once b (literal number a)
