-- The keys of a record so far, as a set of names. No promise about files speaks of it.
use Rattle.std.specs.Prelude.{◌≡◌, ℕ, List}
use Rattle.std.specs.BTreeSet.{BTreeSet, contains}
use Rattle.std.specs.Cmp.Lexicographic.{slice_cmp}
use Rattle.std.specs.Ordering.{nat_cmp}
use Rattle.sc_ast.specs.declared.expr.Expr.{Expr}
use Rattle.sc_lexemes.specs.Tables.{has_key}

-- the set has just the keys of these fields
pub record AreKeys (names : BTreeSet (List ℕ)) (fields : List (List ℕ × Expr)) : Type 0 where
  pub same : (n : List ℕ) → contains (slice_cmp nat_cmp) names n ≡ has_key n fields
