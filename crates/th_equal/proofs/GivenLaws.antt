-- What an instance says at closed terms that are given by their numbers.
use Rattle.std.proofs.Common.{◌≡◌, ◌<◌, ℕ, Option, None, IsSomeAnd, sym, ap, ◌∙◌, subst}
use Rattle.sc_clauses.specs.declared.lit.Lit.{Lit}
use Rattle.sc_clauses.specs.Clauses.{positive}
use Rattle.sc_footprint.specs.Problems.{Posed}
use Rattle.sc_rule_instances.specs.Clauses.{said_clause}
use Rattle.sc_rule_instances.specs.Saying.{count_of, literal_of}
use Rattle.sc_rule_laws.specs.Signed.{Said}
use Rattle.th_equal.specs.declared.row.Row.{Row}
use Rattle.th_equal.specs.Rows.{IsRow, row_said}

module _ (p : Posed) where
  -- ---- counts and literals

  pub row_count : (said : Said) (row : Row) (n : Option ℕ) → IsRow p said row → n ≡ count_of (row_said p row) → n ≡ count_of said
  row_count said row n h e = e ∙ ap count_of (sym h.is)

  pub none_count : (said : Said) → said ≡ None → None ≡ count_of said
  none_count said e = ap count_of (sym e)

  pub row_place : (said : Said) (row : Row) (k : ℕ) → IsRow p said row → IsSomeAnd (count_of said) (λ n. k < n) → IsSomeAnd (count_of (row_said p row)) (λ n. k < n)
  row_place said row k h e = subst (λ (s : Said). IsSomeAnd (count_of s) (λ n. k < n)) h.is e

  pub row_literal : (said : Said) (row : Row) (k : ℕ) (l : Lit) → IsRow p said row → l ≡ literal_of p (row_said p row) k → l ≡ literal_of p said k
  row_literal said row k l h e = e ∙ ap (λ (s : Said). literal_of p s k) (sym h.is)

  pub none_literal : (said : Said) (k : ℕ) → said ≡ None → positive 0 ≡ literal_of p said k
  unfolding said_clause
  none_literal said k e = sym (ap (λ (s : Said). literal_of p s k) e)
