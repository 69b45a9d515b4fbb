-- What an assignment tells of two closed terms, and of one and a pattern.
use Rattle.std.specs.Prelude.{ℕ, Bool, List, [], map, Option, Some, None, slice_get}
use Rattle.sc_clauses.specs.Assignments.{Assignment}
use Rattle.sc_terms.specs.Folds.{like_term}
use Rattle.sc_terms.specs.Trees.{Tree}
use Rattle.sc_footprint.specs.Problems.{Posed, literal_in}
use Rattle.sc_rule_instances.specs.Known.{known, truth_of}
use Rattle.sc_rule_laws.specs.Strings.{Pattern, Signs}

-- whether two closed terms are equal, with the two exchanged
abbrev pub turned_truth : Posed → Assignment → List ℕ → ℕ → ℕ → Option Bool
turned_truth p m ns i j = truth_of p m ns j i

-- ---- patterns

-- whether a term matches a pattern, where that is known
abbrev pub like_known : Posed → Assignment → Tree → Pattern → Option Bool
like_known p m t q = known m (literal_in p (like_term t q))

-- the signs of a term
abbrev pub row_at : Posed → Assignment → List Pattern → Tree → Signs
row_at p m qs t = map (like_known p m t) qs

abbrev pub row_of : Posed → Assignment → List Pattern → Option Tree → Signs
row_of p m qs (Some t) = row_at p m qs t
row_of p m qs None = []

-- the sign at a place of a row, and by a row's place and a pattern's
abbrev pub sign_in : Option (Option Bool) → Option Bool
sign_in None = None
sign_in (Some sign) = sign

abbrev pub sign_by : Option Signs → ℕ → Option Bool
sign_by None i = None
sign_by (Some row) i = sign_in (slice_get row i)

abbrev pub sign_of : List Signs → ℕ → ℕ → Option Bool
sign_of rows i j = sign_by (slice_get rows i) j
