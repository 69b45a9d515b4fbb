-- What an assignment says of terms, and which instances it falsifies.
use Rattle.std.specs.Prelude.{◌≡◌, ◌&&◌, ◌==◌, ◌^◌, ℕ, nat_lt, Bool, true, false, not, List, Option, Some, None, slice_get, option_map, option_and_then, if◌then◌else◌}
use Rattle.std.specs.List.{list_all}
use Rattle.sc_clauses.specs.declared.lit.Lit.{Lit}
use Rattle.sc_clauses.specs.Assignments.{Assignment, value_of, is_false}
use Rattle.sc_clauses.specs.Clauses.{Clause, bool_eq}
use Rattle.sc_terms.specs.Trees.{Tree}
use Rattle.sc_terms.specs.Folds.{constant, equal_term}
use Rattle.sc_terms.specs.Tables.{tree}
use Rattle.sc_footprint.specs.Problems.{Posed, literal_in, numbered}
use Rattle.sc_rule_laws.specs.Signed.{Said}
use Rattle.sc_rule_instances.specs.Clauses.{is_asked, clause_for}

-- of atom 1, which is `true`, an assignment can only say so
abbrev pub only_true : Option Bool → Option Bool
only_true (Some true) = Some true
only_true _ = None

abbrev pub seen_value : Assignment → ℕ → Option Bool
seen_value m atom = if atom == 1 then only_true (value_of m 1) else value_of m atom

-- the truth of a literal, where it has one
abbrev pub known : Assignment → Lit → Option Bool
known m l = option_map (λ v. bool_eq v (not l.negated)) (seen_value m l.atom)

-- of a constant it can only be said that it is what it is, where atom 1 is true
abbrev pub known_constant : Option Bool → Bool → Option Bool
known_constant (Some true) b = Some b
known_constant _ b = None

abbrev pub known_by : Option Bool → Assignment → Lit → Option Bool
known_by (Some b) m l = known_constant (value_of m 1) b
known_by None m l = known m l

-- the truth of a term, where it has one
abbrev pub known_of : Posed → Assignment → Tree → Option Bool
known_of p m t = known_by (constant t) m (literal_in p t)

-- an instance is falsified: each literal is of a listed atom, isn't `true`, and is false. That none stands with its
-- negation follows
abbrev pub is_broken : Assignment → Clause → Bool
is_broken m c = list_all (λ (l : Lit). is_asked l && is_false m l) c

unfoldable pub is_falsified : Posed → Assignment → Said → Bool
is_falsified p m None = false
is_falsified p m (Some parts) = is_broken m (clause_for p parts)

-- no instance of some rules is falsified
abbrev pub NoneFalsified : {R : Type 0} → (Posed → R → Said) → Posed → Assignment → Type 0
NoneFalsified {R} say p m = (rule : R) → is_falsified p m (say p rule) ≡ false

-- ---- some closed terms, by their numbers

-- of two terms of the table that are not one whether they are equal
abbrev pub known_equal : Posed → Assignment → Option ℕ → Option ℕ → Option Bool
known_equal p m (Some a) (Some b) =
    if a == b then None else known m (literal_in p (equal_term (tree p.nodes a) (tree p.nodes b)))
known_equal p m _ _ = None

-- the term of the table at a place of numbers of closed terms
abbrev pub named_at : Posed → List ℕ → ℕ → Option ℕ
named_at p ns i = option_and_then (λ (n : ℕ). numbered p.closed n) (slice_get ns i)

abbrev pub truth_of : Posed → Assignment → List ℕ → ℕ → ℕ → Option Bool
truth_of p m ns i j = known_equal p m (named_at p ns i) (named_at p ns j)

-- so many items, where they are fewer than a problem has closed terms
abbrev pub few_items : ℕ → ℕ
few_items n = if nat_lt n (10 ^ 18) then n else 0
