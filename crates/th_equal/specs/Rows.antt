-- Instances at closed terms, and the terms that they speak of, by their numbers. No public promise speaks of it.
use Rattle.std.specs.Prelude.{◌≡◌, ◌≢◌, ◌<◌, ℕ, Bool, true, length, Option, Some, None}
use Rattle.sc_clauses.specs.declared.lit.Lit.{Lit}
use Rattle.sc_sorts.specs.Inside.{SortField, SortFields}
use Rattle.sc_terms.specs.Trees.{Tree, choice}
use Rattle.sc_terms.specs.Tables.{tree}
use Rattle.sc_footprint.specs.Problems.{Posed, literal_in}
use Rattle.sc_rule_instances.specs.Given.{IsClosed, term_at}
use Rattle.sc_rule_laws.specs.Equal.{eq1, eq2, eq3, eq4, eq5, eq6, eq7, eq8, field_at, field_equal}
use Rattle.sc_rule_laws.specs.Signed.{Said}
use Rattle.sc_rule_laws.specs.Terms.{fields_of, one_sort}
use Rattle.th_equal.specs.declared.row.Row.{Row}
use Rattle.th_equal.specs.declared.row.Row.TheVariants.{Chain, Choice, Field, Fields, Presence, Held, Options, Default}

-- ---- instances

abbrev pub row_said : Posed → Row → Said
row_said p (Chain x y z) = eq1 (term_at p x) (term_at p y) (term_at p z)
row_said p (Choice x i) = eq2 (term_at p x) i
row_said p (Field r s i) = eq3 (term_at p r) (term_at p s) i
row_said p (Fields r s) = eq4 (term_at p r) (term_at p s)
row_said p (Presence o q) = eq5 (term_at p o) (term_at p q)
row_said p (Held o q) = eq6 (term_at p o) (term_at p q)
row_said p (Options o q i) = eq7 (term_at p o) (term_at p q) i
row_said p (Default o) = eq8 (term_at p o)

abbrev pub AreClosed : Posed → Row → Type 0
AreClosed p (Chain x y z) = IsClosed p x × IsClosed p y × IsClosed p z
AreClosed p (Choice x i) = IsClosed p x
AreClosed p (Field r s i) = IsClosed p r × IsClosed p s
AreClosed p (Fields r s) = IsClosed p r × IsClosed p s
AreClosed p (Presence o q) = IsClosed p o × IsClosed p q
AreClosed p (Held o q) = IsClosed p o × IsClosed p q
AreClosed p (Options o q i) = IsClosed p o × IsClosed p q
AreClosed p (Default o) = IsClosed p o

-- what an instance says is what a row of closed terms says, and nothing where there is none
pub record IsRow (p : Posed) (said : Said) (row : Row) : Type 0 where
  pub closed : AreClosed p row
  pub is : said ≡ row_said p row

abbrev pub IsRowIf : Posed → Said → Option Row → Type 0
IsRowIf p said (Some row) = IsRow p said row
IsRowIf p said None = said ≡ None

-- ---- their terms

-- a number of the table stands for a term, which is there
abbrev pub IsThere : Posed → Tree → Option ℕ → Type 0
IsThere p t (Some n) = (n < length p.nodes) × (tree p.nodes n ≡ t)
IsThere p t None = ⊥

-- the parts of a choice, where a term is one
pub record IsChoice (p : Posed) (t : Tree) (c a b : ℕ) : Type 0 where
  pub condition_in : c < length p.nodes
  pub first_in : a < length p.nodes
  pub second_in : b < length p.nodes
  pub is : t ≡ choice (tree p.nodes c) (tree p.nodes a) (tree p.nodes b)

abbrev pub IsChoiceIf : Posed → Tree → Option (ℕ × ℕ × ℕ) → Type 0
IsChoiceIf p t (Some (c, a, b)) = IsChoice p t c a b
IsChoiceIf p t None = (c a b : Tree) → t ≢ choice c a b

-- how many fields two records of one sort have
abbrev pub count_if : Bool → Option SortFields → Option ℕ
count_if true (Some fs) = Some (length fs)
count_if _ _ = None

-- the literal of the equation of two records' fields of a number
abbrev pub IsFieldLiteral : Posed → Tree → Tree → ℕ → Lit → Type 0
IsFieldLiteral p x y i l = (f : SortField) → one_sort x y ≡ true → field_at (fields_of x) i ≡ Some f
    → l ≡ literal_in p (field_equal x y f)
