-- Instances by the numbers of their terms in the table, and their literals one by one. No public promise speaks of it.
use Rattle.std.specs.Prelude.{◌&&◌, ◌+◌, ◌-◌, ◌<◌, ◌==◌, ℕ, nat_lt, Bool, false, not, List, length, Option, Some, None, option_map, slice_get, if◌then◌else◌}
use Rattle.std.specs.Option.{option_or}
use Rattle.sc_clauses.specs.declared.lit.Lit.{Lit}
use Rattle.sc_clauses.specs.Clauses.{positive, negation}
use Rattle.sc_sorts.specs.declared.sort.Sort.{Sort}
use Rattle.sc_sorts.specs.contracts.sort.SortPartialEq.TheImpl.{ghosts as sorts}
use Rattle.sc_sorts.specs.declared.node.ManyOp.TheVariants as manys
use Rattle.sc_sorts.specs.declared.node.Node.{Node}
use Rattle.sc_sorts.specs.declared.node.Node.TheVariants as node
use Rattle.sc_terms.specs.Trees.{Tree, many}
use Rattle.sc_terms.specs.Folds.{equal_term}
use Rattle.sc_terms.specs.Tables.{tree, Places}
use Rattle.sc_footprint.specs.Problems.{Posed, numbered, literal_in}
use Rattle.sc_rule_laws.specs.Signed.{Said}
use Rattle.sc_rule_laws.specs.Sets.{se1, se2, se3, se4, se5, se6, se7, se8, se9, se10}
use Rattle.sc_rule_laws.specs.Terms.{is_set, member, subset, common, missing, shared, written}
use Rattle.sc_rule_instances.specs.Saying.{count_of, literal_of}
use Rattle.sc_rule_instances.specs.declared.rule.SetRule.{SetRule}
use Rattle.sc_rule_instances.specs.declared.rule.SetRule.TheVariants.{Se1, Se2, Se3, Se4, Se5, Se6, Se7, Se8, Se9, Se10}

-- ---- terms of the table in place of closed terms

abbrev pub two_of : Option ℕ → Option ℕ → Option (ℕ × ℕ)
two_of (Some a) (Some b) = Some (a, b)
two_of _ _ = None

abbrev pub three_of : Option ℕ → Option ℕ → Option ℕ → Option (ℕ × ℕ × ℕ)
three_of (Some a) (Some b) (Some c) = Some (a, b, c)
three_of _ _ _ = None

abbrev pub two_at : Posed → ℕ → ℕ → Option (ℕ × ℕ)
two_at p a b = two_of (numbered p.closed a) (numbered p.closed b)

abbrev pub three_at : Posed → ℕ → ℕ → ℕ → Option (ℕ × ℕ × ℕ)
three_at p a b c = three_of (numbered p.closed a) (numbered p.closed b) (numbered p.closed c)

-- the instance with the numbers of its terms in the table, where each is closed
abbrev pub placed : Posed → SetRule → Option SetRule
placed p (Se1 x y s) = option_map (λ (t : ℕ × ℕ × ℕ). Se1 t.0 t.1 t.2) (three_at p x y s)
placed p (Se2 x s) = option_map (λ (t : ℕ × ℕ). Se2 t.0 t.1) (two_at p x s)
placed p (Se3 x s i) = option_map (λ (t : ℕ × ℕ). Se3 t.0 t.1 i) (two_at p x s)
placed p (Se4 s t x) = option_map (λ (k : ℕ × ℕ × ℕ). Se4 k.0 k.1 k.2) (three_at p s t x)
placed p (Se5 s t i) = option_map (λ (k : ℕ × ℕ). Se5 k.0 k.1 i) (two_at p s t)
placed p (Se6 s t i) = option_map (λ (k : ℕ × ℕ). Se6 k.0 k.1 i) (two_at p s t)
placed p (Se7 s t x) = option_map (λ (k : ℕ × ℕ × ℕ). Se7 k.0 k.1 k.2) (three_at p s t x)
placed p (Se8 s t i) = option_map (λ (k : ℕ × ℕ). Se8 k.0 k.1 i) (two_at p s t)
placed p (Se9 s t i) = option_map (λ (k : ℕ × ℕ). Se9 k.0 k.1 i) (two_at p s t)
placed p (Se10 s t i) = option_map (λ (k : ℕ × ℕ). Se10 k.0 k.1 i) (two_at p s t)

-- its terms are of the table
abbrev pub IsPlaced : Posed → SetRule → Type 0
IsPlaced p (Se1 x y s) = (x < length p.nodes) × (y < length p.nodes) × (s < length p.nodes)
IsPlaced p (Se2 x s) = (x < length p.nodes) × (s < length p.nodes)
IsPlaced p (Se3 x s i) = (x < length p.nodes) × (s < length p.nodes)
IsPlaced p (Se4 s t x) = (s < length p.nodes) × (t < length p.nodes) × (x < length p.nodes)
IsPlaced p (Se5 s t i) = (s < length p.nodes) × (t < length p.nodes)
IsPlaced p (Se6 s t i) = (s < length p.nodes) × (t < length p.nodes)
IsPlaced p (Se7 s t x) = (s < length p.nodes) × (t < length p.nodes) × (x < length p.nodes)
IsPlaced p (Se8 s t i) = (s < length p.nodes) × (t < length p.nodes)
IsPlaced p (Se9 s t i) = (s < length p.nodes) × (t < length p.nodes)
IsPlaced p (Se10 s t i) = (s < length p.nodes) × (t < length p.nodes)

-- what it says
abbrev pub placed_said : Posed → SetRule → Said
placed_said p (Se1 x y s) = se1 (tree p.nodes x) (tree p.nodes y) (tree p.nodes s)
placed_said p (Se2 x s) = se2 (tree p.nodes x) (tree p.nodes s)
placed_said p (Se3 x s i) = se3 (tree p.nodes x) (tree p.nodes s) i
placed_said p (Se4 s t x) = se4 (tree p.nodes s) (tree p.nodes t) (tree p.nodes x)
placed_said p (Se5 s t i) = se5 (tree p.nodes s) (tree p.nodes t) i
placed_said p (Se6 s t i) = se6 (tree p.nodes s) (tree p.nodes t) i
placed_said p (Se7 s t x) = se7 (tree p.nodes s) (tree p.nodes t) (tree p.nodes x)
placed_said p (Se8 s t i) = se8 (tree p.nodes s) (tree p.nodes t) i
placed_said p (Se9 s t i) = se9 (tree p.nodes s) (tree p.nodes t) i
placed_said p (Se10 s t i) = se10 (tree p.nodes s) (tree p.nodes t) i

-- ---- set terms

-- the node is a set term whose members are of a sort
abbrev pub is_set_node : Sort → Node → Bool
is_set_node k (node.Many (manys.Set own) ps) = sorts.eq k own
is_set_node k _ = false

abbrev pub is_set_over : Sort → Tree → Bool
is_set_over k (many (manys.Set own) ts) = sorts.eq k own
is_set_over k _ = false

-- the equation of a term with the part at a place, and a literal of no atom where there is none
abbrev pub equal_if : Posed → ℕ → Option (List ℕ × ℕ) → Lit
equal_if p x (Some part) = literal_in p (equal_term (tree p.nodes x) (tree p.nodes part.1))
equal_if p x None = positive 0

abbrev pub equal_at : Posed → ℕ → Places → ℕ → Lit
equal_at p x parts place = equal_if p x (slice_get parts place)

-- whether the part at a place is a member of a set, with a sign, and a literal of no atom where there is none
abbrev pub signed : Bool → Lit → Lit
signed sign lit = if sign then lit else negation lit

abbrev pub member_if : Posed → Bool → ℕ → Option (List ℕ × ℕ) → Lit
member_if p sign q (Some part) = signed sign (literal_in p (member (tree p.nodes part.1) (tree p.nodes q)))
member_if p sign q None = positive 0

abbrev pub member_at : Posed → Bool → ℕ → Places → ℕ → Lit
member_at p sign q parts place = member_if p sign q (slice_get parts place)

-- ---- how many literals there are

abbrev pub side_count : ℕ → Option ℕ
side_count side = if side == 0 then Some 2 else if side == 1 then Some 2 else None

abbrev pub equal_count : Posed → ℕ → ℕ → ℕ → Option ℕ
equal_count p s t side =
    if side == 0 then Some 2 else if side == 1 then Some 2
    else if side == 2 then (if is_set (tree p.nodes s) && is_set (tree p.nodes t) then Some 3 else None)
    else None

-- of SE9 and SE10, by how many stand in a set term, and by those that stand there
abbrev pub told_count : ℕ → ℕ → Option ℕ
told_count count index = if nat_lt index count then Some 2 else if index == count then Some (count + 1) else None

abbrev pub told_of : Option (List Tree) → ℕ → Option ℕ
told_of (Some us) index = told_count (length us) index
told_of None index = None

abbrev pub row_count : Posed → SetRule → Option ℕ
row_count p (Se1 x y s) = Some 3
row_count p (Se2 x s) = count_of (se2 (tree p.nodes x) (tree p.nodes s))
row_count p (Se3 x s i) = count_of (se3 (tree p.nodes x) (tree p.nodes s) i)
row_count p (Se4 s t x) = Some 3
row_count p (Se5 s t i) = side_count i
row_count p (Se6 s t i) = side_count i
row_count p (Se7 s t x) = Some 3
row_count p (Se8 s t i) = equal_count p s t i
row_count p (Se9 s t i) = told_of (written (tree p.nodes s)) i
row_count p (Se10 s t i) = told_of (option_or (written (tree p.nodes s)) (written (tree p.nodes t))) i

-- ---- the literal at a place, and one of no atom past the last

abbrev pub of_two : Lit → Lit → ℕ → Lit
of_two a b place = if place == 0 then a else if place == 1 then b else positive 0

abbrev pub of_three : Lit → Lit → Lit → ℕ → Lit
of_three a b c place = if place == 0 then a else if place == 1 then b else if place == 2 then c else positive 0

module _ (p : Posed) where
  abbrev pub equal_lit : ℕ → ℕ → Lit
  equal_lit a b = literal_in p (equal_term (tree p.nodes a) (tree p.nodes b))

  abbrev pub member_lit : ℕ → ℕ → Lit
  member_lit x s = literal_in p (member (tree p.nodes x) (tree p.nodes s))

  abbrev pub subset_lit : ℕ → ℕ → Lit
  subset_lit s t = literal_in p (subset (tree p.nodes s) (tree p.nodes t))

  abbrev pub common_lit : ℕ → ℕ → Lit
  common_lit s t = literal_in p (common (tree p.nodes s) (tree p.nodes t))

  -- the literals of SE2 and SE3, by the parts of the set term
  abbrev pub listed_row : ℕ → ℕ → Places → ℕ → Lit
  listed_row x s parts place = if place == 0 then negation (member_lit x s) else equal_at p x parts (place - 1)

  abbrev pub standing_row : ℕ → ℕ → Places → ℕ → ℕ → Lit
  standing_row x s parts index place = of_two (negation (equal_at p x parts index)) (member_lit x s) place

  -- The literals of SE9 and SE10, by those that stand in a set term: a literal is so just where each of them is a
  -- member of a set, or, where the sign is false, isn't so just where none is. Of one of them by its place, and past
  -- the last of all.
  abbrev pub told_one : Bool → Lit → ℕ → Places → ℕ → ℕ → Lit
  told_one sign told q parts index place = of_two (signed (not sign) told) (member_at p sign q parts index) place

  abbrev pub told_all : Bool → Lit → ℕ → Places → ℕ → Lit
  told_all sign told q parts place = if place == 0 then signed sign told else member_at p (not sign) q parts (place - 1)

  abbrev pub told_row : Bool → Lit → ℕ → Places → ℕ → ℕ → Lit
  told_row sign told q parts index place =
      if nat_lt index (length parts) then told_one sign told q parts index place
      else if index == length parts then told_all sign told q parts place
      else positive 0

  -- the least member of one set that isn't in another, as a member of a third
  abbrev pub missing_lit : ℕ → ℕ → ℕ → Lit
  missing_lit s t u = literal_in p (member (missing (tree p.nodes s) (tree p.nodes t)) (tree p.nodes u))

  -- the least member of two sets, as a member of a third
  abbrev pub shared_lit : ℕ → ℕ → ℕ → Lit
  shared_lit s t u = literal_in p (member (shared (tree p.nodes s) (tree p.nodes t)) (tree p.nodes u))

  abbrev pub missing_row : ℕ → ℕ → ℕ → ℕ → Lit
  missing_row s t side place =
      if side == 0 then of_two (subset_lit s t) (missing_lit s t s) place
      else if side == 1 then of_two (subset_lit s t) (negation (missing_lit s t t)) place
      else positive 0

  abbrev pub shared_row : ℕ → ℕ → ℕ → ℕ → Lit
  shared_row s t side place =
      if side == 0 then of_two (negation (common_lit s t)) (shared_lit s t s) place
      else if side == 1 then of_two (negation (common_lit s t)) (shared_lit s t t) place
      else positive 0

  abbrev pub both_row : ℕ → ℕ → ℕ → Lit
  both_row s t place =
      if is_set (tree p.nodes s) && is_set (tree p.nodes t)
      then of_three (equal_lit s t) (negation (subset_lit s t)) (negation (subset_lit t s)) place
      else positive 0

  abbrev pub equal_row : ℕ → ℕ → ℕ → ℕ → Lit
  equal_row s t side place =
      if side == 0 then of_two (negation (equal_lit s t)) (subset_lit s t) place
      else if side == 1 then of_two (negation (equal_lit s t)) (subset_lit t s) place
      else if side == 2 then both_row s t place
      else positive 0

  abbrev pub row_literal : SetRule → ℕ → Lit
  row_literal (Se1 x y s) place = of_three (negation (equal_lit x y)) (negation (member_lit x s)) (member_lit y s) place
  row_literal (Se2 x s) place = literal_of p (se2 (tree p.nodes x) (tree p.nodes s)) place
  row_literal (Se3 x s i) place = literal_of p (se3 (tree p.nodes x) (tree p.nodes s) i) place
  row_literal (Se4 s t x) place =
      of_three (negation (subset_lit s t)) (negation (member_lit x s)) (member_lit x t) place
  row_literal (Se5 s t i) place = missing_row s t i place
  row_literal (Se6 s t i) place = shared_row s t i place
  row_literal (Se7 s t x) place =
      of_three (negation (member_lit x s)) (negation (member_lit x t)) (common_lit s t) place
  row_literal (Se8 s t i) place = equal_row s t i place
  row_literal (Se9 s t i) place = literal_of p (se9 (tree p.nodes s) (tree p.nodes t) i) place
  row_literal (Se10 s t i) place = literal_of p (se10 (tree p.nodes s) (tree p.nodes t) i) place
