-- Places of a value: the fields of a record and what an option holds, step by step. Two places are like that are got
-- by the same steps.
use Rattle.std.specs.Prelude.{◌≡◌, ◌++◌, ℕ, zero, nat_lt, Bool, true, false, List, [], ◌∷◌, Option, Some, None, if◌then◌else◌, refl}
use Rattle.std.specs.Str.{bytes_eq}
use Rattle.sc_sorts.specs.declared.sort.Sort.{Sort, Sort-F, out-Sort}
use Rattle.sc_sorts.specs.declared.sort.Sort.TheOpen as s
use Rattle.sc_sorts.specs.declared.node.UnaryOp.{UnaryOp}
use Rattle.sc_sorts.specs.declared.node.UnaryOp.TheVariants as unary
use Rattle.sc_terms.specs.Trees.{Tree, one}
use Rattle.sc_terms.specs.TreeSorts.{tree_sort}
use Rattle.sc_terms.specs.Folds.{equal_term, present_term, bit_term}
use Rattle.sc_rule_laws.specs.Signed.{Signed, Said, so, unless, given}
use Rattle.sc_rule_laws.specs.Terms.{member}

-- one step: into the field of a name, or into what an option holds
abbrev pub same_step : UnaryOp → UnaryOp → Bool
same_step (unary.Field m) (unary.Field n) = bytes_eq m n
same_step unary.Held unary.Held = true
same_step _ _ = false

-- what two terms are places of, as far as they are got by the same steps
unfoldable pub roots : Tree → Tree → Tree × Tree
roots (one o a) (one q b) = if same_step o q then roots a b else (one o a, one q b)
roots x y = (x, y)

-- One half of what says that two places are alike; the other exchanges them. It is told by the sort: of what has bits
-- each bit, by its place; of sets each candidate. For the others the number is 0.
abbrev pub half_by : Sort-F Sort → Tree → Tree → ℕ → Option Tree → Said
half_by s.Bool x y zero z = Some (unless x ∷ so y ∷ [])
half_by s.String x y zero z = Some (so (equal_term x y) ∷ [])
half_by (s.Entity name us) x y zero z = Some (so (equal_term x y) ∷ [])
half_by (s.Option held) x y zero z = Some (unless (present_term x) ∷ so (present_term y) ∷ [])
half_by s.Long x y i z = given (nat_lt i 64) (unless (bit_term x i) ∷ so (bit_term y i) ∷ [])
half_by s.Decimal x y i z = given (nat_lt i 64) (unless (bit_term x i) ∷ so (bit_term y i) ∷ [])
half_by s.Ip x y i z = given (nat_lt i 257) (unless (bit_term x i) ∷ so (bit_term y i) ∷ [])
half_by (s.Set k) x y i (Some z) = Some (unless (member z x) ∷ so (member z y) ∷ [])
half_by _ x y i z = None

abbrev pub half : Tree → Tree → ℕ → Option Tree → Said
half x y i z = half_by (out-Sort (tree_sort x)) x y i z

-- what is said unless something isn't so, where a test passes
abbrev pub under : Bool → List Signed → Said → Said
under true guard (Some parts) = Some (guard ++ parts)
under _ guard _ = None

-- ---- worked rows

pub roots_of_fields : (n : List ℕ) (a b : Tree) → bytes_eq n n ≡ true
    → roots (one (unary.Field n) a) (one (unary.Field n) b) ≡ roots a b
unfolding roots
roots_of_fields n a b e = λ i. if e i then roots a b else (one (unary.Field n) a, one (unary.Field n) b)

pub roots_of_other_steps : (n : List ℕ) (a b : Tree)
    → roots (one (unary.Field n) a) (one unary.Held b) ≡ (one (unary.Field n) a, one unary.Held b)
unfolding roots
roots_of_other_steps n a b = refl
