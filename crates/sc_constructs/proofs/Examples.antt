-- Rows of the table of compilation, worked out for operands that always have a value.
use Rattle.std.proofs.Common.{◌≡◌, true, false, Some, [], ◌∷◌, refl}
use Rattle.sc_sorts.specs.declared.node.BinaryOp.TheVariants as binary
use Rattle.sc_schema.specs.declared.ty.Presence.TheVariants.{Optional}
use Rattle.sc_terms.specs.Trees.{Tree, two}
use Rattle.sc_terms.specs.Folds.{not_term, and_term, or_term, present_term, held_term}
use Rattle.sc_terms.specs.Joined.{all_of, joined}
use Rattle.sc_constructs.specs.Code.{Code, code, always, constant, after_both, where_so, or_code, and_code, less_code, less_or_equal_code, greater_code, sum_code, negative_code, contains_code, zero_code}
use Rattle.sc_constructs.specs.Objects.{read_code}

-- `a + b` errs just where the sum leaves 64 bits
sum_row : (a b : Tree) → sum_code (always a) (always b) ≡ code (not_term (two binary.AddOverflows a b)) (two binary.Add a b)
unfolding and_term
sum_row a b = refl

-- `-a` is `0 - a`
negative_row : (a : Tree) → negative_code (always a) ≡ code (not_term (two binary.SubtractOverflows zero_code.val a)) (two binary.Subtract zero_code.val a)
unfolding and_term
negative_row a = refl

-- `a > b` is `b < a`, but for what errs first
greater_row : (a b : Code) → greater_code a b ≡ code (and_term a.ok b.ok) (less_code b a).val
greater_row a b = refl

-- `a <= b`
less_or_equal_row : (a b : Tree) → less_or_equal_code (always a) (always b) ≡ always (not_term (two binary.Less b a))
unfolding and_term
less_or_equal_row a b = refl

-- `true && b` and `false || b` are `b`
and_row : (b : Code) → and_code (constant true) b ≡ b
unfolding and_term or_term not_term
and_row b = refl

or_row : (b : Code) → or_code (constant false) b ≡ b
unfolding and_term or_term
or_row b = refl

-- `false && b` is false, whatever b does
and_false_row : (b : Code) → and_code (constant false) b ≡ constant false
unfolding and_term or_term not_term
and_false_row b = refl

-- `s.contains(x)`
contains_row : (s x : Tree) → contains_code (always s) (always x) ≡ always (two binary.Member x s)
unfolding and_term
contains_row s x = refl

-- an attribute that may be absent is read only where it is there
read_row : (a f : Tree) → read_code (Some Optional) (always a) f ≡ code (present_term f) (held_term f)
unfolding and_term
read_row a f = refl

-- `all` of three joins the first with the other two
three_row : (a b c : Tree) → all_of (a ∷ b ∷ c ∷ []) ≡ and_term a (and_term b c)
unfolding joined
three_row a b c = refl

-- which is what `where_so` says
where_so_row : (a b : Code) (so t : Tree) → where_so a b so t ≡ code (all_of (a.ok ∷ b.ok ∷ so ∷ [])) t
unfolding joined
where_so_row a b so t = refl

two_row : (a b : Code) (t : Tree) → after_both a b t ≡ code (all_of (a.ok ∷ b.ok ∷ [])) t
unfolding joined
two_row a b t = refl
