-- The rules of sets.
use Rattle.std.specs.Prelude.{◌≡◌, ◌==◌, ◌&&◌, ℕ, zero, suc, List, [], ◌∷◌, map, length, Option, Some, None, slice_get, refl}
use Rattle.sc_sorts.specs.contracts.sort.SortPartialEq.TheImpl.{ghosts as sorts}
use Rattle.sc_sorts.specs.declared.sort.Sort.{Sort}
use Rattle.sc_sorts.specs.declared.node.ManyOp.TheVariants as manys
use Rattle.sc_terms.specs.Trees.{Tree, many, no_part, part}
use Rattle.sc_terms.specs.TreeSorts.{tree_sort}
use Rattle.sc_terms.specs.Folds.{equal_term}
use Rattle.sc_rule_laws.specs.Signed.{Said, so, unless, given}
use Rattle.sc_rule_laws.specs.Terms.{is_set, member, subset, common, missing, shared, members, written, above}

-- SE1: what equals a member is a member
abbrev pub se1 : Tree → Tree → Tree → Said
se1 x y s = Some (unless (equal_term x y) ∷ unless (member x s) ∷ so (member y s) ∷ [])

-- SE2: a member of a set term is one of those that stand there
abbrev pub se2 : Tree → Tree → Said
se2 x (many (manys.Set k) ts) =
    given (sorts.eq (tree_sort x) k)
    (unless (member x (many (manys.Set k) ts)) ∷ map (λ t. so (equal_term x t)) (members ts))
se2 x _ = None

-- SE3: each that stands there is a member
abbrev pub se3_of : Tree → Tree → Option Tree → Said
se3_of x s (Some t) = Some (unless (equal_term x t) ∷ so (member x s) ∷ [])
se3_of x s None = None

abbrev pub se3 : Tree → Tree → ℕ → Said
se3 x (many (manys.Set k) ts) i = se3_of x (many (manys.Set k) ts) (slice_get (members ts) i)
se3 x _ i = None

-- SE4: a member of a subset is a member
abbrev pub se4 : Tree → Tree → Tree → Said
se4 s t x = Some (unless (subset s t) ∷ unless (member x s) ∷ so (member x t) ∷ [])

-- SE5: of a set that is no subset some member is missing in the other
abbrev pub se5 : Tree → Tree → ℕ → Said
se5 s t zero = Some (so (subset s t) ∷ so (member (missing s t) s) ∷ [])
se5 s t (suc zero) = Some (so (subset s t) ∷ unless (member (missing s t) t) ∷ [])
se5 s t _ = None

-- SE6: sets with a member in common share one
abbrev pub se6 : Tree → Tree → ℕ → Said
se6 s t zero = Some (unless (common s t) ∷ so (member (shared s t) s) ∷ [])
se6 s t (suc zero) = Some (unless (common s t) ∷ so (member (shared s t) t) ∷ [])
se6 s t _ = None

-- SE7: sets that both have a member have one in common
abbrev pub se7 : Tree → Tree → Tree → Said
se7 s t x = Some (unless (member x s) ∷ unless (member x t) ∷ so (common s t) ∷ [])

-- SE8: sets are equal just where each is a subset of the other
abbrev pub se8 : Tree → Tree → ℕ → Said
se8 s t zero = Some (unless (equal_term s t) ∷ so (subset s t) ∷ [])
se8 s t (suc zero) = Some (unless (equal_term s t) ∷ so (subset t s) ∷ [])
se8 s t (suc (suc zero)) =
    given (is_set s && is_set t) (so (equal_term s t) ∷ unless (subset s t) ∷ unless (subset t s) ∷ [])
se8 s t _ = None

-- SE9: a set term is a subset just where each that stands there is a member: the one of each, and past the last the
-- other
abbrev pub se9_at : Tree → Tree → List Tree → ℕ → Option Tree → Said
se9_at s t us i (Some u) = Some (unless (subset s t) ∷ so (member u t) ∷ [])
se9_at s t us i None = given (i == length us) (so (subset s t) ∷ map (λ u. unless (member u t)) us)

abbrev pub se9_of : Option (List Tree) → Tree → Tree → ℕ → Said
se9_of (Some us) s t i = se9_at s t us i (slice_get us i)
se9_of None s t i = None

abbrev pub se9 : Tree → Tree → ℕ → Said
se9 s t i = se9_of (written s) s t i

-- SE10: a set term has a member in common just where one that stands there is a member
abbrev pub se10_at : Tree → List Tree → Tree → ℕ → Option Tree → Said
se10_at c us t i (Some u) = Some (so c ∷ unless (member u t) ∷ [])
se10_at c us t i None = given (i == length us) (unless c ∷ map (λ u. so (member u t)) us)

-- of two set terms the first tells
abbrev pub se10_of : Option (List Tree) → Option (List Tree) → Tree → Tree → ℕ → Said
se10_of (Some us) o s t i = se10_at (common s t) us t i (slice_get us i)
se10_of None (Some us) s t i = se10_at (common s t) us s i (slice_get us i)
se10_of None None s t i = None

abbrev pub se10 : Tree → Tree → ℕ → Said
se10 s t i = se10_of (written s) (written t) s t i

-- ---- worked rows

pub members_of_two : (a b : Tree) → members (part [] a (part [] b no_part)) ≡ a ∷ b ∷ []
members_of_two a b = refl

pub se3_second : (x a b : Tree) (k : Sort) → se3 x (many (manys.Set k) (part [] a (part [] b no_part))) 1
    ≡ Some (unless (equal_term x b) ∷ so (member x (many (manys.Set k) (part [] a (part [] b no_part)))) ∷ [])
se3_second x a b k = refl

pub se3_past : (x a : Tree) (k : Sort) → se3 x (many (manys.Set k) (part [] a no_part)) 1 ≡ None
se3_past x a k = refl

pub se5_outside : (s t : Tree) → se5 s t 1 ≡ Some (so (subset s t) ∷ unless (member (missing s t) t) ∷ [])
se5_outside s t = refl

pub se8_of_one : (s : Tree) → se8 s s 0 ≡ Some (unless (equal_term s s) ∷ so (subset s s) ∷ [])
se8_of_one s = refl

abbrev pub pair : Sort → Tree → Tree → Tree
pair k a b = many (manys.Set k) (part [] a (part [] b no_part))

pub se9_second : (a b t : Tree) (k : Sort)
    → se9 (pair k a b) t 1 ≡ Some (unless (subset (pair k a b) t) ∷ so (member b t) ∷ [])
se9_second a b t k = refl

pub se9_last : (a b t : Tree) (k : Sort)
    → se9 (pair k a b) t 2 ≡ Some (so (subset (pair k a b) t) ∷ unless (member a t) ∷ unless (member b t) ∷ [])
se9_last a b t k = refl

pub se9_past : (a b t : Tree) (k : Sort) → se9 (pair k a b) t 3 ≡ None
se9_past a b t k = refl

pub se10_last : (a b t : Tree) (k : Sort)
    → se10 (pair k a b) t 2 ≡ Some (unless (common (pair k a b) t) ∷ so (member a t) ∷ so (member b t) ∷ [])
se10_last a b t k = refl

pub se10_turned : (a b e : Tree) (k l : Sort)
    → se10 (above l e) (pair k a b) 0 ≡ Some (so (common (above l e) (pair k a b)) ∷ unless (member a (above l e)) ∷ [])
se10_turned a b e k l = refl
