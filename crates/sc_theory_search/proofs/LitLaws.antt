-- Literals of clauses, and the test whether one is in a clause.
use Rattle.std.proofs.Common.{◌≡◌, true, sym, subst}
use Rattle.sc_clauses.specs.declared.lit.Lit.{Lit}
use Rattle.sc_clauses.specs.Clauses.{Clause, lit_eq, is_in}
use Rattle.sc_clauses.proofs.LitLaws.{lit_eq-true, lit_eq-itself}
use Rattle.sc_theory_search.proofs.ListLaws.{Has, any_of, of_any}

-- a literal is in a clause exactly where the test says so
pub is_in_of : (c : Clause) (l : Lit) → Has c l → is_in c l ≡ true
is_in_of c l h = of_any (lit_eq l) c l h (lit_eq-itself l)

pub of_is_in : (c : Clause) (l : Lit) → is_in c l ≡ true → Has c l
of_is_in c l e = let (m, h, f) = any_of (lit_eq l) c e in subst (λ x. Has c x) (sym (lit_eq-true l m f)) h
