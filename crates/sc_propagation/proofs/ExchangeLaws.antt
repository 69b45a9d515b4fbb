-- A literal is put at a place, and what stood there at the end.
use Rattle.std.proofs.Common.{◌≡◌, ⊎_elim, zero, suc, ℕ, ◌<◌, List, [], ◌∷◌, ◌++◌, length, get_or, sym, subst, ◌∙◌, arith}
use Rattle.std.specs.List.{Contains}
use Rattle.std.proofs.Math.ListN.{set}
use Rattle.std.proofs.lemmas.List.Elements.{Contains-append_left, Contains-push, Contains-push_cases}
use Rattle.sc_clauses.specs.declared.lit.Lit.{Lit}
use Rattle.sc_lists.proofs.ListLaws.{contains_first}
use Rattle.sc_propagation.proofs.LitLaws.{tail-has, cons-cases}
use Rattle.sc_propagation.specs.Analyses.{HaveSame}

exchanged-there : (xs : List Lit) (place : ℕ) (other lit : Lit) → place < length xs → get_or xs place other ≡ other → (m : Lit) → Contains (set (xs ++ other ∷ []) place lit) m → Contains (xs ++ lit ∷ []) m
exchanged-there [] place other lit lt at m has = absurd (omega arith)
exchanged-there (x ∷ xs) zero other lit lt at m has =
    ⊎_elim
    (λ (e : lit ≡ m). subst (λ (w : Lit). Contains ((x ∷ xs) ++ lit ∷ []) w) e (Contains-push (x ∷ xs) lit))
    (λ (old : Contains (xs ++ other ∷ []) m).
    ⊎_elim
    (λ (in_xs : Contains xs m). Contains-append_left (x ∷ xs) (lit ∷ []) m (tail-has x m xs in_xs))
    (λ (e : other ≡ m). subst (λ (w : Lit). Contains ((x ∷ xs) ++ lit ∷ []) w) (at ∙ e) (contains_first x (xs ++ lit ∷ [])))
    (Contains-push_cases xs other m old))
    (cons-cases lit m (xs ++ other ∷ []) has)
exchanged-there (x ∷ xs) (suc place) other lit lt at m has =
    ⊎_elim
    (λ (e : x ≡ m). subst (λ (w : Lit). Contains ((x ∷ xs) ++ lit ∷ []) w) e (contains_first x (xs ++ lit ∷ [])))
    (λ (old : Contains (set (xs ++ other ∷ []) place lit) m). tail-has x m (xs ++ lit ∷ []) (exchanged-there xs place other lit (omega arith) at m old))
    (cons-cases x m (set (xs ++ other ∷ []) place lit) has)

exchanged-back : (xs : List Lit) (place : ℕ) (other lit : Lit) → place < length xs → get_or xs place other ≡ other → (m : Lit) → Contains (xs ++ lit ∷ []) m → Contains (set (xs ++ other ∷ []) place lit) m
exchanged-back [] place other lit lt at m has = absurd (omega arith)
exchanged-back (x ∷ xs) zero other lit lt at m has =
    ⊎_elim
    (λ (in_xs : Contains (x ∷ xs) m).
    ⊎_elim
    (λ (e : x ≡ m). subst (λ (w : Lit). Contains (lit ∷ xs ++ other ∷ []) w) (sym at ∙ e) (tail-has lit other (xs ++ other ∷ []) (Contains-push xs other)))
    (λ (old : Contains xs m). tail-has lit m (xs ++ other ∷ []) (Contains-append_left xs (other ∷ []) m old))
    (cons-cases x m xs in_xs))
    (λ (e : lit ≡ m). subst (λ (w : Lit). Contains (lit ∷ xs ++ other ∷ []) w) e (contains_first lit (xs ++ other ∷ [])))
    (Contains-push_cases (x ∷ xs) lit m has)
exchanged-back (x ∷ xs) (suc place) other lit lt at m has =
    ⊎_elim
    (λ (e : x ≡ m). subst (λ (w : Lit). Contains (x ∷ set (xs ++ other ∷ []) place lit) w) e (contains_first x (set (xs ++ other ∷ []) place lit)))
    (λ (old : Contains (xs ++ lit ∷ []) m). tail-has x m (set (xs ++ other ∷ []) place lit) (exchanged-back xs place other lit (omega arith) at m old))
    (cons-cases x m (xs ++ lit ∷ []) has)

pub exchanged : (xs : List Lit) (place : ℕ) (other lit : Lit) → place < length xs → get_or xs place other ≡ other → HaveSame (set (xs ++ other ∷ []) place lit) (xs ++ lit ∷ [])
exchanged xs place other lit lt at = record { there = exchanged-there xs place other lit lt at; back = exchanged-back xs place other lit lt at }

pub same-list : (xs ys : List Lit) → xs ≡ ys → HaveSame xs ys
same-list xs ys e = record { there = λ m has. subst (λ (zs : List Lit). Contains zs m) e has; back = λ m has. subst (λ (zs : List Lit). Contains zs m) (sym e) has }
