-- Clauses by the numbers of their literals.
use Rattle.std.proofs.Common.{◌≡◌, ◌+◌, ◌<◌, ◌≤◌, ⊎_elim, ℕ, List, true, nat_lt, length, get_or, map, take, take_all, sym, ◌∙◌, subst}
use Rattle.std.specs.List.{All, Contains}
use Rattle.std.proofs.lemmas.Bool.{and_parts, ltb-true}
use Rattle.std.proofs.lemmas.List.{get_or-map, length-map, map_more}
use Rattle.std.proofs.lemmas.List.Elements.{Contains-push_cases}
use Rattle.sc_clauses.specs.declared.lit.Lit.{Lit}
use Rattle.sc_refutations.specs.Arenas.{lit_of}
use Rattle.sc_refutations.proofs.AssumedLaws.{lits_long}
use Rattle.sc_propagation.specs.Giving.{in_cells}
use Rattle.sc_propagation.specs.Trails.{AllInCells, InCells}

pub lit_here : (codes : List ℕ) (i : ℕ) (l : Lit) → i < length codes → l ≡ lit_of (get_or codes i 0) → l ≡ get_or (map lit_of codes) i l
lit_here codes i l h e = e ∙ sym (get_or-map lit_of codes i 0 l h)

-- the literal of a number is in the clause
pub has_lit : (codes : List ℕ) (i : ℕ) (l : Lit) → i < length codes → l ≡ lit_of (get_or codes i 0) → Contains (map lit_of codes) l
has_lit codes i l h e = (i, lits_long codes i h, sym (lit_here codes i l h e))

-- all literals are taken
pub lits_taken : (codes : List ℕ) (i : ℕ) → length codes ≤ i → take i (map lit_of codes) ≡ map lit_of codes
lits_taken codes i h = take_all i (map lit_of codes) (subst (λ (n : ℕ). n ≤ i) (sym (length-map codes lit_of)) h)

pub atom_within : (n : ℕ) (codes : List ℕ) (i : ℕ) (l : Lit) → i < length codes → l ≡ lit_of (get_or codes i 0) → All (λ m. m.atom < n) (map lit_of codes) → l.atom < n
atom_within n codes i l h e all = subst (λ (m : Lit). m.atom < n) (sym (lit_here codes i l h e)) (all i l (lits_long codes i h))

lit_in_cells : (n : ℕ) (l : Lit) → in_cells n l ≡ true → InCells n l
lit_in_cells n l e = let parts = and_parts (nat_lt 0 l.atom) (nat_lt l.atom n) e in (ltb-true 0 l.atom parts.0, ltb-true l.atom n parts.1)

-- one more literal has a cell
pub in_cells_more : (n : ℕ) (codes : List ℕ) (i : ℕ) → i < length codes → AllInCells n (map lit_of (take i codes)) → in_cells n (lit_of (get_or codes i 0)) ≡ true → AllInCells n (map lit_of (take (i + 1) codes))
in_cells_more n codes i h before e =
    let l : Lit = lit_of (get_or codes i 0) in
    subst (λ (c : List Lit). AllInCells n c) (sym (map_more lit_of codes i 0 h))
    (λ m has. ⊎_elim (λ (old : Contains (map lit_of (take i codes)) m). before m old) (λ (same : l ≡ m). subst (λ (w : Lit). InCells n w) same (lit_in_cells n l e)) (Contains-push_cases (map lit_of (take i codes)) l m has))
