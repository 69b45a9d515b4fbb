-- Clauses whose literals are of listed atoms.
use Rattle.std.proofs.Common.{◌≡◌, ◌++◌, ◌&&◌, ℕ, List, [], ◌∷◌, length, Bool, true, false, not, cond, Ok, Err, refl, subst, ◌∙◌}
use Rattle.std.specs.List.{Contains, list_all}
use Rattle.std.proofs.lemmas.Bool.{and_parts, and_from, lt-ltb, le-leb}
use Rattle.std.proofs.lemmas.List.Elements.{All-contains_itself, All-weaker, recursion_from_All}
use Rattle.std.proofs.lemmas.List.Folds.{list_all-append}
use Rattle.sc_lists.proofs.ListLaws.{list_all_true}
use Rattle.sc_world.specs.declared.world.World.{World}
use Rattle.sc_clauses.specs.declared.lit.Lit.{Lit}
use Rattle.sc_clauses.specs.declared.step.Learned.{Learned}
use Rattle.sc_clauses.specs.Clauses.{Clause, negation, is_in}
use Rattle.sc_footprint.specs.Problems.{Posed, atoms}
use Rattle.sc_footprint.specs.Definitions.{defining}
use Rattle.sc_footprint.specs.Theories.{IsListed, IsClauseOf}
use Rattle.sc_footprint.specs.Truths.{truths, IsTrueIn, Satisfies}
use Rattle.sc_refutations.specs.Refutations.{negated, refutes, is_listed, is_clause, are_listed}
use Rattle.sc_checker.specs.declared.checking.Reason.TheVariants.{NotRefuted}
use Rattle.sc_checker.specs.Verdicts.{of_learned}
use Rattle.sc_checker.proofs.Soundness.{AllHold}

-- ---- clauses of a problem

-- a test that each element passes
each_passes : {X : Type 0} (test : X → Bool) (xs : List X) → ((x : X) → Contains xs x → test x ≡ true) → list_all test xs ≡ true
each_passes test xs h = list_all_true test xs (recursion_from_All (λ x. test x ≡ true) xs (All-weaker (Contains xs) (λ x. test x ≡ true) h xs (All-contains_itself xs)))

lit_listed : (count : ℕ) (l : Lit) → IsListed count l → is_listed count l ≡ true
lit_listed count l h = and_from _ _ (lt-ltb 0 l.atom h.0) (le-leb l.atom count h.1)

-- a clause of a problem has literals of listed atoms
pub clause_listed : (p : Posed) (c : Clause) → IsClauseOf p c → list_all (is_listed (length (atoms p))) c ≡ true
clause_listed p c h = each_passes (is_listed (length (atoms p))) c (λ l is. lit_listed (length (atoms p)) l (h l is).0)

-- so have the defining ones
pub defining_listed : (p : Posed) → ((c : Clause) → Contains (defining p) c → IsClauseOf p c) → are_listed (length (atoms p)) (defining p) ≡ true
defining_listed p lawful = each_passes (list_all (is_listed (length (atoms p)))) (defining p) (λ c is. clause_listed p c (lawful c is))

pub all_hold : (p : Posed) (w : World) → ((c : Clause) → Contains (defining p) c → IsTrueIn p w c) → AllHold (truths p w) (defining p)
all_hold p w h = recursion_from_All (IsTrueIn p w) (defining p) (All-weaker (Contains (defining p)) (IsTrueIn p w) h (defining p) (All-contains_itself (defining p)))

-- what the goal's truth in a world gives of the defining clauses
abbrev pub AreDefined : Posed → Type 0
AreDefined p = (w : World) (c : Clause) → Satisfies p w → Contains (defining p) c → IsTrueIn p w c

-- ---- learned clauses

listed_part : (n : ℕ) (a c : Clause) → list_all (λ l. is_listed n l && not (is_in a (negation l))) c ≡ true → list_all (is_listed n) c ≡ true
listed_part n a [] e = refl
listed_part n a (l ∷ c) e =
    let parts = and_parts (is_listed n l && not (is_in a (negation l))) _ e in
    and_from (is_listed n l) (list_all (is_listed n) c) (and_parts (is_listed n l) _ parts.0).0 (listed_part n a c parts.1)

learned_listed_at : (n : ℕ) (d c : Clause) (a b : Bool) → is_clause n d ≡ a → cond (a && b) (Ok d) (Err NotRefuted) ≡ Ok c → list_all (is_listed n) c ≡ true
learned_listed_at n d c true true e is = let same : d ≡ c = cc in subst (λ (x : Clause). list_all (is_listed n) x ≡ true) same (listed_part n d d e)
learned_listed_at n d c true false e is = absurd cc
learned_listed_at n d c false b e is = absurd cc

-- a learned clause that is added has literals of listed atoms
pub learned_listed : (n : ℕ) (clauses : List Clause) (l : Learned) (c : Clause) → of_learned n clauses l ≡ Ok c → list_all (is_listed n) c ≡ true
learned_listed n clauses l c e = learned_listed_at n l.clause c _ (refutes clauses (negated l.clause) l.hints) refl e

-- with a clause more
pub listed_more : (n : ℕ) (clauses : List Clause) (c : Clause) → are_listed n clauses ≡ true → list_all (is_listed n) c ≡ true → are_listed n (clauses ++ c ∷ []) ≡ true
listed_more n clauses c e is = list_all-append (list_all (is_listed n)) clauses (c ∷ []) ∙ and_from _ _ e (and_from _ _ is refl)
