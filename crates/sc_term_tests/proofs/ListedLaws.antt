-- Clauses that pass the test are of the atoms that a problem has.
use Rattle.std.proofs.Common.{◌≡◌, arith, ℕ, List, Bool, true, Contains, IsTrue}
use Rattle.std.specs.List.{list_all}
use Rattle.std.proofs.lemmas.List.Elements.{All-contains}
use Rattle.std.proofs.lemmas.List.Sums.{AllPass-from_list_all}
use Rattle.sc_clauses.specs.declared.lit.Lit.{Lit}
use Rattle.sc_clauses.specs.Clauses.{Clause}
use Rattle.sc_propagation.specs.Steps.{AreListed, IsListed}
use Rattle.sc_term_tests.specs.Listed.{is_listed, all_listed}

passed : {X : Type 0} (test : X → Bool) (xs : List X) (x : X) → list_all test xs ≡ true → Contains xs x → test x ≡ true
passed test xs x all has = All-contains (λ y. test y ≡ true) xs x (AllPass-from_list_all test xs all) has

lit_listed : (atoms : ℕ) (l : Lit) → is_listed atoms l ≡ true → IsListed atoms l
lit_listed atoms l h = grind (arith, h)

pub listed_from : (atoms : ℕ) (clauses : List Clause) → IsTrue (all_listed atoms clauses) → (c : Clause) → Contains clauses c → AreListed atoms c
listed_from atoms clauses all c has l lit = lit_listed atoms l (passed (is_listed atoms) c l (passed (λ (d : Clause). list_all (is_listed atoms) d) clauses c all has) lit)
