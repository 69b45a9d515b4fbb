-- The uids that the sets of a query write.
use Rattle.std.proofs.Common.{◌≡◌, ◌↔◌, ◌⊎◌, inl, inr, List, [], Contains, subst, sym}
use Rattle.sc_lists.proofs.ListLaws.{contains_nothing}
use Rattle.sc_names.specs.declared.uid.Uid.{Uid}
use Rattle.sc_ast.specs.declared.policy.Policy.{Policy}
use Rattle.sc_ast.specs.Literals.{literals as uids_of}

-- these uids, in any order
abbrev pub Are : List Uid → List Uid → Type 0
Are lits uids = (u : Uid) → Contains lits u ↔ Contains uids u

-- those of either
abbrev pub AreOfEither : List Uid → List Uid → List Uid → Type 0
AreOfEither lits a b = (u : Uid) → Contains lits u ↔ (Contains a u ⊎ Contains b u)

pub one_set : (lits : List Uid) (read a b : List Policy) → read ≡ a → b ≡ [] → Are lits (uids_of read) → AreOfEither lits (uids_of a) (uids_of b)
one_set lits read a b e none h = subst (λ (ps : List Policy). AreOfEither lits (uids_of a) (uids_of ps)) (sym none) (subst (λ (ps : List Policy). AreOfEither lits (uids_of ps) []) e one)
  where
    one : AreOfEither lits (uids_of read) []
    one u = (λ has. inl ((h u).0 has), λ has. elim has [ inl first ↦ (h u).1 first | inr second ↦ absurd (contains_nothing u second) ])

pub two_sets : (lits x y : List Uid) (read a other b : List Policy) → read ≡ a → other ≡ b → Are x (uids_of read) → Are y (uids_of other) → AreOfEither lits x y → AreOfEither lits (uids_of a) (uids_of b)
two_sets lits x y read a other b e f h k whole = subst (λ (ps : List Policy). AreOfEither lits (uids_of a) (uids_of ps)) f (subst (λ (ps : List Policy). AreOfEither lits (uids_of ps) (uids_of other)) e both)
  where
    both : AreOfEither lits (uids_of read) (uids_of other)
    both u = (
      λ has. elim ((whole u).0 has) [ inl first ↦ inl ((h u).0 first) | inr second ↦ inr ((k u).0 second) ],
      λ has. (whole u).1 (elim has [ inl first ↦ inl ((h u).1 first) | inr second ↦ inr ((k u).1 second) ]),
    )
