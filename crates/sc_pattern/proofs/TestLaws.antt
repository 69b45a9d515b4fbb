-- The test passes exactly the texts that the pattern matches.
use Rattle.std.proofs.Common.{◌≡◌, ◌==◌, ◌↔◌, inl, inr, ℕ, List, [], ◌∷◌, ◌++◌, Bool, IsTrue, refl, sym, ap, ◌∙◌, subst, eqb-true, eq-eqb}
use Rattle.std.proofs.lemmas.Bool.{and_parts, and_from, or_cases, or_left, or_right}
use Rattle.sc_laws.proofs.BoolLaws.{same_truth}
use Rattle.sc_pattern.specs.declared.part.Part.{Part}
use Rattle.sc_pattern.specs.declared.part.Part.TheVariants.{Star, Char}
use Rattle.sc_pattern.specs.Language.{IsMatch, is_end, behind, somewhere, is_match}

-- a test passes exactly the texts of which something holds
abbrev Decides : (List ℕ → Bool) → (List ℕ → Type 0) → Type 0
Decides test P = (text : List ℕ) → IsTrue (test text) ↔ P text

end_decides : Decides is_end (λ text. text ≡ [])
end_decides [] = (λ t. refl, λ e. refl)
end_decides (c ∷ rest) = (λ t. cc, λ e. cc)

behind_decides : (c : ℕ) (test : List ℕ → Bool) (P : List ℕ → Type 0) → Decides test P → Decides (behind c test) (λ text. (rest : List ℕ) × (text ≡ c ∷ rest) × P rest)
behind_decides c test P h [] = (λ t. cc, λ e. let none : [] ≡ c ∷ e.0 = e.1 in cc)
behind_decides c test P h (d ∷ rest) = (
  λ t. let p = and_parts (d == c) (test rest) t in (rest, ap (λ x. x ∷ rest) (eqb-true d c p.0), (h rest).0 p.1),
  λ e.
      let first : d ≡ c = let is : d ∷ rest ≡ c ∷ e.0 = e.1 in cc in
      let then : e.0 ≡ rest = let is : d ∷ rest ≡ c ∷ e.0 = e.1 in cc in
      and_from (d == c) (test rest) (eq-eqb d c first) ((h rest).1 (subst P then e.2)),
)

nothing_left : (taken rest : List ℕ) → [] ≡ taken ++ rest → rest ≡ []
nothing_left [] rest e = sym e
nothing_left (c ∷ taken) rest e = cc

tried_later : (c : ℕ) (test : List ℕ → Bool) (P : List ℕ → Type 0) (rest : List ℕ) → Decides test P
    → (((taken left : List ℕ) × (rest ≡ taken ++ left) × P left) → IsTrue (somewhere test rest))
    → (taken left : List ℕ) → c ∷ rest ≡ taken ++ left → P left → IsTrue (somewhere test (c ∷ rest))
tried_later c test P rest h later [] left e p = or_left (test (c ∷ rest)) (somewhere test rest) ((h (c ∷ rest)).1 (subst P (sym e) p))
tried_later c test P rest h later (d ∷ taken) left e p = or_right (test (c ∷ rest)) (somewhere test rest) (later (taken, left, (cc), p))

somewhere_decides : (test : List ℕ → Bool) (P : List ℕ → Type 0) → Decides test P → Decides (somewhere test) (λ text. (taken rest : List ℕ) × (text ≡ taken ++ rest) × P rest)
somewhere_decides test P h [] = (λ t. ([], [], refl, (h []).0 t), λ e. (h []).1 (subst P (nothing_left e.0 e.1 e.2) e.3))
somewhere_decides test P h (c ∷ rest) = (
  λ t. elim (or_cases (test (c ∷ rest)) (somewhere test rest) t) [
    | inl now ↦ ([], c ∷ rest, refl, (h (c ∷ rest)).0 now)
    | inr then ↦ let m = (somewhere_decides test P h rest).0 then in (c ∷ m.0, m.1, ap (λ l. c ∷ l) m.2, m.3)
  ],
  λ e. tried_later c test P rest h (somewhere_decides test P h rest).1 e.0 e.1 e.2 e.3,
)

pub is_match_decides : (parts : List Part) (text : List ℕ) → IsTrue (is_match parts text) ↔ IsMatch parts text
unfolding is_match IsMatch
is_match_decides [] text = end_decides text
is_match_decides (Char c ∷ parts) text = behind_decides c (is_match parts) (IsMatch parts) (is_match_decides parts) text
is_match_decides (Star ∷ parts) text = somewhere_decides (is_match parts) (IsMatch parts) (is_match_decides parts) text

pub match_is : (r : Bool) (parts pattern : List Part) (text : List ℕ) → parts ≡ pattern → (IsTrue r ↔ IsMatch parts text) → r ≡ is_match pattern text
match_is r parts pattern text e h = same_truth r (is_match parts text) h (is_match_decides parts text) ∙ ap (λ p. is_match p text) e
