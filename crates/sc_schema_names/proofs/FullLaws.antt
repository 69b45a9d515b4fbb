-- A full name is that of one namespace and one name, since no colon stands in an identifier.
use Rattle.std.proofs.Common.{◌≡◌, ◌≢◌, ◌∙◌, ℕ, List, [], ◌∷◌, ◌++◌, length, append_assoc, Bool, true, codes, refl, sym, ap, subst, arith}
use Rattle.std.specs.Prelude.{if◌then◌else◌}
use Rattle.std.specs.List.{AllByRecursion, list_all}
use Rattle.std.proofs.lemmas.Bool.{and_parts}
use Rattle.std.proofs.lemmas.Bool.Decides.{nat_tests}
use Rattle.std.proofs.lemmas.List.{append_cancel_left, same_from_push}
use Rattle.std.proofs.Math.Dec.{eqb-suc-zero}
use Rattle.sc_names.specs.Names.{begins_word, goes_on_word, is_word, is_ident}
use Rattle.sc_schema_names.specs.Names.{full}

-- ---- colons

-- no colon stands in a text
abbrev pub HasNoColon : List ℕ → Type 0
HasNoColon = AllByRecursion (λ (b : ℕ). b ≢ 58)

no_colon_on : (c : ℕ) → goes_on_word c ≡ true → c ≢ 58
no_colon_on c e = grind (arith, nat_tests)

no_colon_first : (c : ℕ) → begins_word c ≡ true → c ≢ 58
no_colon_first c e = grind (arith, nat_tests)

no_colon_rest : (cs : List ℕ) → list_all goes_on_word cs ≡ true → HasNoColon cs
no_colon_rest [] e = tt
no_colon_rest (c ∷ cs) e = let parts = and_parts (goes_on_word c) (list_all goes_on_word cs) e in (no_colon_on c parts.0, no_colon_rest cs parts.1)

no_colon_word : (w : List ℕ) → is_word w ≡ true → HasNoColon w
no_colon_word [] e = tt
no_colon_word (c ∷ cs) e = let parts = and_parts (begins_word c) (list_all goes_on_word cs) e in (no_colon_first c parts.0, no_colon_rest cs parts.1)

pub no_colon : (w : List ℕ) → is_ident w ≡ true → HasNoColon w
no_colon w e = no_colon_word w (and_parts (is_word w) _ e).0

colon_inside : (a x : List ℕ) → ¬ HasNoColon (a ++ 58 ∷ x)
colon_inside [] x h = h.0 refl
colon_inside (c ∷ a) x h = colon_inside a x h.1

-- the last colon of a text parts it in one way
parted : (a b x y : List ℕ) → HasNoColon x → HasNoColon y → a ++ 58 ∷ x ≡ b ++ 58 ∷ y → (a ≡ b) × (x ≡ y)
parted [] [] x y p q e = (refl, cc)
parted [] (d ∷ b) x y p q e = let is : x ≡ b ++ 58 ∷ y = cc in absurd (colon_inside b y (subst HasNoColon is p))
parted (c ∷ a) [] x y p q e = let is : y ≡ a ++ 58 ∷ x = cc in absurd (colon_inside a x (subst HasNoColon is q))
parted (c ∷ a) (d ∷ b) x y p q e =
    let same : c ≡ d = cc in
    let rest : a ++ 58 ∷ x ≡ b ++ 58 ∷ y = cc in
    let parts = parted a b x y p q rest in
    (λ i. same i ∷ parts.0 i, parts.1)

-- ---- full names

full_named : (c : ℕ) (n x : List ℕ) → full (c ∷ n) x ≡ ((c ∷ n) ++ 58 ∷ []) ++ 58 ∷ x
full_named c n x = ap (λ (b : Bool). if b then x else (c ∷ n) ++ (codes "::" ++ x)) (eqb-suc-zero (length n)) ∙ sym (append_assoc (c ∷ n) (58 ∷ []) (58 ∷ x))

pub full_parts : (n m x y : List ℕ) → HasNoColon x → HasNoColon y → full n x ≡ full m y → (n ≡ m) × (x ≡ y)
full_parts [] [] x y p q e = (refl, e)
full_parts [] (d ∷ m) x y p q e = absurd (colon_inside ((d ∷ m) ++ 58 ∷ []) y (subst HasNoColon (e ∙ full_named d m y) p))
full_parts (c ∷ n) [] x y p q e = absurd (colon_inside ((c ∷ n) ++ 58 ∷ []) x (subst HasNoColon (sym e ∙ full_named c n x) q))
full_parts (c ∷ n) (d ∷ m) x y p q e =
    let parts = parted ((c ∷ n) ++ 58 ∷ []) ((d ∷ m) ++ 58 ∷ []) x y p q (sym (full_named c n x) ∙ (e ∙ full_named d m y)) in
    ((same_from_push (c ∷ n) (d ∷ m) 58 58 parts.0).0, parts.1)

-- within one namespace the name is any text
pub full_same : (n x y : List ℕ) → full n x ≡ full n y → x ≡ y
full_same [] x y e = e
full_same (c ∷ n) x y e =
    let both : 58 ∷ x ≡ 58 ∷ y = append_cancel_left ((c ∷ n) ++ 58 ∷ []) (58 ∷ x) (58 ∷ y) (sym (full_named c n x) ∙ (e ∙ full_named c n y)) in
    cc
