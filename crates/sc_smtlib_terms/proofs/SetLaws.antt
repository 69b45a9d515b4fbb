-- A set of members, from its first to its last.
use Rattle.std.proofs.Common.{◌≡◌, ℕ, List, [], ◌∷◌, ◌++◌, refl, sym, ap, ◌∙◌}
use Rattle.std.specs.List.{flat_map}
use Rattle.std.proofs.lemmas.List.{append-nil, append_assoc}
use Rattle.sc_smtlib_forms.specs.Forms.{filled, plain, with_one, with_two}
use Rattle.sc_smtlib_forms.specs.declared.form.Form.TheVariants as form
use Rattle.sc_smtlib_terms.specs.Sets.{set_text, begun, ended, around}

-- a union is what stands up to its second set, that set, and what stands behind it
one_more : (a r : List ℕ) → with_two form.Union a r ≡ begun a ++ (r ++ plain form.UnionEnd)
unfolding filled
one_more a r = simp append_assoc

end_first : (others : List (List ℕ)) → flat_map ended others ++ plain form.UnionEnd ≡ plain form.UnionEnd ++ flat_map ended others
unfolding filled
end_first [] = refl
end_first (a ∷ others) = ap (λ t. 41 ∷ t) (end_first others)

outer : (a : List ℕ) (others : List (List ℕ)) (last : List ℕ) → begun a ++ (around others last ++ plain form.UnionEnd) ≡ around (a ∷ others) last
outer a others last =
    ap (λ t. begun a ++ t) (append_assoc (flat_map begun others) (with_one form.Singleton last ++ flat_map ended others) (plain form.UnionEnd)
    ∙ ap (λ t. flat_map begun others ++ t) (append_assoc (with_one form.Singleton last) (flat_map ended others) (plain form.UnionEnd)
    ∙ ap (λ t. with_one form.Singleton last ++ t) (end_first others)))
    ∙ sym (append_assoc (begun a) (flat_map begun others) (with_one form.Singleton last ++ (plain form.UnionEnd ++ flat_map ended others)))

whole : (k : List ℕ) (others : List (List ℕ)) (last : List ℕ) → set_text k (others ++ last ∷ []) ≡ around others last
whole k [] last = sym (append-nil (with_one form.Singleton last))
whole k (a ∷ []) last = one_more a (set_text k (last ∷ [])) ∙ ap (λ t. begun a ++ (t ++ plain form.UnionEnd)) (whole k [] last) ∙ outer a [] last
whole k (a ∷ b ∷ others) last =
    one_more a (set_text k (b ∷ (others ++ last ∷ [])))
    ∙ ap (λ t. begun a ++ (t ++ plain form.UnionEnd)) (whole k (b ∷ others) last)
    ∙ outer a (b ∷ others) last

pub union_of : (k : List ℕ) (members others : List (List ℕ)) (last : List ℕ) → members ≡ others ++ last ∷ []
    → around others last ≡ set_text k members
union_of k members others last e = sym (ap (set_text k) e ∙ whole k others last)
