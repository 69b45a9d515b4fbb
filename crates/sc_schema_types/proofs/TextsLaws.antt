-- Names by their bytes: one that a look-up finds is the one that is looked for.
use Rattle.std.proofs.Common.{◌≡◌, ◌⊎◌, ℕ, List, [], ◌∷◌, Bool, true, false, Contains, refl, sym, ◌∙◌, inl, inr, subst}
use Rattle.std.specs.BTreeMap.{is_at}
use Rattle.std.specs.Str.{bytes_eq}
use Rattle.std.proofs.lemmas.Map.Text.{is_eq-slice_cmp}
use Rattle.std.proofs.lemmas.Slice.Eq.{bytes_eq-Decides}
use Rattle.sc_lists.proofs.ListLaws.{contains_nothing, contains_split, contains_rest, contains_first}
use Rattle.sc_lists.proofs.TextLaws.{bytes_eq_swap, bytes_eq_true}
use Rattle.sc_names.specs.Uids.{text_cmp}

-- a look-up of one name tests another one by its bytes
pub is_at-bytes : (a b : List ℕ) → is_at (text_cmp a) b ≡ bytes_eq b a
is_at-bytes a b = is_eq-slice_cmp a b ∙ bytes_eq_swap a b

pub bytes_same : (a b : List ℕ) → a ≡ b → bytes_eq a b ≡ true
bytes_same a b = (bytes_eq-Decides a b).1

pub at_same : (a b : List ℕ) → is_at (text_cmp a) b ≡ true → a ≡ b
at_same a b h = sym (bytes_eq_true b a (sym (is_at-bytes a b) ∙ h))

pub same_at : (a b : List ℕ) → a ≡ b → is_at (text_cmp a) b ≡ true
same_at a b h = is_at-bytes a b ∙ bytes_same b a (sym h)

pub not_first : (y : List ℕ) (names : List (List ℕ)) (x : List ℕ) → bytes_eq y x ≡ false → (Contains names x → ⊥) → (y ≡ x) ⊎ Contains names x → ⊥
not_first y names x other none (inl is) = absurd (let no : true ≡ false = sym (bytes_same y x is) ∙ other in cc)
not_first y names x other none (inr has) = none has

-- a name is among names or it isn't
pub has_or_not : (names : List (List ℕ)) (x : List ℕ) → Contains names x ⊎ (Contains names x → ⊥)
has_or_not [] x = inr (contains_nothing x)
has_or_not (y ∷ names) x = here (bytes_eq y x) refl (has_or_not names x) where
  here : (b : Bool) → bytes_eq y x ≡ b → Contains names x ⊎ (Contains names x → ⊥) → Contains (y ∷ names) x ⊎ (Contains (y ∷ names) x → ⊥)
  here true same rest = inl (subst (Contains (y ∷ names)) (bytes_eq_true y x same) (contains_first y names))
  here false other (inl has) = inl (contains_rest y names x has)
  here false other (inr none) = inr (λ has. not_first y names x other none (contains_split y names x has))
