-- Lines that are put one after the other.
use Rattle.std.proofs.Common.{◌≡◌, ℕ, List, [], ◌∷◌, ◌++◌, length, flat_map, arith, refl, sym, ap, ◌∙◌}
use Rattle.std.proofs.lemmas.Grind.{flat_map-append}
use Rattle.std.proofs.lemmas.List.{append-nil, append_assoc}
use Rattle.sc_smtlib_forms.specs.Forms.{plain}
use Rattle.sc_smtlib_forms.specs.declared.form.Form.TheVariants as form
use Rattle.sc_smtlib_lines.specs.Scripts.{header, with_newline}

abbrev text : List (List ℕ) → List ℕ
text ls = flat_map with_newline ls

-- more lines
more : (o p : List ℕ) (a b : List (List ℕ)) → p ≡ o ++ text a → p ++ text b ≡ o ++ text (a ++ b)
more o p a b e = ap (λ z. z ++ text b) e ∙ append_assoc o (text a) (text b) ∙ sym (ap (λ z. o ++ z) (flat_map-append with_newline a b))

-- over a list that is walked through
pub put_step : {A : Type 0} (F : List A → List (List ℕ)) (f : A → List (List ℕ)) (opens : (x : A) (xs : List A) → F (x ∷ xs) ≡ f x ++ F xs)
    (out new total : List ℕ) (rest later : List A) (x : A) → rest ≡ x ∷ later → out ++ text (F rest) ≡ total → new ≡ out ++ text (f x) → new ++ text (F later) ≡ total
put_step F f opens out new total rest later x e h g =
    more out new (f x) (F later) g ∙ sym (ap (λ z. out ++ text z) (ap F e ∙ opens x later)) ∙ h

pub put_over : {A : Type 0} (F : List A → List (List ℕ)) (out total : List ℕ) (rest : List A) → F [] ≡ [] → length rest ≡ 0 → out ++ text (F rest) ≡ total → out ≡ total
put_over F out total [] none e h = sym (append-nil out) ∙ sym (ap (λ z. out ++ text z) none) ∙ h
put_over F out total (x ∷ rest) none e h = absurd (omega (arith, e))

one_line : (o p l : List ℕ) → p ≡ o ++ with_newline l → p ≡ o ++ text (l ∷ [])
one_line o p l e = e ∙ sym (ap (λ z. o ++ z) (append-nil (with_newline l)))

pub header_put : (o a b new : List ℕ) → a ≡ o ++ with_newline (plain form.Logic) → b ≡ a ++ with_newline (plain form.LongSort) → new ≡ b ++ with_newline (plain form.DecimalSort)
    → new ≡ o ++ text header
header_put o a b new d e f =
    let first = one_line o a (plain form.Logic) d in
    let second = e ∙ ap (λ z. a ++ z) (sym (append-nil (with_newline (plain form.LongSort)))) ∙ more o a (plain form.Logic ∷ []) (plain form.LongSort ∷ []) first in
    f ∙ ap (λ z. b ++ z) (sym (append-nil (with_newline (plain form.DecimalSort))))
    ∙ more o b (plain form.Logic ∷ plain form.LongSort ∷ []) (plain form.DecimalSort ∷ []) second

pub two_put : (o p new l : List ℕ) (m : List ℕ) → p ≡ o ++ with_newline l → new ≡ p ++ with_newline m → new ≡ o ++ text (l ∷ m ∷ [])
two_put o p new l m e f = f ∙ ap (λ z. p ++ z) (sym (append-nil (with_newline m))) ∙ more o p (l ∷ []) (m ∷ []) (one_line o p l e)

pub four_put : (o p q r new : List ℕ) (a b c d : List (List ℕ)) → p ≡ o ++ text a → q ≡ p ++ text b → r ≡ q ++ text c → new ≡ r ++ text d
    → new ≡ o ++ text (a ++ (b ++ (c ++ d)))
four_put o p q r new a b c d e f g h =
    h ∙ more q r c d g ∙ more p q b (c ++ d) f ∙ more o p a (b ++ (c ++ d)) e

pub five_put : (o p q r s new : List ℕ) (a b c d l : List (List ℕ)) → p ≡ o ++ text a → q ≡ p ++ text b → r ≡ q ++ text c → s ≡ r ++ text d → new ≡ s ++ text l
    → new ≡ o ++ text (a ++ (b ++ (c ++ (d ++ l))))
five_put o p q r s new a b c d l e f g h k =
    k ∙ more r s d l h ∙ more q r c (d ++ l) g ∙ more p q b (c ++ (d ++ l)) f ∙ more o p a (b ++ (c ++ (d ++ l))) e

pub none_put : (o : List ℕ) (ls : List (List ℕ)) → ls ≡ [] → o ≡ o ++ text ls
none_put o ls e = sym (append-nil o) ∙ sym (ap (λ z. o ++ text z) e)

pub all_put : (o p new : List ℕ) (a b : List (List ℕ)) → o ≡ [] → p ≡ o ++ text a → new ≡ p ++ text b → new ≡ text (a ++ b)
all_put o p new a b e f g = g ∙ more o p a b f ∙ ap (λ z. z ++ text (a ++ b)) e
