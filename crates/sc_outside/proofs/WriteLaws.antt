-- What a piece adds to what was written.
use Rattle.std.proofs.Common.{◌≡◌, ◌≤◌, ◌∙◌, ◌++◌, ◌∷◌, ℕ, List, [], length, take, refl, ap}
use Rattle.sc_outside.specs.Writes.{Written, all_appended, all_told, appended, text_told}

-- pieces after pieces are all pieces
pub all-appended-twice : (w : Written) (xs ys : List (List ℕ)) → all_appended (all_appended w xs) ys ≡ all_appended w (xs ++ ys)
all-appended-twice w [] ys = refl
all-appended-twice w (x ∷ xs) ys = all-appended-twice (appended w x) xs ys

-- a piece after pieces
pub appended-after : (w : Written) (xs : List (List ℕ)) (x : List ℕ) → appended (all_appended w xs) x ≡ all_appended w (xs ++ x ∷ [])
appended-after w xs x = all-appended-twice w xs (x ∷ [])

-- a piece is added to a text, and its length to the lengths of the pieces
pub told_more : (old new piece lengths now : List ℕ) → new ≡ old ++ piece → now ≡ lengths ++ length piece ∷ [] → all_told new now ≡ appended (all_told old lengths) piece
unfolding appended
told_more old new piece lengths now e f = ap (λ (t : List ℕ). all_told t now) e ∙ ap (all_told (old ++ piece)) f

-- a front of a piece is
pub told_front : (old new piece front lengths now : List ℕ) (n : ℕ) → front ≡ take n piece → n ≤ length piece → new ≡ old ++ front → now ≡ lengths ++ length front ∷ []
    → (m : ℕ) × (m ≤ length piece) × (all_told new now ≡ appended (all_told old lengths) (take m piece))
told_front old new piece front lengths now n is within e f = (n, within, told_more old new front lengths now e f ∙ ap (appended (all_told old lengths)) is)

pub told_same : (old new lengths now : List ℕ) → new ≡ old → now ≡ lengths → all_told new now ≡ all_told old lengths
told_same old new lengths now e f = ap (λ (t : List ℕ). all_told t now) e ∙ ap (all_told old) f

-- the same where no lengths are told
pub text_more : (old new piece : List ℕ) → new ≡ old ++ piece → text_told new ≡ appended (text_told old) piece
unfolding appended
text_more old new piece e = ap text_told e

pub text_same : (old new : List ℕ) → new ≡ old → text_told new ≡ text_told old
text_same old new e = ap text_told e
