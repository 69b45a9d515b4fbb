-- Equality of literals is decided.
use Rattle.std.proofs.Common.{◌≡◌, ◌≢◌, ◌⊎◌, inl, inr, ⊎_elim, ℕ, Bool, true, false, not, refl, ap}
use Rattle.std.proofs.lemmas.Bool.{cases_eq}
use Rattle.sc_clauses.specs.declared.lit.Lit.{Lit}

pub lit-of : (n m : Bool) (a b : ℕ) → n ≡ m → a ≡ b → let x : Lit = record { atom = a; negated = n } in let y : Lit = record { atom = b; negated = m } in x ≡ y
lit-of n m a b e f = cc

same-or-not : (a b : Bool) → (a ≡ b) ⊎ (a ≢ b)
same-or-not true true = inl refl
same-or-not true false = inr (λ e. cc)
same-or-not false true = inr (λ e. cc)
same-or-not false false = inl refl

pub lit-cases : (a b : Lit) → (a ≡ b) ⊎ (a ≢ b)
lit-cases a b =
    ⊎_elim
    (λ (e : a.negated ≡ b.negated). ⊎_elim (λ (f : a.atom ≡ b.atom). inl (lit-of _ _ _ _ e f)) (λ (f : a.atom ≢ b.atom). inr (λ g. f (ap (λ (x : Lit). x.atom) g))) (cases_eq a.atom b.atom))
    (λ (e : a.negated ≢ b.negated). inr (λ g. e (ap (λ (x : Lit). x.negated) g)))
    (same-or-not a.negated b.negated)

pub sign-cases : (n s : Bool) → (n ≡ s) ⊎ (n ≡ not s)
sign-cases true true = inl refl
sign-cases true false = inr refl
sign-cases false true = inr refl
sign-cases false false = inl refl
