-- A clause that a quiet trail falsifies but for one literal is new.
use Rattle.std.proofs.Common.{◌≡◌, ◌≢◌, inl, inr, ⊎_elim, List, Bool, true, false, refl, sym, ◌∙◌, subst, true≢false}
use Rattle.std.specs.List.{Contains}
use Rattle.std.proofs.lemmas.Bool.{false_from_ne_true}
use Rattle.sc_clauses.specs.Clauses.{negation, Clause, contained}
use Rattle.sc_clauses.specs.declared.lit.Lit.{Lit}
use Rattle.sc_propagation.specs.Propagation.{Follows, assumed, unit, IsNewBy, IsNew}
use Rattle.sc_propagation.specs.Trails.{IsSingle, IsQuiet, AreQuiet}
use Rattle.sc_propagation.proofs.LitLaws.{contained-has, has-or-not}
use Rattle.sc_propagation.proofs.WatchedLitLaws.{lit-cases}

clash : {P : Type 0} (T : Lit → Bool) (m : Lit) → T (negation m) ≡ true → T (negation m) ≡ false → P
clash T m e f = absurd (true≢false (sym e ∙ f))

pub ok-unit : (T : Lit → Bool) → IsSingle T → (c : List Lit) (x : Lit) → IsQuiet T c → ((m : Lit) → Contains c m → m ≢ x → T (negation m) ≡ true) → T x ≡ true
ok-unit T k c x (inl (y, cy, ty)) others =
    ⊎_elim (λ (e : y ≡ x). subst (λ (w : Lit). T w ≡ true) e ty) (λ (ne : y ≢ x). clash T y (others y cy ne) (k y ty)) (lit-cases y x)
ok-unit T k c x (inr (y, z, cy, cz, ne, fy, fz)) others =
    ⊎_elim (λ (e : y ≡ x). clash T z (others z cz (λ f. ne (e ∙ sym f))) fz) (λ (ney : y ≢ x). clash T y (others y cy ney) fy) (lit-cases y x)

pub ok-conflict : (T : Lit → Bool) → IsSingle T → (c : List Lit) → IsQuiet T c → ((m : Lit) → Contains c m → T (negation m) ≡ true) → ⊥
ok-conflict T k c (inl (y, cy, ty)) all = clash T y (all y cy) (k y ty)
ok-conflict T k c (inr (y, z, cy, cz, ne, fy, fz)) all = clash T y (all y cy) fy

module _ (T : Lit → Bool) (consistent : IsSingle T) (cs : List Clause) (quiet : AreQuiet T cs) (C : List Lit) (l : Lit)
    (others : (m : Lit) → Contains C m → m ≢ l → T (negation m) ≡ true) where
  pub gives-in : {x : Lit} → Follows cs C l x → T x ≡ true
  gives-in (assumed m x cm ne e) = subst (λ (w : Lit). T w ≡ true) (sym e) (others m cm ne)
  gives-in (unit c x ic ix f) = ok-unit T consistent c x (quiet c ic) (λ m cm ne. gives-in (f m cm ne))

  pub new-by : Contains C l → T l ≡ false → IsNewBy cs C l
  new-by cl fl = (cl, (λ g. true≢false (sym (gives-in g) ∙ fl)), λ (c, ic, all). ok-conflict T consistent c (quiet c ic) (λ m cm. gives-in (all m cm)))

-- a new clause contains no clause before it
pub uncovered : (cs : List Clause) (C : Clause) → IsNew cs C → (c : Clause) → Contains cs c → contained c C ≡ false
uncovered cs C (l, (has, not_given, no_conflict)) c ic =
    false_from_ne_true _ (λ e.
    let sub = contained-has c C e in
    ⊎_elim
    (λ (cl : Contains c l). not_given (unit c l ic cl (λ m cm ne. assumed m (negation m) (sub m cm) ne refl)))
    (λ (none : (m : Lit) → Contains c m → m ≢ l). no_conflict (c, ic, λ m cm. assumed m (negation m) (sub m cm) (none m cm) refl))
    (has-or-not c l))
