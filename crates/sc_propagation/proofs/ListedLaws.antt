-- What changes with one literal's list.
use Rattle.std.proofs.Common.{◌≡◌, ◌≢◌, ◌⊎◌, inl, inr, ⊎_elim, ℕ, zero, suc, ◌<◌, ◌≤◌, List, [], ◌∷◌, Bool, true, false, not, length, get_or, refl, sym, ap, ◌∙◌, subst, arith, get_or-set_same, get_or-set_other, replicate, Result, Ok, Err, IfOk, Vec, Global, Option, Some, None, slice_get}
use Rattle.std.proofs.Math.ListN.{set, length-set}
use Rattle.std.proofs.lemmas.List.{length-replicate}
use Rattle.sc_laws.proofs.OptionLaws.{same_some}
use Rattle.sc_clauses.specs.declared.lit.Lit.{Lit}
use Rattle.sc_propagation.proofs.WatchedLitLaws.{lit-of, sign-cases}
use Rattle.sc_propagation.specs.Lists.{AreEmpty, IsListSet, lists_of, places_of}
use Rattle.sc_propagation.specs.Watches.{IsPlaceAt}
use Rattle.sc_propagation.specs.declared.lists.Lists.{Lists}
use Rattle.sc_lists.proofs.ListLaws.{all_the_same}

module _ (o new : Lists) (lit : Lit) (ps : List ℕ) (within : lit.atom < length (lists_of o lit.negated))
    (same_sign : lists_of new lit.negated ≡ set (lists_of o lit.negated) lit.atom ps) (other_sign : lists_of new (not lit.negated) ≡ lists_of o (not lit.negated)) where
  set-here : places_of new lit ≡ ps
  set-here = ap (λ (ls : List (List ℕ)). get_or ls lit.atom []) same_sign ∙ get_or-set_same (lists_of o lit.negated) lit.atom ps [] within

  set-elsewhere : (l : Lit) → l ≢ lit → places_of new l ≡ places_of o l
  set-elsewhere l ne =
      ⊎_elim
      (λ (s : l.negated ≡ lit.negated).
      let apart : l.atom ≢ lit.atom = λ a. ne (lit-of _ _ _ _ s a) in
      subst (λ (b : Bool). get_or (lists_of new b) l.atom [] ≡ get_or (lists_of o b) l.atom []) (sym s)
      (ap (λ (ls : List (List ℕ)). get_or ls l.atom []) same_sign ∙ get_or-set_other (lists_of o lit.negated) lit.atom l.atom ps [] apart))
      (λ (s : l.negated ≡ not lit.negated).
      subst (λ (b : Bool). get_or (lists_of new b) l.atom [] ≡ get_or (lists_of o b) l.atom []) (sym s) (ap (λ (ls : List (List ℕ)). get_or ls l.atom []) other_sign))
      (sign-cases l.negated lit.negated)

  set-size : (b : Bool) → (b ≡ lit.negated) ⊎ (b ≡ not lit.negated) → length (lists_of new b) ≡ length (lists_of o b)
  set-size b (inl s) =
      subst (λ (t : Bool). length (lists_of new t) ≡ length (lists_of o t)) (sym s)
      (ap length same_sign ∙ length-set (lists_of o lit.negated) lit.atom ps)
  set-size b (inr s) = subst (λ (t : Bool). length (lists_of new t) ≡ length (lists_of o t)) (sym s) (ap length other_sign)

  list-set : IsListSet lit ps o new
  list-set = record { sizes = λ b. set-size b (sign-cases b lit.negated); here = set-here; elsewhere = set-elsewhere }

list-set-by : (b : Bool) (o new : Lists) (lit : Lit) (F : List ℕ → List ℕ) → lit.negated ≡ b → lit.atom < length (lists_of o b) → lists_of new b ≡ set (lists_of o b) lit.atom (F (get_or (lists_of o b) lit.atom []))
    → lists_of new (not b) ≡ lists_of o (not b) → IsListSet lit (F (places_of o lit)) o new
list-set-by b o new lit F e within same other =
    list-set o new lit (F (places_of o lit)) (subst (λ (s : Bool). lit.atom < length (lists_of o s)) (sym e) within)
    (subst (λ (s : Bool). lists_of new s ≡ set (lists_of o s) lit.atom (F (get_or (lists_of o s) lit.atom []))) (sym e) same)
    (subst (λ (s : Bool). lists_of new (not s) ≡ lists_of o (not s)) (sym e) other)

pub set-atom : (o : Lists) (lit : Lit) (F : List ℕ → List ℕ) (ls : Vec (List ℕ) Global) → lit.negated ≡ false → lit.atom < length o.atoms.items → ls.items ≡ set o.atoms.items lit.atom (F (get_or o.atoms.items lit.atom []))
    → IsListSet lit (F (places_of o lit)) o (record { atoms = ls; negations = o.negations })
set-atom o lit F ls e within is = list-set-by false o (record { atoms = ls; negations = o.negations }) lit F e within is refl

pub set-negation : (o : Lists) (lit : Lit) (F : List ℕ → List ℕ) (ls : Vec (List ℕ) Global) → lit.negated ≡ true → lit.atom < length o.negations.items → ls.items ≡ set o.negations.items lit.atom (F (get_or o.negations.items lit.atom []))
    → IsListSet lit (F (places_of o lit)) o (record { atoms = o.atoms; negations = ls })
set-negation o lit F ls e within is = list-set-by true o (record { atoms = o.atoms; negations = ls }) lit F e within is refl

pub set-atom-ok : {E : Type 0} (r : Result Unit E) (o : Lists) (lit : Lit) (F : List ℕ → List ℕ) (ls : Vec (List ℕ) Global) → lit.negated ≡ false → lit.atom < length o.atoms.items
    → IfOk r (λ _. ls.items ≡ set o.atoms.items lit.atom (F (get_or o.atoms.items lit.atom []))) → IfOk r (λ _. IsListSet lit (F (places_of o lit)) o (record { atoms = ls; negations = o.negations }))
set-atom-ok (Ok x) o lit F ls e within is = set-atom o lit F ls e within is
set-atom-ok (Err x) o lit F ls e within is = is

pub set-negation-ok : {E : Type 0} (r : Result Unit E) (o : Lists) (lit : Lit) (F : List ℕ → List ℕ) (ls : Vec (List ℕ) Global) → lit.negated ≡ true → lit.atom < length o.negations.items
    → IfOk r (λ _. ls.items ≡ set o.negations.items lit.atom (F (get_or o.negations.items lit.atom []))) → IfOk r (λ _. IsListSet lit (F (places_of o lit)) o (record { atoms = o.atoms; negations = ls }))
set-negation-ok (Ok x) o lit F ls e within is = set-negation o lit F ls e within is
set-negation-ok (Err x) o lit F ls e within is = is

empty-by : (n : ℕ) (o : Lists) → o.atoms.items ≡ replicate n [] → o.negations.items ≡ replicate n [] → (b : Bool) → lists_of o b ≡ replicate n []
empty-by n o e f false = e
empty-by n o e f true = f

pub lists-empty : (n : ℕ) (o : Lists) → o.atoms.items ≡ replicate n [] → o.negations.items ≡ replicate n [] → AreEmpty n o
lists-empty n o e f = record {
  sized = λ b. ap length (empty-by n o e f b) ∙ length-replicate n [];
  empty = λ l. ap (λ (ls : List (List ℕ)). get_or ls l.atom []) (empty-by n o e f l.negated) ∙ all_the_same n l.atom [];
}

-- the element at a place
pub place-at : (ps : List ℕ) (at : ℕ) (r : Option ℕ) → r ≡ slice_get ps at → IsPlaceAt ps at r
place-at [] at None e = omega arith
place-at [] at (Some i) e = absurd cc
place-at (x ∷ ps) zero None e = absurd cc
place-at (x ∷ ps) zero (Some i) e = (omega arith, sym (same_some e))
place-at (x ∷ ps) (suc k) None e = let h : length ps ≤ k = place-at ps k None e in omega arith
place-at (x ∷ ps) (suc k) (Some i) e = let h = place-at ps k (Some i) e in let lt : k < length ps = h.0 in (omega arith, h.1)
