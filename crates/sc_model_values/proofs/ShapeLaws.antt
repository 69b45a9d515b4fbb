-- What the clauses of a definition tell, where all of them are true: what it defines is as the definition says.
use Rattle.std.proofs.Common.{◌≡◌, ◌||◌, ◌&&◌, ℕ, Bool, true, false, not, inl, inr, List, [], ◌∷◌, ◌++◌, map, length, IfSome, Option, Some, None, Contains, refl, sym, ap, ◌∙◌, subst}
use Rattle.std.proofs.lemmas.List.{length-map}
use Rattle.std.specs.List.{list_all}
use Rattle.sc_laws.proofs.BoolLaws.{or_first, or_second, true_or_false, not_not}
use Rattle.sc_lists.proofs.ListLaws.{any_contained}
use Rattle.sc_lists.proofs.MemberLaws.{Has-left, Has-right, Has-last, Has-map}
use Rattle.sc_lists.specs.Members.{Has}
use Rattle.sc_clauses.specs.declared.lit.Lit.{Lit}
use Rattle.sc_clauses.specs.Clauses.{Clause, lit_eq, negation, is_in, holds, clause_holds}
use Rattle.sc_clauses.proofs.LitLaws.{lit_eq-true, holds_negation}
use Rattle.sc_term_laws.proofs.MemberLaws.{any_found}
use Rattle.sc_term_definitions.specs.declared.function.Function.{Function}
use Rattle.sc_term_definitions.specs.declared.function.Shape.{Shape}
use Rattle.sc_term_definitions.specs.declared.function.Shape.TheVariants.{Table, All, NotAll, Fixed, Free}
use Rattle.sc_term_definitions.specs.Functions.{value_of, rows}
use Rattle.sc_term_definitions.specs.Truths.{defined}
use Rattle.sc_term_definitions.specs.Truths as truths
use Rattle.sc_rule_laws.proofs.MemberLaws.{filter_kept}
use Rattle.sc_footprint.specs.Definitions.{is_tautology, kept, differs, has_value, differ_all, row, table, conjunction, turned, clauses_by}
use Rattle.th_defs.specs.ClauseLaws.{IsAs}

module _ (v : ℕ → Bool) where
  abbrev pub AllTrue : List Clause → Type 0
  AllTrue cs = (c : Clause) → Has cs c → clause_holds v c ≡ true

  -- ---- clauses that are dropped

  tautology_true : (c : Clause) → is_tautology c ≡ true → clause_holds v c ≡ true
  tautology_true c h =
      let one_of = any_found (λ (l : Lit). is_in c (negation l)) c h in
      let other = any_found (lit_eq (negation one_of.0)) c one_of.2 in
      let opposite : Contains c (negation one_of.0) = subst (Contains c) (sym (lit_eq-true (negation one_of.0) other.0 other.2)) other.1 in
      by one_of.0 one_of.1 opposite (holds v one_of.0) refl
    where
      by : (l : Lit) → Contains c l → Contains c (negation l) → (b : Bool) → holds v l ≡ b → clause_holds v c ≡ true
      by l i j true e = any_contained (holds v) c l i e
      by l i j false e = any_contained (holds v) c (negation l) j (holds_negation v l ∙ ap not e)

  pub whole_true : (cs : List Clause) → AllTrue (kept cs) → AllTrue cs
  whole_true cs h c i = by (is_tautology c) refl
    where
      by : (b : Bool) → is_tautology c ≡ b → clause_holds v c ≡ true
      by true e = tautology_true c e
      by false e = h c (filter_kept (λ (d : Clause). not (is_tautology d)) cs c i (ap not e))

  -- ---- rows

  value_tells : (l : Lit) (b : Bool) → holds v (has_value l b) ≡ true → holds v l ≡ b
  value_tells l true h = h
  value_tells l false h = sym (not_not (holds v l)) ∙ ap not (sym (holds_negation v l) ∙ h)

  later_true : (a b : Bool) → (a || b) ≡ true → a ≡ false → b ≡ true
  later_true true b h e = absurd cc
  later_true false b h e = h

  last_true : (c : Clause) (l : Lit) → clause_holds v (c ++ l ∷ []) ≡ true → clause_holds v c ≡ false → holds v l ≡ true
  last_true [] l h e = true_or_false (holds v l) h
  last_true (k ∷ c) l h e =
      last_true c l (later_true (holds v k) (clause_holds v (c ++ l ∷ [])) h (or_first (holds v k) (clause_holds v c) e))
      (or_second (holds v k) (clause_holds v c) e)

  -- no input differs from its own value
  own_value : (l : Lit) (b : Bool) → holds v l ≡ b → holds v (differs l b) ≡ false
  own_value l true e = holds_negation v l ∙ ap not e
  own_value l false e = e

  none_differ : (ls : List Lit) → clause_holds v (differ_all ls (map (holds v) ls)) ≡ false
  none_differ [] = refl
  none_differ (l ∷ ls) =
      ap (λ (b : Bool). b || clause_holds v (differ_all ls (map (holds v) ls))) (own_value l (holds v l) refl)
      ∙ none_differ ls

  rows_have : (vs : List Bool) → Has (rows (length vs)) vs
  unfolding rows
  rows_have [] = inl refl
  rows_have (false ∷ vs) =
      Has-left (map (λ (us : List Bool). false ∷ us) (rows (length vs))) (map (λ (us : List Bool). true ∷ us) (rows (length vs))) (false ∷ vs)
      (Has-map (λ (us : List Bool). false ∷ us) (rows (length vs)) vs (rows_have vs))
  rows_have (true ∷ vs) =
      Has-right (map (λ (us : List Bool). false ∷ us) (rows (length vs))) (map (λ (us : List Bool). true ∷ us) (rows (length vs))) (true ∷ vs)
      (Has-map (λ (us : List Bool). true ∷ us) (rows (length vs)) vs (rows_have vs))

  table_tells : (f : Function) (x : Lit) (ls : List Lit) → AllTrue (table f x ls) → holds v x ≡ value_of f (map (holds v) ls)
  table_tells f x ls h =
      let own = map (holds v) ls in
      let there : Has (rows (length ls)) own = subst (λ (n : ℕ). Has (rows n) own) (length-map ls (holds v)) (rows_have own) in
      let told = h (row f x ls own) (Has-map (row f x ls) (rows (length ls)) own there) in
      value_tells x (value_of f own) (last_true (differ_all ls own) (has_value x (value_of f own)) told (none_differ ls))

  turned_truths : (t : Bool) (ls : List Lit) → map (holds v) (turned t ls) ≡ truths.turned t (map (holds v) ls)
  turned_truths true [] = refl
  turned_truths true (k ∷ []) = refl
  turned_truths true (k ∷ l ∷ ls) = ap (λ (b : Bool). holds v k ∷ b ∷ map (holds v) ls) (holds_negation v l)
  turned_truths false ls = refl

  -- ---- all of some

  abbrev are_true : List Lit → Bool
  are_true ls = list_all (λ u. u) (map (holds v) ls)

  each_true : (ls : List Lit) → ((l : Lit) → Has ls l → holds v l ≡ true) → are_true ls ≡ true
  each_true [] h = refl
  each_true (l ∷ ls) h =
      ap (λ (b : Bool). b && are_true ls) (h l (inl refl)) ∙ each_true ls (λ k i. h k (inr i))

  some_false : (ls : List Lit) → clause_holds v (map negation ls) ≡ true → are_true ls ≡ false
  some_false [] h = absurd cc
  some_false (l ∷ ls) h = by (holds v l) refl (some_false ls)
    where
      by : (b : Bool) → holds v l ≡ b → (clause_holds v (map negation ls) ≡ true → are_true ls ≡ false) → (b && are_true ls) ≡ false
      by true e rest = rest (later_true (holds v (negation l)) (clause_holds v (map negation ls)) h (holds_negation v l ∙ ap not e))
      by false e rest = refl

  conjunction_tells : (x : Lit) (ls : List Lit) → AllTrue (conjunction x ls) → holds v x ≡ are_true ls
  conjunction_tells x ls h = by (holds v x) refl
    where
      by : (b : Bool) → holds v x ≡ b → b ≡ are_true ls
      by true e =
          sym (each_true ls (λ l i. true_or_false (holds v l)
          (later_true (holds v (negation x)) (holds v l || false) (h (negation x ∷ l ∷ [])
          (Has-left (map (λ (k : Lit). negation x ∷ k ∷ []) ls) ((x ∷ map negation ls) ∷ []) (negation x ∷ l ∷ [])
          (Has-map (λ (k : Lit). negation x ∷ k ∷ []) ls l i))) (holds_negation v x ∙ ap not e))))
      by false e =
          sym (some_false ls (later_true (holds v x) (clause_holds v (map negation ls))
          (h (x ∷ map negation ls) (Has-last (map (λ (k : Lit). negation x ∷ k ∷ []) ls) (x ∷ map negation ls))) e))

  -- ---- all shapes

  pub clauses_tell : (shape : Shape) (x : Lit) (ls : List Lit) → AllTrue (clauses_by shape x ls) → IsAs v x (defined shape (map (holds v) ls))
  clauses_tell (Table f t) x ls h = table_tells f x (turned t ls) h ∙ ap (value_of f) (turned_truths t ls)
  clauses_tell All x ls h = conjunction_tells x ls h
  clauses_tell NotAll x ls h =
      sym (not_not (holds v x)) ∙ ap not (sym (holds_negation v x) ∙ conjunction_tells (negation x) ls h)
  clauses_tell (Fixed b) x ls h = value_tells x b (true_or_false (holds v (has_value x b)) (h (has_value x b ∷ []) (inl refl)))
  clauses_tell Free x ls h = tt

  pub as_said : (x : Lit) (b : Bool) (o : Option Bool) → holds v x ≡ b → IsAs v x o → IfSome o (λ c. b ≡ c)
  as_said x b None e h = tt
  as_said x b (Some c) e h = sym e ∙ h
