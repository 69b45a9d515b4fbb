-- The texts of a table are those of their signs.
use Rattle.std.proofs.Common.{◌≡◌, ◌++◌, inl, inr, ℕ, Bool, true, false, cond, List, [], ◌∷◌, map, Some, None, unwrap_or, is_some, refl, sym, ap, subst}
use Rattle.std.specs.Str.{chars}
use Rattle.sc_clauses.specs.Clauses.{bool_eq}
use Rattle.sc_clauses.proofs.LitLaws.{bool_eq-true}
use Rattle.sc_languages.specs.Strings.{AreStrings}
use Rattle.sc_laws.proofs.BoolLaws.{and_first, and_second}
use Rattle.sc_lists.proofs.ListLaws.{all_append}
use Rattle.sc_lists.specs.Members.{Has}
use Rattle.sc_terms.specs.Trees.{Tree}
use Rattle.sc_rule_laws.specs.Strings.{Pattern}
use Rattle.sc_model_laws.specs.Assignments.{Assignment}
use Rattle.sc_model_laws.specs.Names.{Name, signs_of}
use Rattle.sc_model_names.specs.Tables.{Table, same_signs, texts_at, texts_in, AreFound, IsEntered, AreEntered}

same_signs_true : (v w : List Bool) → same_signs v w ≡ true → v ≡ w
same_signs_true [] [] e = refl
same_signs_true (b ∷ v) (c ∷ w) e =
    let sign : b ≡ c = bool_eq-true b c (and_first (bool_eq b c) (same_signs v w) e) in
    let rest : v ≡ w = same_signs_true v w (and_second (bool_eq b c) (same_signs v w) e) in
    λ i. sign i ∷ rest i
same_signs_true [] (c ∷ w) e = absurd cc
same_signs_true (b ∷ v) [] e = absurd cc

same_signs_itself : (v : List Bool) → same_signs v v ≡ true
same_signs_itself [] = refl
same_signs_itself (true ∷ v) = same_signs_itself v
same_signs_itself (false ∷ v) = same_signs_itself v

-- ---- what is looked up

there_still : (table more : Table) (v : List Bool) → is_some (texts_at table v) ≡ true → is_some (texts_at (table ++ more) v) ≡ true
there_still [] more v h = absurd cc
there_still (e ∷ table) more v h = by (same_signs v e.0) h (there_still table more v) where
  by : (b : Bool) → is_some (cond b (Some e.1) (texts_at table v)) ≡ true → (is_some (texts_at table v) ≡ true → is_some (texts_at (table ++ more) v) ≡ true)
      → is_some (cond b (Some e.1) (texts_at (table ++ more) v)) ≡ true
  by true k rest = refl
  by false k rest = rest k

there_last : (table : Table) (v : List Bool) (ts : List Name) → is_some (texts_at (table ++ (v, ts) ∷ []) v) ≡ true
there_last [] v ts = ap (λ (b : Bool). is_some (cond b (Some ts) None)) (same_signs_itself v)
there_last (e ∷ table) v ts = by (same_signs v e.0) (there_last table v ts) where
  by : (b : Bool) → is_some (texts_at (table ++ (v, ts) ∷ []) v) ≡ true → is_some (cond b (Some e.1) (texts_at (table ++ (v, ts) ∷ []) v)) ≡ true
  by true rest = refl
  by false rest = rest

looked_up : (qs : List Pattern) (wanted : ℕ) (table : Table) (v : List Bool) → AreFound qs wanted table → is_some (texts_at table v) ≡ true
    → AreStrings qs v wanted (map chars (texts_in table v))
looked_up qs wanted [] v are h = absurd cc
looked_up qs wanted (e ∷ table) v are h = by (same_signs v e.0) refl h (looked_up qs wanted table v are.1) where
  by : (b : Bool) → same_signs v e.0 ≡ b → is_some (cond b (Some e.1) (texts_at table v)) ≡ true
      → (is_some (texts_at table v) ≡ true → AreStrings qs v wanted (map chars (texts_in table v)))
      → AreStrings qs v wanted (map chars (unwrap_or (cond b (Some e.1) (texts_at table v)) []))
  by true f k rest = subst (λ (w : List Bool). AreStrings qs w wanted (map chars e.1)) (sym (same_signs_true v e.0 f)) are.0
  by false f k rest = rest k

-- ---- one string after the other

module _ (m : Assignment) (qs : List Pattern) (wanted : ℕ) (all : List Tree) where
  pub entered_none : AreEntered m qs wanted all all []
  entered_none = record { found = tt; there = λ x h. inl h }

  pub entered_one : (x : Tree) (rest : List Tree) (old new : Table) → AreEntered m qs wanted all (x ∷ rest) old → IsEntered qs wanted old new (signs_of m qs x)
      → AreEntered m qs wanted all rest new
  entered_one x rest old new are (inl same) = record {
    found = subst (AreFound qs wanted) (sym same.0) are.found;
    there = λ y h. elim (are.there y h) [
      | inl (inl is) ↦ inr (subst (λ (t : Table). is_some (texts_at t (signs_of m qs y)) ≡ true) (sym same.0) (subst (λ (z : Tree). is_some (texts_at old (signs_of m qs z)) ≡ true) is same.1))
      | inl (inr later) ↦ inl later
      | inr k ↦ inr (subst (λ (t : Table). is_some (texts_at t (signs_of m qs y)) ≡ true) (sym same.0) k)
    ];
  }
  entered_one x rest old new are (inr put) =
      let ts : List Name = put.0 in
      let entry : List Bool × List Name = (signs_of m qs x, put.0) in
      subst (AreEntered m qs wanted all rest) (sym put.2) (record {
        found = all_append (λ (e : List Bool × List Name). AreStrings qs e.0 wanted (map chars e.1)) old (entry ∷ []) are.found (put.1, tt);
        there = λ y h. elim (are.there y h) [
          | inl (inl is) ↦ inr (subst (λ (z : Tree). is_some (texts_at (old ++ entry ∷ []) (signs_of m qs z)) ≡ true) is (there_last old (signs_of m qs x) put.0))
          | inl (inr later) ↦ inl later
          | inr k ↦ inr (there_still old (entry ∷ []) (signs_of m qs y) k)
        ];
      })

  pub entered_all : (table : Table) → AreEntered m qs wanted all [] table → (x : Tree) → Has all x → AreStrings qs (signs_of m qs x) wanted (map chars (texts_in table (signs_of m qs x)))
  entered_all table are x h = elim (are.there x h) [
    | inl none ↦ absurd none
    | inr k ↦ looked_up qs wanted table (signs_of m qs x) are.found k
  ]
