-- `Fields` stores its fields as a `Shared` list stores them, so a type may hold `Fields` of itself.
use mathlib.Core.Path.{◌≡◌, refl, sym, ap, subst}
use mathlib.Core.HLevel.{→_prop}
use mathlib.Core.List.{List, [], ◌∷◌, map}
use mathlib.Core.Former.{Former, this, const, pair, list, via, children}
use Prim.Native.Nat.{ℕ}
use base.Stored.{coded_list, coded_ℕ, code_map, gcons}
use denote.RattleType.{RattleType}
use denote.HoleLaws.{Alike}
use denote.HolePlaces.{Recodes, struct_places, laid, stays}
use denote.Hole.Carrier.{listed}
use denote.Hole.Fix.{over}
use denote.Param.Weighed.{Weighed, w_const, w_pair, w_via, w_list}
use denote.Model.Placed.{view_places}
use denote.Struct.Tuple.{Tuple, tuple_type}
use Rattle.std.specs.Prelude.{Bool}
use Rattle.std.specs.List.Sorted.{IsStrictlySortedBy, IsStrictlySortedBy-prop}
use Rattle.sc_lists.specs.formers.seq.Seq as seq
use Rattle.sc_lists.specs.formers.shared.Shared as shared
use Rattle.sc_lists.specs.contracts.seq.Seq as seq_row
use Rattle.sc_lists.specs.contracts.text.Text as text_row
use Rattle.sc_names.specs.Uids.{text_cmp}
use Rattle.sc_schema.specs.declared.fields.Fields.TheInside.{Inside}
use Rattle.sc_schema.specs.declared.fields.Fields.TheView.{view, invariant}
use Rattle.sc_schema.specs.contracts.fields.Fields as row
use Rattle.sc_schema.specs.contracts.fields.Fields.TheInside as inside

-- a field: its name, what else is told of it, and one of g's values
abbrev pub field : Former {0} → Type 0 → Former {0}
field g P = via (pair (const (List ℕ)) (pair (const P) g)) (λ X. List ℕ × P × g.Of X) (λ X f. (f.0, (f.1, f.2)))
    (λ X v. (v.0, v.1.0, v.1.1)) (λ X f. refl) (λ X v. refl)

abbrev pub the_former : Former {0} → Type 0 → Former {0}
the_former g P = list (field g P)

abbrev pub the_weighed : {g : Former {0}} → Weighed g → (P : Type 0) → Weighed (the_former g P)
the_weighed {g} w P = w_list
    (w_via (w_pair (w_const (List ℕ)) (w_pair (w_const P) w)) (λ X. List ℕ × P × g.Of X) (λ X f. (f.0, (f.1, f.2)))
    (λ X v. (v.0, v.1.0, v.1.1)) (λ X f. refl) (λ X v. refl))

abbrev pub the_empty : (P : Type 0) → P → List (List ℕ × P × ⊥)
the_empty P p = []

abbrev pub the_items : (P X : Type 0) → List (List ℕ × P × X) → List X
the_items P X fs = map (λ (f : List ℕ × P × X). f.2) fs

pub the_items_listed : (P X : Type 0) (fs : List (List ℕ × P × X))
    → listed _ (children (the_former this P) X fs) ≡ the_items P X fs
the_items_listed P X [] = refl
the_items_listed P X (f ∷ fs) = ap (λ xs. f.2 ∷ xs) (the_items_listed P X fs)

abbrev stored : Type 0 → Former {0}
stored P = via (pair (list (field this P)) (const Bool)) (λ X. Inside P X) (λ X s. (s.list, s.ascending))
    (λ X v. record { list = v.0; ascending = v.1 }) (λ X s. refl) (λ X v. refl)

-- the field with h applied to its value
abbrev on_value : {P X Y : Type 0} → (X → Y) → List ℕ × P × X → List ℕ × P × Y
on_value h f = (f.0, f.1, h f.2)

names_stay : {P X Y : Type 0} (h : X → Y) (fs : List (List ℕ × P × X))
    → map (λ (f : List ℕ × P × Y). f.0) (map (on_value h) fs) ≡ map (λ (f : List ℕ × P × X). f.0) fs
names_stay h [] = refl
names_stay h (f ∷ fs) = ap (λ ns. f.0 ∷ ns) (names_stay h fs)

abbrev tuple : RattleType → RattleType → RattleType
tuple P R = Tuple (text_row.the_row ∷ P ∷ R ∷ [])

module _ (P R S : RattleType) (h : R.Denot → S.Denot) where
  tuple_places : Alike R S h → Alike (tuple P R) (tuple P S) (on_value h)
  tuple_places a = struct_places (tuple_type (text_row.the_row ∷ P ∷ R ∷ []))
      (tuple_type (text_row.the_row ∷ P ∷ S ∷ [])) ((λ n. n), ((λ p. p), (h, tt))) (on_value h) (λ d. refl) refl
      (stays text_row.the_row, (stays P, (laid R S h a, tt)))

  pub the_places : Alike R S h
      → Alike (row.the_row P R) (row.the_row P S) ((the_former this P.Denot).map R.Denot S.Denot h)
  the_places a = view_places (stored P.Denot) (the_former this P.Denot) (λ X. view P.Denot X) (λ X Y k u. refl)
      (λ X u. refl) R.Denot S.Denot h (row.the_row P R).coded (row.the_row P S).coded
      (invariant P.Denot R.Denot) (invariant P.Denot S.Denot)
      (λ u. →_prop (IsStrictlySortedBy-prop text_cmp _)) (λ u. →_prop (IsStrictlySortedBy-prop text_cmp _))
      (λ u e t. subst (IsStrictlySortedBy text_cmp) (sym (names_stay h u.list)) (e t))
      (λ u e t. subst (IsStrictlySortedBy text_cmp) (names_stay h u.list) (e t))
      (over (inside.the_row P R)) (over (inside.the_row P S))
      (struct_places (inside.the_type P R) (inside.the_type P S) (map (on_value h), ((λ b. b), tt)) _ (λ d. refl) refl (
        laid _ _ _ (shared.the_places (seq_row.the_row (tuple P R)) (seq_row.the_row (tuple P S)) (map (on_value h))
            (seq.the_places (tuple P R) (tuple P S) (on_value h) (tuple_places a))),
        ((refl, (λ b. refl, λ b. refl)), tt),
      ))

  pub the_codes_placed : Recodes R S h
      → Recodes (row.the_row P R) (row.the_row P S) ((the_former this P.Denot).map R.Denot S.Denot h)
  the_codes_placed e fs = sym (code_map _ _ (on_value h)
      (λ f i. gcons ((coded_list coded_ℕ).code f.0) (gcons (P.coded.code f.1) (sym (e f.2) i))) fs)
