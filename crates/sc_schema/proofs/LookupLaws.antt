-- What is found by a key is what is declared under it.
use Rattle.std.proofs.Common.{◌≡◌, ℕ, zero, suc, List, [], ◌∷◌, map, Bool, true, false, cond, Option, Some, refl, sym, ap, subst, ◌∙◌, Contains, find}
use Rattle.std.specs.Bool.{Decides}
use Rattle.std.specs.Cmp.{IsTotalOrder}
use Rattle.std.specs.List.{slice_get}
use Rattle.std.specs.List.Sorted.{IsStrictlySortedBy}
use Rattle.std.specs.Str.{bytes_eq}
use Rattle.std.specs.declared.cmp.Ordering.{Ordering}
use Rattle.std.proofs.lemmas.Cmp.{nat_list_cmp_total}
use Rattle.std.proofs.lemmas.Slice.Eq.{bytes_eq-Decides}
use Rattle.std.proofs.lemmas.Option.{slice_get-get_or}
use Rattle.sc_lists.proofs.ListLaws.{contains_rest, contains_first}
use Rattle.sc_names.specs.declared.uid.Uid.{Uid}
use Rattle.sc_names.proofs.UidLaws.{uid_cmp_total}
use Rattle.sc_schema.specs.declared.declarations.EntityType.{EntityType}
use Rattle.sc_schema.specs.declared.declarations.Action.{Action}
use Rattle.sc_schema.specs.Declarations.{Declarations, uid_eq, entity_type, action}
use Rattle.sc_schema.specs.Lawful.{IsLawful}
use Rattle.sc_schema.proofs.PlaceLaws.{find_place, uid_eq-Decides}

module _ {X K : Type 0} (same : K → K → Bool) (decides : (a b : K) → Decides (same a b) (a ≡ b)) (key : X → K) where
  found_at : (k : K) (y : X) (xs : List X) (x : X) (b : Bool) (later : Option X) → (b ≡ true → k ≡ key y) → (later ≡ Some x → Contains xs x × (k ≡ key x)) → cond b (Some y) later ≡ Some x → Contains (y ∷ xs) x × (k ≡ key x)
  found_at k y xs x true later is rest e =
      let one : y ≡ x = cc in
      subst (λ z. Contains (y ∷ xs) z × (k ≡ key z)) one (contains_first y xs, is refl)
  found_at k y xs x false later is rest e = let found = rest e in (contains_rest y xs x found.0, found.1)

  find_declared : (xs : List X) (k : K) (x : X) → find (λ y. same k (key y)) xs ≡ Some x → Contains xs x × (k ≡ key x)
  find_declared [] k x e = absurd cc
  find_declared (y ∷ xs) k x e = found_at k y xs x (same k (key y)) _ ((decides k (key y)).0) (find_declared xs k x) e

  key_place : (xs : List X) (i : ℕ) (x : X) → slice_get xs i ≡ Some x → slice_get (map key xs) i ≡ Some (key x)
  key_place [] i x e = absurd cc
  key_place (y ∷ xs) zero x e = let one : y ≡ x = cc in ap (λ z. Some (key z)) one
  key_place (y ∷ xs) (suc i) x e = key_place xs i x e

  find_found : {R : K → K → Ordering} (o : IsTotalOrder R) (xs : List X) (x : X) → IsStrictlySortedBy R (map key xs) → Contains xs x → find (λ y. same (key x) (key y)) xs ≡ Some x
  find_found o xs x a has =
      let stands : slice_get xs has.0 ≡ Some x = slice_get-get_or xs has.0 x has.1 ∙ ap Some has.2 in
      sym (find_place o same decides key xs (key x) has.0 a (key_place xs has.0 x stands)) ∙ stands

pub type_found : (s : Declarations) (t : EntityType) → IsLawful s → Contains s.types t → entity_type s t.name ≡ Some t
type_found s t h has = find_found bytes_eq bytes_eq-Decides (λ (x : EntityType). x.name) nat_list_cmp_total s.types t h.types_ascend has

pub type_declared : (s : Declarations) (name : List ℕ) (t : EntityType) → entity_type s name ≡ Some t → Contains s.types t × (name ≡ t.name)
type_declared s name t e = find_declared bytes_eq bytes_eq-Decides (λ (x : EntityType). x.name) s.types name t e

pub action_found : (s : Declarations) (a : Action) → IsLawful s → Contains s.actions a → action s a.uid ≡ Some a
action_found s a h has = find_found uid_eq uid_eq-Decides (λ (x : Action). x.uid) uid_cmp_total s.actions a h.actions_ascend has

pub action_declared : (s : Declarations) (u : Uid) (a : Action) → action s u ≡ Some a → Contains s.actions a × (u ≡ a.uid)
action_declared s u a e = find_declared uid_eq uid_eq-Decides (λ (x : Action). x.uid) s.actions u a e
