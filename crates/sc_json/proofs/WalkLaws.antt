-- A step of a walk that tells the first fault: what is looked at next has a fault, or none.
use Rattle.std.proofs.Common.{◌≡◌, ◌<◌, ◌≤◌, ◌∙◌, ℕ, ◌+◌, List, ◌∷◌, length, get_or, drop, Option, Some, None, refl, sym, ap, add-one}
use Rattle.std.proofs.Math.Seq.{drop-cons}
use Rattle.std.proofs.lemmas.List.{drop_all}
use Rattle.std.specs.Prelude.{option_map}
use Rattle.std.specs.Option.{option_or}
use Rattle.std.specs.Fmt.{decimal}
use Rattle.serde_json.specs.Data.{Data, Items, no_items, item, Members, member}
use Rattle.serde_json.specs.View.{view, items_view}
use Rattle.serde_json.specs.declared.value.Value.{Value}

-- ---- the items of a list

-- the items from a place on: the one that stands there, and those after it
pub items_next : (vs : List Value) (n : ℕ) (x : Value) → x ≡ get_or vs n x → n < length vs → items_view (drop n vs) ≡ item (view x) (items_view (drop (n + 1) vs))
items_next vs n x here within =
    let split : drop n vs ≡ x ∷ drop (n + 1) vs = rw (add-one, drop-cons vs n x, ← here) refl in
    ap (λ (ws : List Value). items_view ws) split

pub items_end : (vs : List Value) (n : ℕ) → length vs ≤ n → items_view (drop n vs) ≡ no_items
items_end vs n beyond = ap (λ (ws : List Value). items_view ws) (drop_all n vs beyond)

-- a walk over the items from a number on, which asks each with its number for its fault
pub record IsNumberedWalk {F : Type 0} (under : List ℕ → F → F) (fault_of : ℕ → Data → Option F) (walk : ℕ → Items → Option F) : Type 0 where
  pub end : (n : ℕ) → walk n no_items ≡ None
  pub next : (n : ℕ) (d : Data) (ds : Items) → walk n (item d ds) ≡ option_or (option_map (under (decimal n)) (fault_of n d)) (walk (n + 1) ds)

-- the same where the number doesn't matter
abbrev pub IsItemsWalk : {F : Type 0} → (List ℕ → F → F) → (Data → Option F) → (ℕ → Items → Option F) → Type 0
IsItemsWalk under fault_of walk = IsNumberedWalk under (λ n. fault_of) walk

module _ {F : Type 0} {under : List ℕ → F → F} {fault_of : ℕ → Data → Option F} {walk : ℕ → Items → Option F} (is : IsNumberedWalk under fault_of walk) where
  from_here : (vs : List Value) (n : ℕ) (x : Value) (o : Option F) → x ≡ get_or vs n x → n < length vs
      → walk 0 (items_view vs) ≡ walk n (items_view (drop n vs)) → o ≡ fault_of n (view x)
      → walk 0 (items_view vs) ≡ option_or (option_map (under (decimal n)) o) (walk (n + 1) (items_view (drop (n + 1) vs)))
  from_here vs n x o here within rest told =
      rest ∙ (ap (walk n) (items_next vs n x here within) ∙ (is.next n (view x) (items_view (drop (n + 1) vs))
      ∙ ap (λ (f : Option F). option_or (option_map (under (decimal n)) f) (walk (n + 1) (items_view (drop (n + 1) vs)))) (sym told)))

  pub fault_of_item : (vs : List Value) (n : ℕ) (x : Value) (fault : F) → x ≡ get_or vs n x → n < length vs
      → walk 0 (items_view vs) ≡ walk n (items_view (drop n vs)) → Some fault ≡ fault_of n (view x)
      → Some (under (decimal n) fault) ≡ walk 0 (items_view vs)
  fault_of_item vs n x fault here within rest told = sym (from_here vs n x (Some fault) here within rest told)

  pub no_fault_of_item : (vs : List Value) (n : ℕ) (x : Value) → x ≡ get_or vs n x → n < length vs
      → walk 0 (items_view vs) ≡ walk n (items_view (drop n vs)) → None ≡ fault_of n (view x)
      → walk 0 (items_view vs) ≡ walk (n + 1) (items_view (drop (n + 1) vs))
  no_fault_of_item vs n x here within rest told = from_here vs n x None here within rest told

  pub no_items_left : (vs : List Value) (n : ℕ) → length vs ≤ n
      → walk 0 (items_view vs) ≡ walk n (items_view (drop n vs)) → None ≡ walk 0 (items_view vs)
  no_items_left vs n beyond rest = sym (rest ∙ (ap (walk n) (items_end vs n beyond) ∙ is.end n))

-- ---- the members of an object

-- a walk over the members, which asks each for its fault
pub record IsMembersWalk {F : Type 0} (under : List ℕ → F → F) (fault_of : List ℕ → Data → Option F) (walk : Members → Option F) : Type 0 where
  pub next : (key : List ℕ) (d : Data) (ms : Members) → walk (member key d ms) ≡ option_or (option_map (under key) (fault_of key d)) (walk ms)

module _ {F : Type 0} {under : List ℕ → F → F} {fault_of : List ℕ → Data → Option F} {walk : Members → Option F} (is : IsMembersWalk under fault_of walk) where
  with_member : (key : List ℕ) (d : Data) (ms : Members) (whole o : Option F) → whole ≡ walk (member key d ms) → o ≡ fault_of key d
      → whole ≡ option_or (option_map (under key) o) (walk ms)
  with_member key d ms whole o rest told =
      rest ∙ (is.next key d ms ∙ ap (λ (f : Option F). option_or (option_map (under key) f) (walk ms)) (sym told))

  pub fault_of_member : (key : List ℕ) (d : Data) (ms : Members) (whole : Option F) (fault : F)
      → whole ≡ walk (member key d ms) → Some fault ≡ fault_of key d → Some (under key fault) ≡ whole
  fault_of_member key d ms whole fault rest told = sym (with_member key d ms whole (Some fault) rest told)

  pub no_fault_of_member : (key : List ℕ) (d : Data) (ms : Members) (whole : Option F)
      → whole ≡ walk (member key d ms) → None ≡ fault_of key d → whole ≡ walk ms
  no_fault_of_member key d ms whole rest told = with_member key d ms whole None rest told
