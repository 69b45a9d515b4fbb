-- Whether an object has just the members of some names, as it is tested.
use Rattle.std.proofs.Common.{◌≡◌, ◌==◌, ◌&&◌, ℕ, suc, List, [], ◌∷◌, length, map, Bool, String, Global, Bor, refl, sym, ap, ◌∙◌}
use Rattle.std.specs.Prelude.{is_some}
use Rattle.std.specs.List.{list_all}
use Rattle.serde_json.specs.Events.{members_len}
use Rattle.serde_json.specs.Find.{get_member}
use Rattle.serde_json.specs.View.{members_view}
use Rattle.serde_json.specs.declared.value.Value.{Value}
use Rattle.sc_world_json.specs.Forms.{has_just}

abbrev Entries : Type 0
Entries = List (String Global × Value)

members_len-view : (es : Entries) → members_len (members_view es) ≡ length es
members_len-view [] = refl
members_len-view (e ∷ es) = ap suc (members_len-view es)

length-names : (names : List (Bor (List ℕ))) → length (map (λ (name : Bor (List ℕ)). name.now) names) ≡ length names
length-names [] = refl
length-names (name ∷ names) = ap suc (length-names names)

all-names : (test : List ℕ → Bool) (names : List (Bor (List ℕ))) → list_all test (map (λ (name : Bor (List ℕ)). name.now) names) ≡ list_all (λ (name : Bor (List ℕ)). test name.now) names
all-names test [] = refl
all-names test (name ∷ names) = ap (λ (b : Bool). test name.now && b) (all-names test names)

pub has_just_tested : (names : List (Bor (List ℕ))) (es : Entries) (n : ℕ) (a b : Bool) → n ≡ length es → (n == length names) ≡ a
    → b ≡ list_all (λ (name : Bor (List ℕ)). is_some (get_member name.now (members_view es))) names
    → (a && b) ≡ has_just (map (λ (name : Bor (List ℕ)). name.now) names) (members_view es)
has_just_tested names es n a b counted same each =
    let left : a ≡ (members_len (members_view es) == length (map (λ (name : Bor (List ℕ)). name.now) names)) =
    sym same ∙ (ap (λ (k : ℕ). k == length names) (counted ∙ sym (members_len-view es)) ∙ ap (λ (k : ℕ). members_len (members_view es) == k) (sym (length-names names))) in
    let right = each ∙ sym (all-names (λ name. is_some (get_member name (members_view es))) names) in
    λ i. left i && right i
