-- Bytes are the text of one tree at most; what they say is one value, or one fault.
use Rattle.std.proofs.Common.{◌≡◌, ◌⊎◌, ◌∙◌, refl, sym, ap, inl, inr, ℕ, List, Bool, true, false, Option, Some, None}
use Rattle.std.specs.Str.{is_utf8}
use Rattle.std.proofs.lemmas.Str.{IsUtf8-from_is_utf8, is_utf8-from_IsUtf8}
use Rattle.serde_json.specs.Read.{read}
use Rattle.serde_json.specs.Data.{Data}
use Rattle.sc_json.specs.Trees.{HasTree, Says, Fails, no_tree, in_tree}

pub one_tree : (bytes : List ℕ) (c d : Data) → HasTree bytes c → HasTree bytes d → c ≡ d
one_tree bytes c d a b =
    let both : Some c ≡ Some d = sym a.tree ∙ b.tree in
    cc

pub tree_or_none : (bytes : List ℕ) → ((d : Data) × HasTree bytes d) ⊎ ((d : Data) → ¬ HasTree bytes d)
tree_or_none bytes = at (is_utf8 bytes) refl (read bytes) refl where
  at : (b : Bool) → is_utf8 bytes ≡ b → (o : Option Data) → read bytes ≡ o → ((d : Data) × HasTree bytes d) ⊎ ((d : Data) → ¬ HasTree bytes d)
  at true text (Some d) tree = inl (d, record { text = IsUtf8-from_is_utf8 bytes text; tree = tree })
  at true text None tree = inr (λ d has. (let both : Some d ≡ None = sym has.tree ∙ tree in cc))
  at false text o tree = inr (λ d has. (let both : true ≡ false = sym (is_utf8-from_IsUtf8 bytes has.text) ∙ text in cc))

-- ---- what bytes say

pub one_value : {W F : Type 0} (first_fault : Data → Option F) (meaning : Data → W) (bytes : List ℕ) (v w : W)
    → Says first_fault meaning bytes v → Says first_fault meaning bytes w → v ≡ w
one_value first_fault meaning bytes v w a b = a.meant ∙ (ap meaning (one_tree bytes a.d b.d a.tree b.tree) ∙ sym b.meant)

pub one_fault : {F : Type 0} (not_json : F) (first_fault : Data → Option F) (bytes : List ℕ) (a b : F)
    → Fails not_json first_fault bytes a → Fails not_json first_fault bytes b → a ≡ b
one_fault not_json first_fault bytes _ _ (no_tree h) (no_tree k) = refl
one_fault not_json first_fault bytes _ _ (no_tree h) (in_tree d fault tree first) = absurd (h d tree)
one_fault not_json first_fault bytes _ _ (in_tree d fault tree first) (no_tree h) = absurd (h d tree)
one_fault not_json first_fault bytes _ _ (in_tree c f left first) (in_tree d g right second) =
    let same : first_fault c ≡ first_fault d = ap first_fault (one_tree bytes c d left right) in
    let both : Some f ≡ Some g = sym first ∙ (same ∙ second) in
    cc

pub not_both : {W F : Type 0} (not_json : F) (first_fault : Data → Option F) (meaning : Data → W) (bytes : List ℕ) (w : W) (a : F)
    → Says first_fault meaning bytes w → ¬ Fails not_json first_fault bytes a
not_both not_json first_fault meaning bytes w _ s (no_tree h) = h s.d s.tree
not_both not_json first_fault meaning bytes w _ s (in_tree d fault tree first) =
    let same : first_fault s.d ≡ first_fault d = ap first_fault (one_tree bytes s.d d s.tree tree) in
    let both : Some fault ≡ None = sym first ∙ (sym same ∙ s.no_fault) in
    cc

-- they say a value or have a fault
abbrev pub Either : {W F : Type 0} → F → (Data → Option F) → (Data → W) → List ℕ → Type 0
Either {W} {F} not_json first_fault meaning bytes = ((w : W) × Says first_fault meaning bytes w) ⊎ ((fault : F) × Fails not_json first_fault bytes fault)

pub either : {W F : Type 0} (not_json : F) (first_fault : Data → Option F) (meaning : Data → W) (bytes : List ℕ) → Either not_json first_fault meaning bytes
either {W} {F} not_json first_fault meaning bytes = by (tree_or_none bytes) where
  at : (d : Data) → HasTree bytes d → (o : Option F) → first_fault d ≡ o → Either not_json first_fault meaning bytes
  at d tree None first = inl (meaning d, record { d = d; tree = tree; no_fault = first; meant = refl })
  at d tree (Some fault) first = inr (fault, in_tree d fault tree first)

  by : ((d : Data) × HasTree bytes d) ⊎ ((d : Data) → ¬ HasTree bytes d) → Either not_json first_fault meaning bytes
  by (inl found) = at found.0 found.1 (first_fault found.0) refl
  by (inr none) = inr (not_json, no_tree none)
