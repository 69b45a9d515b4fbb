-- Pieces are fronts of what is left.
use Rattle.std.proofs.Common.{◌≡◌, ◌≤◌, ◌+◌, ◌++◌, ◌∙◌, ℕ, List, [], take, drop, length, min, Option, Some, None, option_map, is_some, true, refl, sym, ap, subst, arith}
use Rattle.std.specs.Prelude.{IsSome, String, Vec, string_bytes, unwrap_or}
use Rattle.std.specs.Global.{Global}
use Rattle.std.specs.BTreeMap.{BTreeMap}
use Rattle.std.proofs.lemmas.List.{take-append-drop, drop_min, drop-drop, length-take}
use Rattle.sc_outside.specs.Memory.{content_in}
use Rattle.sc_outside.specs.Pieces.{IsPiece, Left, behind, left_in}
use Rattle.sc_outside.specs.declared.started.Started.{Started}

front_and_rest : (bytes : List ℕ) (taken from count : ℕ) → from ≡ min taken (length bytes) → drop taken bytes ≡ take count (drop from bytes) ++ drop (from + count) bytes
front_and_rest bytes taken from count e =
    sym (drop_min taken bytes) ∙ ap (λ n. drop n bytes) (sym e)
    ∙ sym (take-append-drop count (drop from bytes))
    ∙ ap (λ rest. take count (drop from bytes) ++ rest) (drop-drop count from bytes)

some_of : (count left max : ℕ) → count ≡ min left max → 1 ≤ max → min count left ≡ 0 → left ≡ 0
some_of count left max e h none = omega (arith, e, h, none)

at_most_max : (count left max : ℕ) → count ≡ min left max → min count left ≤ max
at_most_max count left max e = omega (arith, e)

-- the bytes from a place on, at most `max` of them, are the next piece
pub piece_taken : (bytes left piece : List ℕ) (taken from count max : ℕ) → from ≡ min taken (length bytes) → left ≡ drop from bytes → count ≡ min (length left) max → piece ≡ take count left → 1 ≤ max
    → IsPiece (Some (Some (drop taken bytes))) (Some (Some (drop (from + count) bytes))) max piece
piece_taken bytes left piece taken from count max e is f cut h =
    let size : length piece ≡ min count (length left) = ap length cut ∙ length-take count left in
    let whole : piece ≡ take count (drop from bytes) = cut ∙ ap (take count) is in
    let same : length (drop taken bytes) ≡ length left = ap length (sym (drop_min taken bytes) ∙ ap (λ n. drop n bytes) (sym e) ∙ sym is) in
    record {
      front = ap (λ l. Some (Some l)) (front_and_rest bytes taken from count e ∙ ap (λ p. p ++ drop (from + count) bytes) (sym whole));
      within = subst (λ (n : ℕ). n ≤ max) (sym size) (at_most_max count (length left) max f);
      ends = λ none. same ∙ some_of count (length left) max f h (sym size ∙ none);
    }

-- ---- a file that is started

pub is_started : (new : Left) (content : Option (List ℕ)) → new ≡ Some content → IsSome new
is_started new content e = ap is_some e

-- a file that a piece was taken of stays started
pub stays_started : (old new : Left) (piece : List ℕ) → old ≡ behind piece new → IsSome old → IsSome new
stays_started old None piece e h = subst (λ (l : Left). is_some l ≡ true) e h
stays_started old (Some told) piece e h = refl

-- ---- files of which those that aren't there have no bytes

left_is : (content : List ℕ → Option (List ℕ)) (s : Started) (bytes : List ℕ) → content (string_bytes s.name) ≡ Some bytes → left_in content (Some s) ≡ Some (Some (drop s.taken bytes))
left_is content s bytes e = ap (λ (o : Option (List ℕ)). Some (option_map (λ b. drop s.taken b) o)) e

-- a piece of the bytes that a file has is one of the file
pub piece_of_file : (files : BTreeMap (String Global) (Vec ℕ Global)) (started : Option Started) (file new : Started) (name bytes : List ℕ) (max : ℕ) (piece : List ℕ)
    → started ≡ Some file → name ≡ string_bytes file.name → bytes ≡ unwrap_or (content_in files name) [] → new.name ≡ file.name
    → IsPiece (Some (Some (drop file.taken bytes))) (Some (Some (drop new.taken bytes))) max piece
    → IsPiece (left_in (λ n. Some (unwrap_or (content_in files n) [])) started) (left_in (λ n. Some (unwrap_or (content_in files n) [])) (Some new)) max piece
piece_of_file files started file new name bytes max piece is named has same h =
    let content : List ℕ → Option (List ℕ) = λ n. Some (unwrap_or (content_in files n) []) in
    let here : content (string_bytes file.name) ≡ Some bytes = ap content (sym named) ∙ ap Some (sym has) in
    let was = ap (left_in content) is ∙ left_is content file bytes here in
    let now = left_is content new bytes (ap (λ n. content (string_bytes n)) same ∙ here) in
    subst (λ (l : Left). IsPiece l (left_in content (Some new)) max piece) (sym was)
    (subst (λ (l : Left). IsPiece (Some (Some (drop file.taken bytes))) l max piece) (sym now) h)
