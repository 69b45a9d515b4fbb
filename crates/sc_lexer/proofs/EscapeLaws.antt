-- What stands after a backslash.
use Rattle.std.proofs.Common.{◌≡◌, ◌≢◌, ℕ, zero, suc, ◌+◌, ◌-◌, ◌<◌, ◌≤◌, ◌&&◌, List, [], ◌∷◌, length, take, drop, get_or, true, false, refl, subst, arith, Some, None, length-take}
use Rattle.std.specs.Char.{IsScalar, is_ascii_hexdigit}
use Rattle.std.specs.Str.Parse.{digits_value}
use Rattle.std.specs.List.{list_all, take_while}
use Rattle.std.proofs.lemmas.Bool.Decides.{nat_tests}
use Rattle.std.proofs.lemmas.List.{take_rest, get_or_past}
use Rattle.std.proofs.Math.Utf8.{scalar}
use Rattle.sc_lists.proofs.TextLaws.{take_while_front, take_while_passes}
use Rattle.sc_lexer.specs.declared.piece.Piece.TheVariants.{Char, EscapedStar}
use Rattle.sc_lexer.specs.Escapes.{is_letter, letter_char, ascii_of, braced_of, scalar_of, escape_of}
use Rattle.sc_lexer.proofs.RunLaws.{take-take_while}

-- digits in front

list_all-take : (n : ℕ) (ds : List ℕ) → list_all is_ascii_hexdigit ds ≡ true → list_all is_ascii_hexdigit (take n ds) ≡ true
list_all-take zero ds h = refl
list_all-take (suc n) [] h = refl
list_all-take (suc n) (d ∷ ds) h = elim (is_ascii_hexdigit d) as (λ b. (b && list_all is_ascii_hexdigit ds) ≡ true → (b && list_all is_ascii_hexdigit (take n ds)) ≡ true) [
  | true ↦ λ k. list_all-take n ds k
  | false ↦ λ k. cc
] h

pub digits_front : (cs : List ℕ) (n : ℕ) → n ≤ length (take_while is_ascii_hexdigit cs) → list_all is_ascii_hexdigit (take n cs) ≡ true
digits_front cs n h = subst (λ ds. list_all is_ascii_hexdigit ds ≡ true) (take-take_while is_ascii_hexdigit n cs h) (list_all-take n (take_while is_ascii_hexdigit cs) (take_while_passes is_ascii_hexdigit cs))

-- `x`

pub ascii_few : (bytes : List ℕ) → length (take_while is_ascii_hexdigit bytes) < 2 → None ≡ ascii_of bytes
unfolding ascii_of
ascii_few bytes h = grind (arith, nat_tests, length-take {A = ℕ})

pub ascii_large : (bytes : List ℕ) → 2 ≤ length (take_while is_ascii_hexdigit bytes) → 127 < digits_value 16 (take 2 bytes) → None ≡ ascii_of bytes
unfolding ascii_of
ascii_large bytes h v = rw (take-take_while is_ascii_hexdigit 2 bytes h) (grind (arith, nat_tests))

pub ascii_some : (bytes : List ℕ) → 2 ≤ length (take_while is_ascii_hexdigit bytes) → digits_value 16 (take 2 bytes) ≤ 127 → Some (record { piece = Char (digits_value 16 (take 2 bytes)); len = 3 }) ≡ ascii_of bytes
unfolding ascii_of
ascii_some bytes h v =
    let two : length (take 2 (take_while is_ascii_hexdigit bytes)) ≡ 2 = rw length-take (omega arith) in
    rw two (rw (take-take_while is_ascii_hexdigit 2 bytes h) (grind (arith, nat_tests)))

-- `u{`

pub braced_few : (bytes : List ℕ) → length (take_while is_ascii_hexdigit bytes) < 1 → None ≡ braced_of bytes
unfolding braced_of
braced_few bytes h = grind (arith, nat_tests)

pub braced_many : (bytes : List ℕ) → 6 < length (take_while is_ascii_hexdigit bytes) → None ≡ braced_of bytes
unfolding braced_of
braced_many bytes h = grind (arith, nat_tests)

pub braced_other : (bytes : List ℕ) → get_or bytes (length (take_while is_ascii_hexdigit bytes)) 0 ≢ 125 → None ≡ braced_of bytes
unfolding braced_of
braced_other bytes h = grind (arith, nat_tests)

pub braced_open : (bytes : List ℕ) → length bytes ≤ length (take_while is_ascii_hexdigit bytes) → None ≡ braced_of bytes
braced_open bytes h = braced_other bytes (λ e. let past : get_or bytes (length (take_while is_ascii_hexdigit bytes)) 0 ≡ 0 = get_or_past bytes (length (take_while is_ascii_hexdigit bytes)) 0 h in omega arith)

no_scalar : (c : ℕ) → (IsScalar c → ⊥) → scalar c ≡ false
no_scalar c h = elim (scalar c) as (λ b. scalar c ≡ b → b ≡ false) [
  | true ↦ λ e. absurd (h e)
  | false ↦ λ e. refl
] refl

pub braced_none : (bytes : List ℕ) → (IsScalar (digits_value 16 (take (length (take_while is_ascii_hexdigit bytes)) bytes)) → ⊥) → None ≡ braced_of bytes
unfolding braced_of
braced_none bytes h =
    let none : scalar (digits_value 16 (take_while is_ascii_hexdigit bytes)) ≡ false = subst (λ ds. scalar (digits_value 16 ds) ≡ false) (take_while_front is_ascii_hexdigit bytes) (no_scalar (digits_value 16 (take (length (take_while is_ascii_hexdigit bytes)) bytes)) h) in
    grind (arith, nat_tests)

pub braced_some : (bytes : List ℕ) → 1 ≤ length (take_while is_ascii_hexdigit bytes) → length (take_while is_ascii_hexdigit bytes) ≤ 6 → get_or bytes (length (take_while is_ascii_hexdigit bytes)) 0 ≡ 125
    → IsScalar (digits_value 16 (take (length (take_while is_ascii_hexdigit bytes)) bytes))
    → Some (record { piece = Char (digits_value 16 (take (length (take_while is_ascii_hexdigit bytes)) bytes)); len = length (take_while is_ascii_hexdigit bytes) + 3 }) ≡ braced_of bytes
unfolding braced_of
braced_some bytes h k q s = rw (take_while_front is_ascii_hexdigit bytes) (
    let is : scalar (digits_value 16 (take_while is_ascii_hexdigit bytes)) ≡ true = subst (λ ds. scalar (digits_value 16 ds) ≡ true) (take_while_front is_ascii_hexdigit bytes) s in
    grind (arith, nat_tests))

-- `u`

pub scalar_none : (bytes : List ℕ) → get_or bytes 0 0 ≢ 123 → None ≡ scalar_of bytes
unfolding scalar_of
scalar_none [] h = refl
scalar_none (c ∷ cs) h = grind (arith, nat_tests)

pub scalar_empty : (bytes : List ℕ) → length bytes ≡ 0 → None ≡ scalar_of bytes
unfolding scalar_of
scalar_empty [] h = refl
scalar_empty (c ∷ cs) h = absurd (omega arith)

pub scalar_braced : (bytes : List ℕ) → get_or bytes 0 0 ≡ 123 → braced_of (take (length bytes - 1) (drop 1 bytes)) ≡ scalar_of bytes
unfolding scalar_of
scalar_braced [] h = absurd (omega arith)
scalar_braced (c ∷ cs) h = rw take_rest (rw h refl)

-- the backslash

pub escape_empty : (bytes : List ℕ) → length bytes ≡ 0 → None ≡ escape_of bytes
unfolding escape_of
escape_empty [] h = refl
escape_empty (c ∷ cs) h = absurd (omega arith)

pub escape_letter : (bytes : List ℕ) → is_letter (get_or bytes 0 0) ≡ true → Some (record { piece = Char (letter_char (get_or bytes 0 0)); len = 1 }) ≡ escape_of bytes
unfolding escape_of
escape_letter [] h = cc
escape_letter (c ∷ cs) h = rw h refl

pub escape_star : (bytes : List ℕ) → get_or bytes 0 0 ≡ 42 → Some (record { piece = EscapedStar; len = 1 }) ≡ escape_of bytes
unfolding escape_of
escape_star [] h = absurd (omega arith)
escape_star (c ∷ cs) h = rw h refl

pub escape_ascii : (bytes : List ℕ) → get_or bytes 0 0 ≡ 120 → ascii_of (take (length bytes - 1) (drop 1 bytes)) ≡ escape_of bytes
unfolding escape_of
escape_ascii [] h = absurd (omega arith)
escape_ascii (c ∷ cs) h = rw take_rest (rw h refl)

pub escape_scalar : (bytes : List ℕ) → get_or bytes 0 0 ≡ 117 → scalar_of (take (length bytes - 1) (drop 1 bytes)) ≡ escape_of bytes
unfolding escape_of
escape_scalar [] h = absurd (omega arith)
escape_scalar (c ∷ cs) h = rw take_rest (rw h refl)

pub escape_none : (bytes : List ℕ) → is_letter (get_or bytes 0 0) ≡ false → get_or bytes 0 0 ≢ 42 → get_or bytes 0 0 ≢ 120 → get_or bytes 0 0 ≢ 117 → None ≡ escape_of bytes
unfolding escape_of
escape_none [] h s x u = refl
escape_none (c ∷ cs) h s x u = rw h (grind (arith, nat_tests))
