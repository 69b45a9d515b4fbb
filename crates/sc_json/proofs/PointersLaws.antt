-- What escaping leaves.
use Rattle.std.proofs.Common.{◌≡◌, ◌≢◌, ℕ, ◌<◌, ◌≤◌, List, [], ◌∷◌, ◌++◌, length, get_or, refl, append_assoc, append-nil, arith, inl, inr, suc}
use Rattle.std.specs.Char.{encode_utf8}
use Rattle.std.specs.Str.{encode_utf8_all}
use Rattle.std.proofs.lemmas.Bool.{cases_lt}
use Rattle.std.proofs.lemmas.Bool.Decides.{nat_tests}
use Rattle.std.proofs.lemmas.Grind.{flat_map-append}
use Rattle.std.proofs.lemmas.Str.{encode_ascii, encodes-append}
use Rattle.sc_lists.proofs.TextLaws.{high_byte}
use Rattle.sc_json.specs.Pointers.{escaped, escaped_key}

-- a byte that stands for itself
escaped-plain : (b : ℕ) → b ≢ 126 → b ≢ 47 → escaped b ≡ b ∷ []
unfolding escaped
escaped-plain b tilde slash = grind (arith, nat_tests)

escaped_key-high : (bs : List ℕ) → ((k : ℕ) → k < length bs → 128 ≤ get_or bs k 0) → escaped_key bs ≡ bs
escaped_key-high [] h = refl
escaped_key-high (b ∷ bs) h =
    let high : 128 ≤ b = h 0 (omega arith) in
    rw (escaped-plain b (omega arith) (omega arith), escaped_key-high bs (λ k within. h (suc k) (omega arith))) refl

-- a character that stands for itself
pub escaped_key_plain : (c : ℕ) → c ≢ 126 → c ≢ 47 → escaped_key (encode_utf8 c) ≡ encode_utf8 c
escaped_key_plain c tilde slash = elim (cases_lt c 128) [
  | inl less ↦ rw (encode_ascii c less, escaped-plain c tilde slash) refl
  | inr high ↦ escaped_key-high (encode_utf8 c) (λ k within. high_byte c k high within)
]

-- one more character is put
pub escaped_key_more : (old now new cs : List ℕ) (c : ℕ) → now ≡ old ++ escaped_key (encode_utf8_all cs) → new ≡ now ++ escaped_key (encode_utf8 c)
    → new ≡ old ++ escaped_key (encode_utf8_all (cs ++ c ∷ []))
escaped_key_more old now new cs c before put =
    let both : escaped_key (encode_utf8_all (cs ++ c ∷ [])) ≡ escaped_key (encode_utf8_all cs) ++ escaped_key (encode_utf8 c) = rw (encodes-append, flat_map-append, append-nil) refl in
    rw (both, put, before) (append_assoc old (escaped_key (encode_utf8_all cs)) (escaped_key (encode_utf8 c)))
