-- Where a string closes.
use Rattle.std.proofs.Common.{◌≡◌, ◌≢◌, ℕ, zero, suc, ◌+◌, ◌-◌, ◌<◌, ◌≤◌, List, [], ◌∷◌, ◌++◌, length, take, drop, get_or, true, false, refl, sym, ◌∙◌, ap, arith, drop-drop, length-drop, subst, eqb-true, inl, inr}
use Rattle.std.proofs.lemmas.Bool.Decides.{eqb_tells, nat_tests}
use Rattle.std.proofs.lemmas.List.{drop_all}
use Rattle.sc_lexer.specs.Tokens.{closes}

pub closes-plain : (c : ℕ) (cs : List ℕ) → c ≢ 92 → c ≢ 34 → closes (c ∷ cs) ≡ closes cs
unfolding closes
closes-plain c [] h k = grind (arith, nat_tests)
closes-plain c (d ∷ cs) h k = grind (arith, nat_tests)

closes-nil : (n : ℕ) → closes (take n []) ≡ false
unfolding closes
closes-nil zero = refl
closes-nil (suc n) = refl

-- what a string's bytes say up to a place is what those after the place say alone
pub record Passes (bytes : List ℕ) (at : ℕ) : Type 0 where
  pub same : (n : ℕ) → closes (take n bytes) ≡ closes (take (n - at) (drop at bytes))

pub Passes_start : (bytes : List ℕ) → Passes bytes 0
Passes_start bytes = record { same = λ n. let k : n - 0 ≡ n = omega arith in rw k refl }

closes-alone : (c : ℕ) → c ≡ 92 → closes (c ∷ []) ≡ false
unfolding closes
closes-alone c h = rw h refl

pub closes-pair : (c d : ℕ) (cs : List ℕ) → c ≡ 92 → closes (c ∷ d ∷ cs) ≡ closes cs
unfolding closes
closes-pair c d cs h = rw h refl

-- one byte of the rest, or two
one : (bytes : List ℕ) (m : ℕ) → get_or bytes 0 0 ≢ 92 → get_or bytes 0 0 ≢ 34 → closes (take m bytes) ≡ closes (take (m - 1) (drop 1 bytes))
unfolding closes
one [] m h k = closes-nil m ∙ sym (closes-nil (m - 1))
one (c ∷ cs) zero h k = refl
one (c ∷ cs) (suc m) h k = let less : suc m - 1 ≡ m = omega arith in rw less (closes-plain c (take m cs) h k)

two : (bytes : List ℕ) (m : ℕ) → get_or bytes 0 0 ≡ 92 → closes (take m bytes) ≡ closes (take (m - 2) (drop 2 bytes))
unfolding closes
two [] m h = closes-nil m ∙ sym (closes-nil (m - 2))
two (c ∷ cs) zero h = refl
two (c ∷ []) (suc zero) h = closes-alone c h ∙ sym (closes-nil (suc zero - 2))
two (c ∷ []) (suc (suc m)) h = closes-alone c h ∙ sym (closes-nil (suc (suc m) - 2))
two (c ∷ d ∷ cs) (suc zero) h = closes-alone c h
two (c ∷ d ∷ cs) (suc (suc m)) h = let less : suc (suc m) - 2 ≡ m = omega arith in rw less (closes-pair c d (take m cs) h)

at_drop : (bytes : List ℕ) (at : ℕ) → get_or (drop at bytes) 0 0 ≡ get_or bytes at 0
at_drop bytes zero = refl
at_drop [] (suc at) = refl
at_drop (c ∷ cs) (suc at) = at_drop cs at

further : (bytes : List ℕ) (at k : ℕ) → Passes bytes at → ((m : ℕ) → closes (take m (drop at bytes)) ≡ closes (take (m - k) (drop k (drop at bytes)))) → Passes bytes (at + k)
further bytes at k p h = record {
  same = λ n.
      let less : n - at - k ≡ n - (at + k) = omega arith in
      p.same n ∙ h (n - at) ∙ ap (λ (m : ℕ). closes (take m (drop k (drop at bytes)))) less ∙ ap (λ bs. closes (take (n - (at + k)) bs)) (drop-drop k at bytes);
}

pub Passes_one : (bytes : List ℕ) (at : ℕ) → Passes bytes at → get_or bytes at 0 ≢ 92 → get_or bytes at 0 ≢ 34 → Passes bytes (at + 1)
Passes_one bytes at p h k = further bytes at 1 p (λ m. one (drop at bytes) m (λ e. h (sym (at_drop bytes at) ∙ e)) (λ e. k (sym (at_drop bytes at) ∙ e)))

pub Passes_two : (bytes : List ℕ) (at : ℕ) → Passes bytes at → get_or bytes at 0 ≡ 92 → Passes bytes (at + 2)
Passes_two bytes at p h = further bytes at 2 p (λ m. two (drop at bytes) m (at_drop bytes at ∙ h))

closes-here : (bytes : List ℕ) → 0 < length bytes → get_or bytes 0 0 ≡ 34 → closes (take 1 bytes) ≡ true
unfolding closes
closes-here [] h e = absurd (omega arith)
closes-here (c ∷ cs) h e = rw e refl

pub closes_at : (bytes : List ℕ) (at : ℕ) → Passes bytes at → at < length bytes → get_or bytes at 0 ≡ 34 → closes (take (at + 1) bytes) ≡ true
closes_at bytes at p h e =
    let one_more : at + 1 - at ≡ 1 = omega arith in
    let some : 0 < length (drop at bytes) = rw length-drop (omega arith) in
    p.same (at + 1) ∙ ap (λ (m : ℕ). closes (take m (drop at bytes))) one_more ∙ closes-here (drop at bytes) some (at_drop bytes at ∙ e)

pub closes_never : (bytes : List ℕ) (at n : ℕ) → Passes bytes at → length bytes ≤ at → closes (take n bytes) ≡ false
closes_never bytes at n p h = p.same n ∙ ap (λ bs. closes (take (n - at) bs)) (drop_all at bytes h) ∙ closes-nil (n - at)

-- a string closes once
pub closes-quote : (d : ℕ) (cs : List ℕ) → closes (34 ∷ d ∷ cs) ≡ false
unfolding closes
closes-quote d cs = refl

-- what the first two bytes say of the others
data Goes (a c : ℕ) (u : List ℕ) : Type 0 where
  both : a ≡ 92 → closes u ≡ true → Goes a c u
  first : a ≢ 92 → a ≢ 34 → closes (c ∷ u) ≡ true → Goes a c u

goes : (a c : ℕ) (u : List ℕ) → closes (a ∷ c ∷ u) ≡ true → Goes a c u
unfolding closes
goes a c u h = elim (eqb_tells a 92) [
  | inl is ↦ both is.1 (rw is.0 at h)
  | inr other ↦ elim (eqb_tells a 34) [
    | inl quote ↦ absurd (let no : false ≡ true = rw (other.0, quote.0) at h in cc)
    | inr plain ↦ first other.1 plain.1 (rw (other.0, plain.0) at h)
  ]
]

closes-last : (a : ℕ) → closes (a ∷ []) ≡ true → a ≡ 34
unfolding closes
closes-last a h = eqb-true a 34 h

closes-none : closes [] ≡ true → ⊥
unfolding closes
closes-none h = cc

pub closes_once : (u v t w : List ℕ) → u ++ v ≡ t ++ w → closes u ≡ true → closes t ≡ true → length u ≤ length t
closes_once [] v t w e h k = omega arith
closes_once (a ∷ u) v [] w e h k = absurd (closes-none k)
closes_once (a ∷ []) v (b ∷ t) w e h k = omega arith
closes_once (a ∷ c ∷ u) v (b ∷ []) w e h k =
    let same : a ≡ b = cc in
    let quote : a ≡ 34 = same ∙ closes-last b k in
    absurd (let no : false ≡ true = sym (closes-quote c u) ∙ subst (λ y. closes (y ∷ c ∷ u) ≡ true) quote h in cc)
closes_once (a ∷ c ∷ u) v (b ∷ d ∷ t) w e h k =
    let same : b ≡ a = cc in
    let next : d ≡ c = cc in
    let rest : u ++ v ≡ t ++ w = cc in
    elim (goes a c u h) [
      | both p x ↦ elim (goes b d t k) [
        | both q y ↦ let less : length u ≤ length t = closes_once u v t w rest x y in omega arith
        | first q r y ↦ absurd (q (same ∙ p))
      ]
      | first p r x ↦ elim (goes b d t k) [
        | both q y ↦ absurd (p (sym same ∙ q))
        | first q s y ↦ let whole : (c ∷ u) ++ v ≡ (d ∷ t) ++ w = cc in let less : length (c ∷ u) ≤ length (d ∷ t) = closes_once (c ∷ u) v (d ∷ t) w whole x y in omega arith
      ]
    ]

-- a string's last byte is a quote
pub last_more : (a : ℕ) (cs : List ℕ) → 0 < length cs → get_or (a ∷ cs) (length (a ∷ cs) - 1) 0 ≡ get_or cs (length cs - 1) 0
last_more a cs h = let next : length (a ∷ cs) - 1 ≡ suc (length cs - 1) = omega arith in rw next refl

pub closes_last : (cs : List ℕ) → closes cs ≡ true → (0 < length cs) × (get_or cs (length cs - 1) 0 ≡ 34)
closes_last [] h = absurd (closes-none h)
closes_last (a ∷ []) h = (omega arith, closes-last a h)
closes_last (a ∷ c ∷ u) h = elim (goes a c u h) [
  | both p x ↦ let end = closes_last u x in (omega arith, last_more a (c ∷ u) (omega arith) ∙ last_more c u end.0 ∙ end.1)
  | first p r x ↦ (omega arith, last_more a (c ∷ u) (omega arith) ∙ (closes_last (c ∷ u) x).1)
]
