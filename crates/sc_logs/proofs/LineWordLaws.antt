-- The words that a line begins with.
use Rattle.std.proofs.Common.{◌≡◌, ◌==◌, ℕ, zero, suc, List, [], ◌∷◌, ◌++◌, true, false, not, refl, ap, ◌∙◌, arith}
use Rattle.std.specs.List.{slice_split, All}
use Rattle.std.proofs.lemmas.Bool.{and_parts, not-true}
use Rattle.std.proofs.lemmas.List.Splits.{slice_split_none, slice_split_at}
use Rattle.sc_logs.specs.Texts.{lacks}

all_lack : (byte : ℕ) (bytes : List ℕ) → lacks byte bytes ≡ true → All (λ b. (b == byte) ≡ false) bytes
all_lack byte [] e k d h = absurd (omega arith)
all_lack byte (b ∷ bytes) e zero d h = not-true (b == byte) (and_parts (not (b == byte)) (lacks byte bytes) e).0
all_lack byte (b ∷ bytes) e (suc k) d h = all_lack byte bytes (and_parts (not (b == byte)) (lacks byte bytes) e).1 k d (omega arith)

-- a word that a space ends
pub word_cut : (bytes word later : List ℕ) → bytes ≡ word ++ 32 ∷ later → lacks 32 word ≡ true → slice_split (λ b. b == 32) bytes ≡ word ∷ slice_split (λ b. b == 32) later
word_cut bytes word later is free = ap (slice_split (λ b. b == 32)) is ∙ slice_split_at (λ b. b == 32) word 32 later (all_lack 32 word free) refl

-- the last word
pub word_last : (bytes : List ℕ) → lacks 32 bytes ≡ true → slice_split (λ b. b == 32) bytes ≡ bytes ∷ []
word_last bytes free = slice_split_none (λ b. b == 32) bytes (all_lack 32 bytes free)
