-- The tokens with which a primary expression begins.
use Rattle.std.proofs.Common.{◌≡◌, ℕ, List, codes, Bool, true, false, refl}
use Rattle.std.specs.Str.{bytes_eq}
use Rattle.std.proofs.lemmas.Slice.Eq.{bytes_eq-Decides}
use Rattle.sc_ast.specs.declared.place.Place.{Place}
use Rattle.sc_names.specs.Names.{is_ident}
use Rattle.sc_lexemes.specs.declared.lexeme.Lexeme.{Lexeme}
use Rattle.sc_lexemes.specs.declared.lexeme.Shape.TheVariants.{Word}
use Rattle.sc_lexemes.specs.Lexemes.{Is, Lacks, starts}

-- of the words that aren't identifiers `true` and `false` alone
second : (w : List ℕ) (a b : Bool) → bytes_eq w (codes "true") ≡ a → bytes_eq w (codes "false") ≡ b → is_ident w ≡ false → starts (Word w) ≡ true → (w ≡ codes "true" → ⊥) → w ≡ codes "false"
unfolding starts
second w true b e f i s n = absurd (n ((bytes_eq-Decides w (codes "true")).0 e))
second w false true e f i s n = (bytes_eq-Decides w (codes "false")).0 f
second w false false e f i s n = let t : false ≡ true = rw (i, e, f) at s in cc

pub is_false : (ts : List Lexeme) (i : ℕ) (p : Place) (w : List ℕ) → Is ts i p (Word w) → starts (Word w) ≡ true → is_ident w ≡ false → Lacks ts i (Word (codes "true")) → Is ts i p (Word (codes "false"))
is_false ts i p w h s e l =
    let other : w ≡ codes "true" → ⊥ = λ t. l p (let h' : Is ts i p (Word w) = h in rw t at h') in
    let f : w ≡ codes "false" = second w _ _ refl refl e s other in
    rw f at h
