-- Patterns as regular languages.
use Rattle.std.specs.Prelude.{ℕ, List, [], ◌∷◌, ◌++◌}
use Rattle.std.specs.List.{flat_map}
use Rattle.sc_pattern.specs.declared.part.Part.{Part}
use Rattle.sc_pattern.specs.declared.part.Part.TheVariants.{Star, Char}
use Rattle.sc_smtlib_forms.specs.Forms.{plain, with_one}
use Rattle.sc_smtlib_forms.specs.Characters.{text_character}
use Rattle.sc_smtlib_forms.specs.declared.form.Form.TheVariants as form

-- just these characters one after the other
abbrev pub run_text : List ℕ → List ℕ
run_text cs = with_one form.Characters (flat_map text_character cs)

-- a run, where it has characters
abbrev pub ended : List ℕ → List (List ℕ)
ended [] = []
ended (c ∷ cs) = run_text (c ∷ cs) ∷ []

-- and then a star
abbrev pub with_star : List ℕ → List (List ℕ)
with_star run = ended run ++ plain form.AnyText ∷ []

-- the pieces of a pattern, behind these characters: each star is one, and each run of characters
abbrev pub pieces : List ℕ → List Part → List (List ℕ)
pieces run [] = ended run
pieces run (Star ∷ ps) = with_star run ++ pieces [] ps
pieces run (Char c ∷ ps) = pieces (run ++ c ∷ []) ps

abbrev pub spaced : List (List ℕ) → List ℕ
spaced = flat_map (λ t. 32 ∷ t)

-- pieces one after the other
abbrev pub sequence : List (List ℕ) → List ℕ
sequence [] = run_text []
sequence (p ∷ []) = p
sequence (p ∷ q ∷ ps) = with_one form.Sequence (spaced (p ∷ q ∷ ps))

unfoldable pub pattern_text : List Part → List ℕ
pattern_text ps = sequence (pieces [] ps)
