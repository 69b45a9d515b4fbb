-- Sets as a script writes them.
use Rattle.std.specs.Prelude.{ℕ, List, [], ◌∷◌, ◌++◌}
use Rattle.std.specs.List.{flat_map}
use Rattle.sc_smtlib_forms.specs.Forms.{plain, with_one, with_two}
use Rattle.sc_smtlib_forms.specs.declared.form.Form.TheVariants as form

-- a set of a sort, of the texts of its members
abbrev pub set_text : List ℕ → List (List ℕ) → List ℕ
set_text k [] = with_one form.EmptySet k
set_text k (a ∷ []) = with_one form.Singleton a
set_text k (a ∷ b ∷ cs) = with_two form.Union a (set_text k (b ∷ cs))

-- a union up to its second set, and behind it
abbrev pub begun : List ℕ → List ℕ
begun a = with_one form.UnionWith a

abbrev pub ended : List ℕ → List ℕ
ended a = plain form.UnionEnd

-- a set of the last of its members and the others
abbrev pub around : List (List ℕ) → List ℕ → List ℕ
around others last = flat_map begun others ++ (with_one form.Singleton last ++ flat_map ended others)
