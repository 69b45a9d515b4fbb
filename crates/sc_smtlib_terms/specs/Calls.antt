-- Calls of the functions and constructors of sorts, on the names of terms. The sort is that of the first term.
use Rattle.std.specs.Prelude.{ℕ, List}
use Rattle.sc_pattern.specs.declared.part.Part.{Part}
use Rattle.sc_sorts.specs.declared.sort.Sort.{Sort}
use Rattle.sc_sorts.specs.Inside.{held_sort}
use Rattle.sc_smtlib_forms.specs.declared.form.Form.{Form}
use Rattle.sc_smtlib_forms.specs.Forms.{with_one, with_two, with_three}
use Rattle.sc_smtlib_forms.specs.Characters.{label_text}
use Rattle.sc_smtlib_forms.specs.declared.form.Form.TheVariants as form
use Rattle.sc_smtlib_terms.specs.Patterns.{pattern_text}
use Rattle.sc_smtlib_terms.specs.Sorts.{number, record_name, option_name, sort_text}
use Rattle.sc_smtlib_terms.specs.Defaults.{default_text}

-- the name of a function of the entities of a sort
abbrev pub function_name : List Sort → Form → Sort → List ℕ
function_name ds f k = with_one f (number ds k)

abbrev pub ancestors_name : List Sort → Sort → Sort → List ℕ
ancestors_name ds k own = with_two form.AncestorsName (number ds k) (number ds own)

abbrev pub call : List Sort → Form → Sort → List ℕ → List ℕ
call ds f k a = with_two form.Call (function_name ds f k) a

abbrev pub ancestors_call : List Sort → Sort → Sort → List ℕ → List ℕ
ancestors_call ds k own a = with_two form.Call (ancestors_name ds k own) a

abbrev pub tag_call : List Sort → Sort → List ℕ → List ℕ → List ℕ
tag_call ds k a b = with_three form.TagCall (function_name ds form.TagName k) a b

abbrev pub field_call : List Sort → List ℕ → Sort → List ℕ → List ℕ
field_call ds name k a = with_three form.Field (record_name ds k) (label_text name) a

abbrev pub present_call : List Sort → Sort → List ℕ → List ℕ
present_call ds k a = with_two form.IsPresent (option_name ds k) a

abbrev pub held_call : List Sort → Sort → List ℕ → List ℕ
held_call ds k a = with_three form.Held (option_name ds k) a (default_text ds (held_sort k))

abbrev pub common_call : List Sort → Sort → List ℕ → List ℕ → List ℕ
common_call ds k a b = with_three form.Common a b (sort_text ds k)

abbrev pub like_call : List Part → List ℕ → List ℕ
like_call p a = with_two form.Like a (pattern_text p)
