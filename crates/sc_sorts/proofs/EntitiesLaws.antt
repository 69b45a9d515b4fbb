-- The entities of a type, one after the other, and which of them are listed.
use Rattle.std.proofs.Common.{◌≡◌, ℕ, Bool, true, false, cond, List, [], ◌∷◌, ◌++◌, length, append_assoc, append-nil, arith, refl, sym, ap, ◌∙◌}
use Rattle.std.specs.Str.{bytes_eq}
use Rattle.sc_names.specs.declared.uid.Uid.{Uid}
use Rattle.sc_schema.specs.Declarations.{Declarations, action_uids, is_action_type, kind_of}
use Rattle.sc_sorts.specs.Entities.{of_type_name, uids_of, choices_of}

first_by : (b : Bool) (u : Uid) (us : List Uid) → cond b (u ∷ us) us ≡ cond b (u ∷ []) [] ++ us
first_by true u us = refl
first_by false u us = refl

pub of_first : (name : List ℕ) (u : Uid) (us : List Uid) → of_type_name name (u ∷ us) ≡ of_type_name name (u ∷ []) ++ of_type_name name us
of_first name u us = first_by (bytes_eq name u.type_name) u (of_type_name name us)

-- so far, then one more, then the rest
pub goes_on : (name : List ℕ) (so_far : List Uid) (u : Uid) (rest later new whole : List Uid) → rest ≡ u ∷ later → new ≡ so_far ++ of_type_name name (u ∷ []) → so_far ++ of_type_name name rest ≡ whole
    → new ++ of_type_name name later ≡ whole
goes_on name so_far u rest later new whole e f h =
    ap (λ (us : List Uid). us ++ of_type_name name later) f
    ∙ append_assoc so_far (of_type_name name (u ∷ [])) (of_type_name name later)
    ∙ ap (λ (us : List Uid). so_far ++ us) (sym (of_first name u later))
    ∙ ap (λ (us : List Uid). so_far ++ of_type_name name us) (sym e)
    ∙ h

pub at_end : (name : List ℕ) (so_far rest whole : List Uid) → length rest ≡ 0 → so_far ++ of_type_name name rest ≡ whole → so_far ≡ whole
at_end name so_far [] whole e h = sym (append-nil so_far) ∙ h
at_end name so_far (u ∷ us) whole e h = absurd (omega arith)

-- ---- what is listed of a type

choices_by : Declarations → List ℕ → Bool → List Uid
choices_by s name b = cond b (of_type_name name (action_uids s)) (uids_of (kind_of s name))

pub action_choices : (s : Declarations) (name : List ℕ) → is_action_type s name ≡ true → choices_of s name ≡ of_type_name name (action_uids s)
unfolding choices_by
action_choices s name e = ap (choices_by s name) e

pub kind_choices : (s : Declarations) (name : List ℕ) → is_action_type s name ≡ false → choices_of s name ≡ uids_of (kind_of s name)
unfolding choices_by
kind_choices s name e = ap (choices_by s name) e
