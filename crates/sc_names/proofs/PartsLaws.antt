-- A text is a path where its parts are identifiers.
use Rattle.std.proofs.Common.{◌≡◌, ◌↔◌, ℕ, ◌==◌, List, [], ◌∷◌, ◌++◌, ◌||◌, Bool, true, false, cond, IsTrue, refl, sym, ap, subst, ◌∙◌, eqb-true}
use Rattle.std.specs.Prelude.{codes, not}
use Rattle.std.specs.Int.{is_in_range}
use Rattle.sc_names.specs.Paths.{IsBadAt}
use Rattle.sc_names.proofs.BadNameLaws.{not_path_IsBadAt}
use Rattle.std.specs.List.{list_all}
use Rattle.std.proofs.lemmas.Bool.{and_parts}
use Rattle.sc_names.specs.Names.{begins_word, goes_on_word, is_word, is_reserved, is_ident}
use Rattle.sc_names.specs.Paths.{IsPath, ident, joined, is_separator, with_first, parts, is_path}

-- ---- a path's parts are identifiers

no_colon : (c : ℕ) → goes_on_word c ≡ true → (c == 58) ≡ false
no_colon c h = step (c == 58) (eqb-true c 58) h where
  step : (b : Bool) → (b ≡ true → c ≡ 58) → goes_on_word c ≡ true → b ≡ false
  step true e h = let no : false ≡ true = subst (λ d. goes_on_word d ≡ true) (e refl) h in absurd (cc)
  step false e h = refl

apart : (c d : ℕ) → goes_on_word c ≡ true → is_separator c d ≡ false
apart c d h = rw (no_colon c h) refl

parts-next : (c d : ℕ) (cs : List ℕ) → goes_on_word c ≡ true → parts (c ∷ d ∷ cs) ≡ with_first c (parts (d ∷ cs))
unfolding parts
parts-next c d cs h = rw (apart c d h) refl

-- a word is one part
parts-word : (w : List ℕ) → list_all goes_on_word w ≡ true → parts w ≡ w ∷ []
unfolding parts
parts-word [] h = refl
parts-word (c ∷ []) h = refl
parts-word (c ∷ d ∷ cs) h =
    let of_first = and_parts (goes_on_word c) (list_all goes_on_word (d ∷ cs)) h in
    parts-next c d cs of_first.0 ∙ ap (with_first c) (parts-word (d ∷ cs) of_first.1)

parts-joined : (w p : List ℕ) → list_all goes_on_word w ≡ true → parts (w ++ (codes "::" ++ p)) ≡ w ∷ parts p
unfolding parts
parts-joined [] p h = refl
parts-joined (c ∷ []) p h = parts-next c 58 (58 ∷ p) (and_parts (goes_on_word c) true h).0
parts-joined (c ∷ d ∷ cs) p h =
    let of_first = and_parts (goes_on_word c) (list_all goes_on_word (d ∷ cs)) h in
    parts-next c d (cs ++ (codes "::" ++ p)) of_first.0 ∙ ap (with_first c) (parts-joined (d ∷ cs) p of_first.1)

one_of_more : (d a b u : Bool) → ((a || b) || u) ≡ true → (((d || a) || b) || u) ≡ true
one_of_more true a b u h = refl
one_of_more false a b u h = h

pub goes_on : (c : ℕ) → begins_word c ≡ true → goes_on_word c ≡ true
goes_on c h = one_of_more (is_in_range 48 57 c) (is_in_range 65 90 c) (is_in_range 97 122 c) (c == 95) h

word_goes_on : (w : List ℕ) → is_ident w ≡ true → list_all goes_on_word w ≡ true
word_goes_on [] h = absurd cc
word_goes_on (c ∷ cs) h =
    let word = and_parts (begins_word c) (list_all goes_on_word cs) (and_parts (is_word (c ∷ cs)) (not (is_reserved (c ∷ cs))) h).0 in
    rw (goes_on c word.0, word.1) refl

path_parts : (t : List ℕ) → IsPath t → is_path t ≡ true
path_parts _ (ident w h) = rw (parts-word w (word_goes_on w h), h) refl
path_parts _ (joined w p h path) = rw (parts-joined w p (word_goes_on w h), h) (path_parts p path)

-- ---- and texts whose parts are identifiers are paths

abbrev joined_by : List (List ℕ) → List ℕ
joined_by [] = []
joined_by (p ∷ []) = p
joined_by (p ∷ q ∷ ps) = p ++ (codes "::" ++ joined_by (q ∷ ps))

record Begins (ps : List (List ℕ)) : Type 0 where
  first : List ℕ
  rest : List (List ℕ)
  is : ps ≡ first ∷ rest

begins-with_first : (c : ℕ) (ps : List (List ℕ)) → Begins ps → Begins (with_first c ps)
begins-with_first c ps b = record { first = c ∷ b.first; rest = b.rest; is = ap (with_first c) b.is }

begins-either : (b : Bool) (ps qs : List (List ℕ)) → Begins qs → Begins (cond b ([] ∷ ps) qs)
begins-either true ps qs h = record { first = []; rest = ps; is = refl }
begins-either false ps qs h = h

begins : (t : List ℕ) → Begins (parts t)
unfolding parts
begins [] = record { first = []; rest = []; is = refl }
begins (c ∷ []) = record { first = c ∷ []; rest = []; is = refl }
begins (c ∷ d ∷ cs) = begins-either (is_separator c d) (parts cs) (with_first c (parts (d ∷ cs))) (begins-with_first c (parts (d ∷ cs)) (begins (d ∷ cs)))

joined_first : (c : ℕ) (p : List ℕ) (ps : List (List ℕ)) → joined_by ((c ∷ p) ∷ ps) ≡ c ∷ joined_by (p ∷ ps)
joined_first c p [] = refl
joined_first c p (q ∷ qs) = refl

joined-with_first : (c : ℕ) (ps : List (List ℕ)) → Begins ps → joined_by (with_first c ps) ≡ c ∷ joined_by ps
joined-with_first c ps b = rw b.is (joined_first c b.first b.rest)

joined-separated : (ps : List (List ℕ)) → Begins ps → joined_by ([] ∷ ps) ≡ codes "::" ++ joined_by ps
joined-separated ps b = rw b.is refl

joined-step : (c d : ℕ) (cs : List ℕ) (b : Bool) → is_separator c d ≡ b → joined_by (parts cs) ≡ cs → joined_by (parts (d ∷ cs)) ≡ d ∷ cs
    → joined_by (cond b ([] ∷ parts cs) (with_first c (parts (d ∷ cs)))) ≡ c ∷ d ∷ cs
joined-step c d cs true e after rest =
    let colons = and_parts (c == 58) (d == 58) e in
    let first : c ≡ 58 = eqb-true c 58 colons.0 in
    let second : d ≡ 58 = eqb-true d 58 colons.1 in
    joined-separated (parts cs) (begins cs) ∙ (ap (λ xs. codes "::" ++ xs) after ∙ rw (first, second) refl)
joined-step c d cs false e after rest = joined-with_first c (parts (d ∷ cs)) (begins (d ∷ cs)) ∙ ap (λ xs. c ∷ xs) rest

joined-parts : (t : List ℕ) → joined_by (parts t) ≡ t
unfolding parts
joined-parts [] = refl
joined-parts (c ∷ []) = refl
joined-parts (c ∷ d ∷ cs) = joined-step c d cs (is_separator c d) refl (joined-parts cs) (joined-parts (d ∷ cs))

path-joined : (p : List ℕ) (ps : List (List ℕ)) → list_all is_ident (p ∷ ps) ≡ true → IsPath (joined_by (p ∷ ps))
path-joined p [] h = ident p (and_parts (is_ident p) true h).0
path-joined p (q ∷ qs) h =
    let each = and_parts (is_ident p) (list_all is_ident (q ∷ qs)) h in
    joined p (joined_by (q ∷ qs)) each.0 (path-joined q qs each.1)

parts_path : (t : List ℕ) → is_path t ≡ true → IsPath t
parts_path t h =
    let b = begins t in
    subst IsPath (joined-parts t) (subst (λ ps. IsPath (joined_by ps)) (sym b.is) (path-joined b.first b.rest (subst (λ ps. list_all is_ident ps ≡ true) b.is h)))

pub is_path_decides : (t : List ℕ) → IsTrue (is_path t) ↔ IsPath t
is_path_decides t = (parts_path t, path_parts t)

pub is_path_when : (t : List ℕ) → IsPath t → true ≡ is_path t
is_path_when t h = sym (path_parts t h)

pub is_path_not : (t : List ℕ) (at : ℕ) → IsBadAt t at → false ≡ is_path t
is_path_not t at h = step (is_path t) (parts_path t) where
  step : (b : Bool) → (b ≡ true → IsPath t) → false ≡ b
  step true path = absurd (not_path_IsBadAt t at h (path refl))
  step false path = refl
