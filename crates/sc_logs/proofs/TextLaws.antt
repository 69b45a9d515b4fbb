-- Laws of texts.
use Rattle.std.proofs.Common.{◌≡◌, ℕ, List, [], ◌∷◌, ◌++◌, map, refl, sym, ap, ◌∙◌, append_assoc, append-nil}
use Rattle.std.specs.Fmt.{decimal}
use Rattle.std.specs.List.{flat_map, join_with_byte}
use Rattle.sc_clauses.specs.declared.step.Instance as instance
use Rattle.sc_clauses.specs.declared.step.Learned as learned
use Rattle.sc_logs.specs.Texts.{spaced, word_text, lit_text, zero_text, instance_words, learned_words}

-- words that are separated by one space
pub join-spaced : (w : List ℕ) (ws : List (List ℕ)) → join_with_byte 32 (w ∷ ws) ≡ w ++ spaced ws
join-spaced w [] = sym (append-nil w)
join-spaced w (x ∷ ws) = ap (λ t. w ++ 32 ∷ t) (join-spaced x ws)

pub flat_map-append : {X : Type 0} (f : X → List ℕ) (xs ys : List X) → flat_map f (xs ++ ys) ≡ flat_map f xs ++ flat_map f ys
flat_map-append f [] ys = refl
flat_map-append f (x ∷ xs) ys = ap (λ t. f x ++ t) (flat_map-append f xs ys) ∙ sym (append_assoc (f x) (flat_map f xs) (flat_map f ys))

spaced-append : (a b : List (List ℕ)) → spaced (a ++ b) ≡ spaced a ++ spaced b
spaced-append a b = flat_map-append (λ w. 32 ∷ w) a b

pub instance_written : (old : List ℕ) (i : instance.Instance) → ((old ++ 116 ∷ 32 ∷ []) ++ i.rule) ++ spaced (map word_text i.words) ≡ old ++ join_with_byte 32 ((116 ∷ []) ∷ instance_words i)
instance_written old i =
    append_assoc (old ++ 116 ∷ 32 ∷ []) i.rule (spaced (map word_text i.words))
    ∙ append_assoc old (116 ∷ 32 ∷ []) (i.rule ++ spaced (map word_text i.words))
    ∙ ap (λ t. old ++ t) (sym (join-spaced (116 ∷ []) (i.rule ∷ map word_text i.words)))

learned_spaced : (lits hints : List (List ℕ)) → spaced (lits ++ zero_text ∷ (hints ++ zero_text ∷ [])) ≡ spaced lits ++ 32 ∷ 48 ∷ (spaced hints ++ 32 ∷ 48 ∷ [])
learned_spaced lits hints =
    spaced-append lits (zero_text ∷ (hints ++ zero_text ∷ []))
    ∙ ap (λ t. spaced lits ++ 32 ∷ 48 ∷ t) (spaced-append hints (zero_text ∷ []))

pub learned_written : (old : List ℕ) (l : learned.Learned) → ((((old ++ 108 ∷ []) ++ spaced (map lit_text l.clause)) ++ 32 ∷ 48 ∷ []) ++ spaced (map decimal l.hints)) ++ 32 ∷ 48 ∷ [] ≡ old ++ join_with_byte 32 ((108 ∷ []) ∷ learned_words l)
learned_written old l =
    let flat : ((((old ++ 108 ∷ []) ++ spaced (map lit_text l.clause)) ++ 32 ∷ 48 ∷ []) ++ spaced (map decimal l.hints)) ++ 32 ∷ 48 ∷ []
    ≡ old ++ 108 ∷ (spaced (map lit_text l.clause) ++ 32 ∷ 48 ∷ (spaced (map decimal l.hints) ++ 32 ∷ 48 ∷ [])) = simp append_assoc in
    flat
    ∙ ap (λ t. old ++ 108 ∷ t) (sym (learned_spaced (map lit_text l.clause) (map decimal l.hints)))
    ∙ ap (λ t. old ++ t) (sym (join-spaced (108 ∷ []) (map lit_text l.clause ++ zero_text ∷ (map decimal l.hints ++ zero_text ∷ []))))
