-- The patterns of a problem: each that a closed term asks is one of them, and there are no more than closed terms.
use Rattle.std.proofs.Common.{◌≡◌, ◌≤◌, ◌+◌, ℕ, zero, suc, Bool, true, false, inl, inr, List, [], ◌∷◌, ◌++◌, length, slice_get, Option, Some, None, cond, refl, sym, ap, ◌∙◌, subst, arith}
use Rattle.std.proofs.lemmas.List.{length-append}
use Rattle.std.specs.List.{list_any}
use Rattle.sc_lists.proofs.MemberLaws.{Has-left, Has-last, Has-from_Contains}
use Rattle.sc_lists.specs.Members.{Has}
use Rattle.sc_pattern.specs.contracts.pattern.PatternPartialEq.TheImpl.{ghosts as same}
use Rattle.sc_pattern.proofs.SameLaws.{pattern_same}
use Rattle.sc_term_laws.proofs.MemberLaws.{any_found}
use Rattle.sc_terms.specs.Trees.{Tree}
use Rattle.sc_footprint.specs.Problems.{Posed, closed_terms}
use Rattle.sc_rule_laws.specs.Strings.{Pattern, asked_of}
use Rattle.th_strings_instances.specs.Patterns.{with_new, with_asked, patterns}

-- ---- patterns that are asked

new_kept : (qs : List Pattern) (o : Option Pattern) (q : Pattern) → Has qs q → Has (with_new qs o) q
new_kept qs None q h = h
new_kept qs (Some r) q h = by (list_any (same.eq r) qs)
  where
    by : (b : Bool) → Has (cond b qs (qs ++ r ∷ [])) q
    by true = h
    by false = Has-left qs (r ∷ []) q h

new_there : (qs : List Pattern) (q : Pattern) → Has (with_new qs (Some q)) q
new_there qs q = by (list_any (same.eq q) qs) refl
  where
    by : (b : Bool) → list_any (same.eq q) qs ≡ b → Has (cond b qs (qs ++ q ∷ [])) q
    by true e =
        let found = any_found (same.eq q) qs e in
        subst (Has qs) (sym (pattern_same q found.0 found.2)) (Has-from_Contains qs found.0 found.1)
    by false e = Has-last qs q

kept_asked : (qs : List Pattern) (ts : List Tree) (q : Pattern) → Has qs q → Has (with_asked qs ts) q
kept_asked qs [] q h = h
kept_asked qs (t ∷ ts) q h = kept_asked (with_new qs (asked_of t)) ts q (new_kept qs (asked_of t) q h)

asked_there : (qs : List Pattern) (ts : List Tree) (t : Tree) (q : Pattern) → Has ts t → asked_of t ≡ Some q → Has (with_asked qs ts) q
asked_there qs [] t q h e = absurd h
asked_there qs (x ∷ ts) t q (inl i) e =
    kept_asked (with_new qs (asked_of x)) ts q (subst (λ (o : Option Pattern). Has (with_new qs o) q) (sym (ap asked_of i ∙ e)) (new_there qs q))
asked_there qs (x ∷ ts) t q (inr h) e = asked_there (with_new qs (asked_of x)) ts t q h e

pub pattern_there : (p : Posed) (t : Tree) (q : Pattern) → Has (closed_terms p) t → asked_of t ≡ Some q → Has (patterns p) q
pattern_there p t q h e = asked_there [] (closed_terms p) t q h e

-- ---- their places

pub place_of : (qs : List Pattern) (q : Pattern) → Has qs q → (i : ℕ) × (slice_get qs i ≡ Some q)
place_of [] q h = absurd h
place_of (r ∷ qs) q (inl e) = (zero, ap Some e)
place_of (r ∷ qs) q (inr h) = let later = place_of qs q h in (suc later.0, later.1)

-- ---- how many there are

one_more : (n : ℕ) → n ≤ n + 1
one_more n = omega arith

new_length : (qs : List Pattern) (o : Option Pattern) → length (with_new qs o) ≤ length qs + 1
new_length qs None = one_more (length qs)
new_length qs (Some q) = by (list_any (same.eq q) qs)
  where
    by : (b : Bool) → length (cond b qs (qs ++ q ∷ [])) ≤ length qs + 1
    by true = one_more (length qs)
    by false = let size = length-append qs (q ∷ []) in omega (arith, size)

asked_length : (qs : List Pattern) (ts : List Tree) → length (with_asked qs ts) ≤ length qs + length ts
asked_length qs [] = omega arith
asked_length qs (t ∷ ts) =
    let rest = asked_length (with_new qs (asked_of t)) ts in
    let new = new_length qs (asked_of t) in
    omega (arith, rest, new)

pub patterns_length : (p : Posed) → length (patterns p) ≤ length (closed_terms p)
patterns_length p = let all = asked_length [] (closed_terms p) in omega (arith, all)
