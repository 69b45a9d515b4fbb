-- The patterns that are put are those which closed terms ask of strings.
use Rattle.std.proofs.Common.{◌≡◌, ◌↔◌, ◌⊎◌, ◌++◌, inl, inr, Bool, true, false, cond, List, [], ◌∷◌, Option, Some, None, refl, sym, ap, ◌∙◌, subst}
use Rattle.std.proofs.lemmas.Bool.{eqb-true}
use Rattle.std.specs.List.{list_any}
use Rattle.sc_laws.proofs.BoolLaws.{and_first, and_second}
use Rattle.sc_lists.proofs.MemberLaws.{Has-left, Has-last, Has-push}
use Rattle.sc_laws.proofs.OptionLaws.{same_some}
use Rattle.sc_lists.specs.Members.{Has}
use Rattle.sc_pattern.specs.declared.part.Part.{Part}
use Rattle.sc_pattern.specs.declared.part.Part.TheVariants.{Star, Char}
use Rattle.sc_schema.specs.declared.declarations.Env.{Env}
use Rattle.sc_schema.specs.Declarations.{Declarations}
use Rattle.sc_sorts.specs.declared.node.UnaryOp.TheVariants.{Like}
use Rattle.sc_terms.specs.Trees.{Tree, one}
use Rattle.sc_rule_laws.specs.Strings.{Pattern, asked_of}
use Rattle.sc_rule_laws.proofs.MemberLaws.{any_first}
use Rattle.sc_footprint.specs.Closure.{Closed}
use Rattle.sc_model_laws.specs.Texts.{ArePatterns}
use Rattle.sc_model_names.specs.Patterns.{same_part, same_pattern, put_pattern, put_if, put_patterns}

same_part_true : (a b : Part) → same_part a b ≡ true → a ≡ b
same_part_true Star Star e = refl
same_part_true (Char c) (Char d) e = ap Char (eqb-true c d e)
same_part_true Star (Char d) e = absurd cc
same_part_true (Char c) Star e = absurd cc

same_pattern_true : (p q : Pattern) → same_pattern p q ≡ true → p ≡ q
same_pattern_true [] [] e = refl
same_pattern_true (a ∷ p) (b ∷ q) e =
    let part : a ≡ b = same_part_true a b (and_first (same_part a b) (same_pattern p q) e) in
    let rest : p ≡ q = same_pattern_true p q (and_second (same_part a b) (same_pattern p q) e) in
    λ i. part i ∷ rest i
same_pattern_true [] (b ∷ q) e = absurd cc
same_pattern_true (a ∷ p) [] e = absurd cc

-- ---- one pattern

put_old : (qs : List Pattern) (p q : Pattern) → Has qs q → Has (put_pattern qs p) q
put_old qs p q h = by (list_any (same_pattern p) qs) where
  by : (b : Bool) → Has (cond b qs (qs ++ p ∷ [])) q
  by true = h
  by false = Has-left qs (p ∷ []) q h

put_own : (qs : List Pattern) (p : Pattern) → Has (put_pattern qs p) p
put_own qs p = by (list_any (same_pattern p) qs) refl where
  by : (b : Bool) → list_any (same_pattern p) qs ≡ b → Has (cond b qs (qs ++ p ∷ [])) p
  by true e = let other = any_first (same_pattern p) qs e in subst (Has qs) (sym (same_pattern_true p other.found other.passes)) other.there
  by false e = Has-last qs p

put_only : (qs : List Pattern) (p q : Pattern) → Has (put_pattern qs p) q → Has qs q ⊎ (p ≡ q)
put_only qs p q = by (list_any (same_pattern p) qs) where
  by : (b : Bool) → Has (cond b qs (qs ++ p ∷ [])) q → Has qs q ⊎ (p ≡ q)
  by true h = inl h
  by false h = Has-push qs p q h

-- ---- those of some terms

put_if_old : (qs : List Pattern) (o : Option Pattern) (q : Pattern) → Has qs q → Has (put_if qs o) q
put_if_old qs None q h = h
put_if_old qs (Some p) q h = put_old qs p q h

puts_old : (qs : List Pattern) (ts : List Tree) (q : Pattern) → Has qs q → Has (put_patterns qs ts) q
unfolding put_patterns
puts_old qs [] q h = h
puts_old qs (t ∷ ts) q h = puts_old (put_if qs (asked_of t)) ts q (put_if_old qs (asked_of t) q h)

puts_own : (qs : List Pattern) (ts : List Tree) (t : Tree) (p : Pattern) → Has ts t → asked_of t ≡ Some p → Has (put_patterns qs ts) p
unfolding put_patterns
puts_own qs [] t p h e = absurd h
puts_own qs (u ∷ ts) t p (inl is) e =
    puts_old (put_if qs (asked_of u)) ts p (subst (λ (o : Option Pattern). Has (put_if qs o) p) (sym (ap asked_of is ∙ e)) (put_own qs p))
puts_own qs (u ∷ ts) t p (inr later) e = puts_own (put_if qs (asked_of u)) ts t p later e

abbrev IsAsked : List Tree → Pattern → Type 0
IsAsked ts p = (t : Tree) × Has ts t × (asked_of t ≡ Some p)

put_if_only : (qs : List Pattern) (u : Tree) (ts : List Tree) (p : Pattern) (o : Option Pattern) → asked_of u ≡ o → Has (put_if qs o) p → Has qs p ⊎ IsAsked (u ∷ ts) p
put_if_only qs u ts p None e h = inl h
put_if_only qs u ts p (Some q) e h = elim (put_only qs q p h) [
  | inl old ↦ inl old
  | inr own ↦ inr (u, inl refl, e ∙ ap Some own)
]

puts_only : (qs : List Pattern) (ts : List Tree) (p : Pattern) → Has (put_patterns qs ts) p → Has qs p ⊎ IsAsked ts p
unfolding put_patterns
puts_only qs [] p h = inl h
puts_only qs (u ∷ ts) p h = elim (puts_only (put_if qs (asked_of u)) ts p h) [
  | inl here ↦ put_if_only qs u ts p (asked_of u) refl here
  | inr later ↦ inr (later.0, inr later.1, later.2)
]

pattern_is : (t : Tree) (p : Pattern) → asked_of t ≡ Some p → (x : Tree) × (t ≡ one (Like p) x)
pattern_is (one (Like q) x) p e = (x, ap (λ (r : Pattern). one (Like r) x) (same_some e))
pattern_is _ p e = absurd cc

pub patterns_are : (d : Declarations) (env : Env) (goal : Tree) (closed : List Tree) → ((x : Tree) → Has closed x ↔ Closed d env goal x)
    → ArePatterns d env goal (put_patterns [] closed)
patterns_are d env goal closed listed = record {
  asked = λ p x c. puts_own [] closed (one (Like p) x) p ((listed (one (Like p) x)).1 c) refl;
  only = λ p h. elim (puts_only [] closed p h) [
    | inl none ↦ absurd none
    | inr own ↦ (let is = pattern_is own.0 p own.2 in (is.0, subst (Closed d env goal) is.1 ((listed own.0).0 own.1)))
  ];
}
