-- The patterns that closed terms ask, one term after the other, and the literals of matches.
use Rattle.std.proofs.Common.{◌≡◌, ◌≤◌, ◌+◌, ◌-◌, ◌==◌, ℕ, suc, false, List, ◌∷◌, map, drop, length, slice_get, Option, Some, None, IfSome, refl, sym, ap, ◌∙◌, subst, arith}
use Rattle.std.proofs.Math.Seq.{drop-cons}
use Rattle.std.proofs.lemmas.Bool.Decides.{nat_tests}
use Rattle.std.proofs.lemmas.List.{drop_all}
use Rattle.std.proofs.lemmas.Option.{slice_get_within, get_or_from_slice_get}
use Rattle.sc_clauses.specs.declared.lit.Lit.{Lit}
use Rattle.sc_clauses.specs.Clauses.{positive}
use Rattle.sc_sorts.specs.declared.node.UnaryOp.TheVariants.{Like}
use Rattle.sc_terms.specs.Finding.{IsFound}
use Rattle.sc_terms.specs.Tables.{tree}
use Rattle.sc_terms.specs.Trees.{Tree, one}
use Rattle.sc_footprint.specs.Problems.{Posed, IsPosed, numbered, atom_number, literal, literal_in}
use Rattle.sc_rule_instances.proofs.LiteralLaws.{not_in_table, not_listed}
use Rattle.sc_rule_laws.specs.Strings.{Pattern, asked_of}
use Rattle.th_strings_instances.specs.Patterns.{with_new, with_asked, patterns}

-- ---- closed terms one after the other

number_place : (ns : List ℕ) (place n : ℕ) → numbered ns (place + 1) ≡ Some n → slice_get ns place ≡ Some n
number_place ns place n e =
    let next : place + 1 ≡ suc place = omega arith in
    let some : (suc place == 0) ≡ false = grind (arith, nat_tests) in
    let back : suc place - 1 ≡ place = omega arith in
    let is : numbered ns (suc place) ≡ slice_get ns place = rw some (ap (slice_get ns) back) in
    sym (ap (numbered ns) next ∙ is) ∙ e

-- the closed terms from a place on
rest_at : (p : Posed) (place n : ℕ) → numbered p.closed (place + 1) ≡ Some n → map (tree p.nodes) (drop place p.closed) ≡ tree p.nodes n ∷ map (tree p.nodes) (drop (place + 1) p.closed)
rest_at p place n e =
    let there = number_place p.closed place n e in
    let next : suc place ≡ place + 1 = omega arith in
    ap (map (tree p.nodes)) (drop-cons p.closed place 0 (slice_get_within p.closed place n there))
    ∙ ap (λ (k : ℕ). tree p.nodes k ∷ map (tree p.nodes) (drop (suc place) p.closed)) (get_or_from_slice_get p.closed place n 0 there)
    ∙ ap (λ (k : ℕ). tree p.nodes n ∷ map (tree p.nodes) (drop k p.closed)) next

pub asked_more : (p : Posed) (place n : ℕ) (asked : Option Pattern) (qs rs : List Pattern) → with_asked qs (map (tree p.nodes) (drop place p.closed)) ≡ patterns p → numbered p.closed (place + 1) ≡ Some n
    → asked ≡ asked_of (tree p.nodes n) → rs ≡ with_new qs asked → with_asked rs (map (tree p.nodes) (drop (place + 1) p.closed)) ≡ patterns p
asked_more p place n asked qs rs so_far e f g =
    ap (λ (vs : List Pattern). with_asked vs (map (tree p.nodes) (drop (place + 1) p.closed))) (g ∙ ap (with_new qs) f) ∙ sym (ap (with_asked qs) (rest_at p place n e)) ∙ so_far

pub asked_all : (p : Posed) (place : ℕ) (qs : List Pattern) → with_asked qs (map (tree p.nodes) (drop place p.closed)) ≡ patterns p → length p.closed ≤ place → qs ≡ patterns p
asked_all p place qs so_far past = sym (ap (λ (ns : List ℕ). with_asked qs (map (tree p.nodes) ns)) (drop_all place p.closed past)) ∙ so_far

-- ---- literals of matches that are looked up

found_by : (p : Posed) (t : Tree) (found : Option ℕ) (l : Lit) → IsPosed p → IsFound p.nodes t found → IfSome found (λ n. l ≡ literal_in p (tree p.nodes n)) → (found ≡ None → l ≡ positive 0)
    → literal_in p t ≡ positive (atom_number p t) → l ≡ literal_in p t
found_by p t (Some n) l posed found some none is = some ∙ ap (literal_in p) found.is
found_by p t None l posed found some none is = none refl ∙ sym (is ∙ ap positive (not_listed p t (not_in_table p t posed found)))

-- of a match that isn't in the table the number is 0
pub found_like : (p : Posed) (q r : Pattern) (a : Tree) (found : Option ℕ) (l : Lit) → IsPosed p → r ≡ q → IsFound p.nodes (one (Like r) a) found → IfSome found (λ n. l ≡ literal_in p (tree p.nodes n))
    → (found ≡ None → l ≡ positive 0) → l ≡ literal_in p (one (Like q) a)
unfolding literal
found_like p q r a found l posed e is some none = found_by p (one (Like q) a) found l posed (subst (λ (s : Pattern). IsFound p.nodes (one (Like s) a) found) e is) some none refl
