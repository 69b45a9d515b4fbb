-- The goal of policies that are compiled.
use Rattle.std.proofs.Common.{◌≡◌, ℕ, true, false, List, map, Option, Some, None, IsSome, IfSome, refl, sym, ap, subst, ◌∙◌}
use Rattle.std.specs.Option.{option_map, option_and_then}
use Rattle.sc_terms.proofs.TableLaws.{stands_later}
use Rattle.sc_question.specs.declared.question.Question.{Question}
use Rattle.sc_sorts.specs.declared.node.Node.{Node}
use Rattle.sc_terms.specs.Trees.{Tree}
use Rattle.sc_terms.specs.Tables.{tree, Keeps, StandsFor}
use Rattle.sc_terms.specs.Folds.{not_term}
use Rattle.sc_symauth.specs.declared.compiled.CompiledPolicy.{CompiledPolicy}
use Rattle.sc_symauth.specs.Standings.{Compiled, allow}
use Rattle.sc_symauth.specs.Numbers.{compiled_at, AreCodes}
use Rattle.sc_symauth.proofs.NumbersLaws.{compiled_same}
use Rattle.sc_goal.specs.Goals.{goal_of}

-- ---- both sets are compiled

abbrev goal_from : Question → Option (List Compiled) → Option (List Compiled) → Option Tree
goal_from q a b = option_and_then (λ (x : List Compiled). option_map (goal_of q x) b) a

pub first_some : (q : Question) (a b : Option (List Compiled)) → IsSome (goal_from q a b) → IsSome a
first_some q None b h = h
first_some q (Some x) b h = refl

pub second_some : (q : Question) (a b : Option (List Compiled)) → IsSome (goal_from q a b) → IsSome b
second_some q None b h = absurd (let clash : false ≡ true = h in cc)
second_some q (Some x) None h = h
second_some q (Some x) (Some y) h = refl

pub both_some : (q : Question) (a b : Option (List Compiled)) → IsSome a → IsSome b → IsSome (goal_from q a b)
both_some q None b h k = h
both_some q (Some x) None h k = k
both_some q (Some x) (Some y) h k = refl

-- the goal of both, where the first set was compiled before the second
pub goal_is : (q r : Question) (s t u : List Node) (ps ps2 qs qs2 : List CompiledPolicy) (a b : Option (List Compiled)) (n : ℕ) → r ≡ q → ps2 ≡ ps → qs2 ≡ qs
    → a ≡ Some (map (compiled_at s) ps) → AreCodes s ps → Keeps s t → b ≡ Some (map (compiled_at t) qs)
    → StandsFor u n (goal_of r (map (compiled_at t) ps2) (map (compiled_at t) qs2)) → IfSome (goal_from q a b) (λ (x : Tree). StandsFor u n x)
goal_is q r s t u ps ps2 qs qs2 a b n asked one two first codes k second h =
    let goal : goal_of r (map (compiled_at t) ps2) (map (compiled_at t) qs2) ≡ goal_of q (map (compiled_at s) ps) (map (compiled_at t) qs) =
    ap (λ x. goal_of x (map (compiled_at t) ps2) (map (compiled_at t) qs2)) asked
    ∙ ap (λ cs. goal_of q cs (map (compiled_at t) qs2)) (ap (map (compiled_at t)) one ∙ compiled_same s t ps k codes)
    ∙ ap (λ cs. goal_of q (map (compiled_at s) ps) (map (compiled_at t) cs)) two in
    subst (λ (o : Option Tree). IfSome o (λ (x : Tree). StandsFor u n x)) (sym (ap (λ o. goal_from q o b) first ∙ ap (goal_from q (Some (map (compiled_at s) ps))) second))
    (subst (StandsFor u n) goal h)

-- ---- connectives

pub not_stands : (s t : List Node) (m n : ℕ) (x : Tree) → StandsFor s m x → StandsFor t n (not_term (tree s m)) → StandsFor t n (not_term x)
not_stands s t m n x h k = record { within = k.within; is = k.is ∙ ap not_term h.is }

-- what joins the first set's decision with a term of the second set, which comes after it
pub two_stand : (f : Tree → Tree → Tree) (g : List Compiled → Tree) (s t u v : List Node) (ps qs : List CompiledPolicy) (a b n : ℕ) → AreCodes s qs → Keeps s t → Keeps t u
    → StandsFor t a (allow (map (compiled_at s) ps)) → StandsFor u b (g (map (compiled_at t) qs)) → StandsFor v n (f (tree u a) (tree u b))
    → StandsFor v n (f (allow (map (compiled_at s) ps)) (g (map (compiled_at s) qs)))
two_stand f g s t u v ps qs a b n codes k j first second whole = record {
  within = whole.within;
  is =
      whole.is ∙ ap (λ (x : Tree). f x (tree u b)) (stands_later t u a (allow (map (compiled_at s) ps)) j first).is
      ∙ ap (f (allow (map (compiled_at s) ps))) (second.is ∙ ap g (compiled_same s t qs k codes));
}
