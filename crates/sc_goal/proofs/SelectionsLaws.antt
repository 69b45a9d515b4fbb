-- Some of the policies of a set.
use Rattle.std.proofs.Common.{◌≡◌, inl, inr, ℕ, Bool, true, false, List, [], ◌∷◌, length, replicate, Contains, Option, Some, None, IsSome, IfSome, refl, sym, ap, subst, ◌∙◌}
use Rattle.std.specs.List.{AllByRecursion}
use Rattle.std.specs.Option.{option_map, option_and_then}
use Rattle.std.proofs.lemmas.List.Elements.{Contains-append_left, Contains-append_right, Contains-append_cases}
use Rattle.sc_lists.proofs.ListLaws.{contains_nothing}
use Rattle.sc_names.specs.declared.uid.Uid.{Uid}
use Rattle.sc_ast.specs.declared.policy.Policy.{Policy}
use Rattle.sc_ast.specs.Literals.{policy_uids, literals as uids_of}
use Rattle.sc_schema.specs.declared.declarations.Env.{Env}
use Rattle.sc_schema.specs.Declarations.{Declarations}
use Rattle.sc_sorts.specs.declared.node.Node.{Node}
use Rattle.sc_terms.specs.Trees.{Tree}
use Rattle.sc_terms.specs.Tables.{StandsFor}
use Rattle.sc_symauth.specs.Standings.{Compiled}
use Rattle.sc_question.specs.declared.question.Question.{Question}
use Rattle.sc_goal.specs.Goals.{goal_of, goal_term, compiled, all_compiled, all_by}
use Rattle.sc_goal.specs.Selections.{selected}
use Rattle.sc_goal.proofs.PosedLaws.{both_come}

-- where all are marked, all are selected
pub all_selected : {X : Type 0} (xs : List X) → selected (replicate (length xs) true) xs ≡ xs
all_selected [] = refl
all_selected (x ∷ xs) = ap (λ (ys : List _). x ∷ ys) (all_selected xs)

-- what holds of all holds of those that are selected
pub all_of_selected : {X : Type 0} (P : X → Type 0) (marks : List Bool) (xs : List X) → AllByRecursion P xs → AllByRecursion P (selected marks xs)
all_of_selected P [] xs h = tt
all_of_selected P (m ∷ ms) [] h = tt
all_of_selected P (true ∷ ms) (x ∷ xs) h = (h.0, all_of_selected P ms xs h.1)
all_of_selected P (false ∷ ms) (x ∷ xs) h = all_of_selected P ms xs h.1

-- the uids that they write are among those of all
pub selected_uids : (marks : List Bool) (ps : List Policy) (u : Uid) → Contains (uids_of (selected marks ps)) u → Contains (uids_of ps) u
selected_uids [] ps u h = absurd (contains_nothing u h)
selected_uids (m ∷ ms) [] u h = h
selected_uids (true ∷ ms) (p ∷ ps) u h =
    elim (Contains-append_cases (policy_uids p) (uids_of (selected ms ps)) u h)
    [ inl own ↦ Contains-append_left (policy_uids p) (uids_of ps) u own | inr later ↦ Contains-append_right (policy_uids p) (uids_of ps) u (selected_uids ms ps u later) ]
selected_uids (false ∷ ms) (p ∷ ps) u h = Contains-append_right (policy_uids p) (uids_of ps) u (selected_uids ms ps u h)

-- where all are compiled, they are
halves : (o : Option Compiled) (r : Option (List Compiled)) → IsSome (option_and_then (λ (c : Compiled). option_map (λ (cs : List Compiled). c ∷ cs) r) o) → IsSome o × IsSome r
halves None r h = absurd (let clash : false ≡ true = h in cc)
halves (Some c) None h = absurd (let clash : false ≡ true = h in cc)
halves (Some c) (Some cs) h = (refl, refl)

pub selected_compiled : {X : Type 0} (f : X → Option Compiled) (marks : List Bool) (xs : List X) → IsSome (all_by f xs) → IsSome (all_by f (selected marks xs))
selected_compiled f [] xs h = refl
selected_compiled f (m ∷ ms) [] h = h
selected_compiled f (true ∷ ms) (x ∷ xs) h =
    let k = halves (f x) (all_by f xs) h in
    both_come (f x) (all_by f (selected ms xs)) k.0 (selected_compiled f ms xs k.1)
selected_compiled f (false ∷ ms) (x ∷ xs) h = selected_compiled f ms xs (halves (f x) (all_by f xs) h).1

-- ---- where a query has a goal

first_part : (q : Question) (a b : Option (List Compiled)) → IsSome (option_and_then (λ (x : List Compiled). option_map (goal_of q x) b) a) → IsSome a
first_part q None b h = h
first_part q (Some x) b h = refl

second_part : (q : Question) (a b : Option (List Compiled)) → IsSome (option_and_then (λ (x : List Compiled). option_map (goal_of q x) b) a) → IsSome b
second_part q None b h = absurd (let clash : false ≡ true = h in cc)
second_part q (Some x) None h = h
second_part q (Some x) (Some y) h = refl

-- the policies of either set that are marked are compiled
pub first_typed : (s : Declarations) (env : Env) (q : Question) (marks : List Bool) (read a b : List Policy) → read ≡ a → IsSome (goal_term s env q a b) → IsSome (all_compiled s env (selected marks read))
first_typed s env q marks read a b e h =
    selected_compiled (compiled s env) marks read (subst (λ (ps : List Policy). IsSome (all_compiled s env ps)) (sym e) (first_part q (all_compiled s env a) (all_compiled s env b) h))

pub second_typed : (s : Declarations) (env : Env) (q : Question) (marks : List Bool) (read a b : List Policy) → read ≡ b → IsSome (goal_term s env q a b) → IsSome (all_compiled s env (selected marks read))
second_typed s env q marks read a b e h =
    selected_compiled (compiled s env) marks read (subst (λ (ps : List Policy). IsSome (all_compiled s env ps)) (sym e) (second_part q (all_compiled s env a) (all_compiled s env b) h))

-- the goal of all policies
pub goal_of_all : (s : Declarations) (env : Env) (q : Question) (left right : List Bool) (a b : List Policy) (xs : List Node) (n : ℕ) → left ≡ replicate (length a) true → right ≡ replicate (length b) true
    → IfSome (goal_term s env q (selected left a) (selected right b)) (λ (t : Tree). StandsFor xs n t) → IfSome (goal_term s env q a b) (λ (t : Tree). StandsFor xs n t)
goal_of_all s env q left right a b xs n e f h =
    subst (λ (ps : List Policy). IfSome (goal_term s env q a ps) (λ (t : Tree). StandsFor xs n t)) (ap (λ (ms : List Bool). selected ms b) f ∙ all_selected b)
    (subst (λ (ps : List Policy). IfSome (goal_term s env q ps (selected right b)) (λ (t : Tree). StandsFor xs n t)) (ap (λ (ms : List Bool). selected ms a) e ∙ all_selected a) h)
