-- What keeps a world from being well-formed depends on which uids policies write, and not on how often or in which order.
use Rattle.std.proofs.Common.{◌≡◌, ◌↔◌, List, [], ◌∷◌, ◌++◌, Option, Contains, inl, inr, subst}
use Rattle.std.specs.List.{AllByRecursion}
use Rattle.std.proofs.lemmas.List.Elements.{All-contains, All-from_recursion, Contains-append_left, Contains-append_right, Contains-append_cases}
use Rattle.std.specs.Prelude.{flat_map}
use Rattle.sc_lists.proofs.ListLaws.{contains_rest, contains_first}
use Rattle.sc_ast.specs.declared.policy.Policy.{Policy}
use Rattle.sc_ast.specs.Literals.{literals}
use Rattle.sc_names.specs.declared.uid.Uid.{Uid}
use Rattle.sc_schema.specs.Declarations.{Declarations, action_uids}
use Rattle.sc_world.specs.declared.world.World.{World}
use Rattle.sc_world.specs.Least.{wanted}
use Rattle.sc_world.specs.Named.{request_uids, uids_in_entry}
use Rattle.sc_world.specs.WellFormed.{IsStored}
use Rattle.sc_replay.specs.declared.breaks.Break.{Break}
use Rattle.sc_replay.specs.Breaks.{IsFirstBreak, in_request, in_entity, missing, nowhere}

each_of : (P : Uid → Type 0) (us : List Uid) → ((u : Uid) → Contains us u → P u) → AllByRecursion P us
each_of P [] f = tt
each_of P (u ∷ us) f = (f u (contains_first u us), each_of P us (λ v has. f v (contains_rest u us v has)))

abbrev IsWithin : List Uid → List Uid → Type 0
IsWithin xs ys = (u : Uid) → Contains xs u → Contains ys u

widened : (a b l m c : List Uid) → IsWithin l m → IsWithin (a ++ (b ++ (l ++ c))) (a ++ (b ++ (m ++ c)))
widened a b l m c more u has = elim (Contains-append_cases a (b ++ (l ++ c)) u has) [
  | inl x ↦ Contains-append_left a (b ++ (m ++ c)) u x
  | inr x ↦ Contains-append_right a (b ++ (m ++ c)) u (elim (Contains-append_cases b (l ++ c) u x) [
    | inl y ↦ Contains-append_left b (m ++ c) u y
    | inr y ↦ Contains-append_right b (m ++ c) u (elim (Contains-append_cases l c u y) [
      | inl z ↦ Contains-append_left m c u (more u z)
      | inr z ↦ Contains-append_right m c u z
    ])
  ])
]

wanted_too : (s : Declarations) (l m : List Uid) (w : World) → IsWithin l m → IsWithin (wanted s l w) (wanted s m w)
wanted_too s l m w more = widened (request_uids w.request) (flat_map uids_in_entry w.store) l m (action_uids s) more

same_uids : (s : Declarations) (l m : List Uid) (w : World) {found : Option Break} → ((u : Uid) → Contains l u ↔ Contains m u)
    → IsFirstBreak s l w found → IsFirstBreak s m w found
same_uids s l m w same (in_request h) = in_request h
same_uids s l m w same (in_entity u sound least) = in_entity u sound least
same_uids s l m w same (missing u sound each least) =
    missing u sound each
    (record {
      here = (wanted_too s l m w (λ v. (same v).0) u least.here.0, least.here.1);
      least = λ v h. least.least v (wanted_too s m l w (λ x. (same x).1) v h.0, h.1);
    })
same_uids s l m w same (nowhere sound each all) =
    nowhere sound each
    (each_of (IsStored w.store) (wanted s m w) (λ u has.
    let stored = All-from_recursion (IsStored w.store) (wanted s l w) all in
    All-contains (IsStored w.store) (wanted s l w) u stored (wanted_too s m l w (λ v. (same v).1) u has)))

-- of a set of the uids that policies write
pub as_written : (s : Declarations) (given policies : List Policy) (l : List Uid) (w : World) {found : Option Break} → given ≡ policies
    → ((u : Uid) → Contains l u ↔ Contains (literals given) u) → IsFirstBreak s l w found → IsFirstBreak s (literals policies) w found
as_written s given policies l w {found = found} are same h = subst (λ (ps : List Policy). IsFirstBreak s (literals ps) w found) are (same_uids s l (literals given) w same h)
