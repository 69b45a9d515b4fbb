use Rattle.std.proofs.Common.{◌≡◌, ◌∙◌, ap, sym, subst, cond, unwrap_or, Some, [], ◌∷◌, ◌++◌, take, map, ◌+◌, List, ℕ}
use Rattle.std.specs.List.{fold}
use Rattle.std.specs.BTreeMap.{is_at}
use Rattle.std.specs.Map.{lookup}
use Rattle.std.specs.List.Sorted.{IsStrictlySortedBy}
use Rattle.std.proofs.lemmas.List.Elements.{All-from_recursion}
use Rattle.std.proofs.lemmas.List.{take_more}
use Rattle.sc_names.specs.Uids.{text_cmp, uid_cmp}
use Rattle.sc_schema.specs.Indices.{IsAbove}
use Rattle.sc_schema.specs.Lawful.{AreAscending}
use Rattle.sc_names.specs.declared.uid.Uid.{Uid}
use Rattle.sc_schema.specs.Declarations.{with_name}
use Rattle.sc_schema.specs.declared.declarations.Action.{Action}
use Rattle.sc_schema.proofs.IndexLaws.{IsAbove-more, above-ascending, put_again, above_one}
use Rattle.sc_schema.proofs.index.types_above.Goals as goal

pub put_types-requires-clause-names_ascend : goal.put_types-requires-clause-names_ascend
put_types-requires-clause-names_ascend c =
    let a = c.action-item.result in
    let old = c.loop-action.above.entries in
    let found : c.unwrap_or-names.result ≡ unwrap_or (lookup (is_at (text_cmp a.uid.type_name)) old) [] =
    c.unwrap_or-names.ensures ∙ (ap (unwrap_or c.remove.result) c.new.ensures ∙ (ap (λ o. unwrap_or o []) c.remove.ensures.value ∙ ap (λ n. unwrap_or (lookup (is_at (text_cmp n)) old) []) c.in_ok-name.ensures)) in
    subst AreAscending (sym found) (above-ascending _ old a.uid.type_name c.loop-action.invariant)

pub put_types-requires-clause-uids_ascend : goal.put_types-requires-clause-uids_ascend
put_types-requires-clause-uids_ascend c =
    let a = c.action-item.result in
    let each = All-from_recursion (λ (x : Action). IsStrictlySortedBy uid_cmp x.ancestors) c.args.actions.now c.requires c.loop-action.action-index a c.loop-action-test.true in
    subst (IsStrictlySortedBy uid_cmp) (sym c.as_slice.ensures) (subst (λ (x : Action). IsStrictlySortedBy uid_cmp x.ancestors) (sym c.action-item.is) each)

pub loop-action-preserved : goal.loop-action-preserved
loop-action-preserved c =
    let a = c.action-item.result in
    let old = c.loop-action.above.entries in
    let found : c.unwrap_or-names.result ≡ unwrap_or (lookup (is_at (text_cmp a.uid.type_name)) old) [] =
    c.unwrap_or-names.ensures ∙ (ap (unwrap_or c.remove.result) c.new.ensures ∙ (ap (λ o. unwrap_or o []) c.remove.ensures.value ∙ ap (λ n. unwrap_or (lookup (is_at (text_cmp n)) old) []) c.in_ok-name.ensures)) in
    let put : (q : List ℕ) → lookup (is_at (text_cmp q)) c.insert.new.self.entries ≡ cond (is_at (text_cmp a.uid.type_name) q) (Some c.put_types.new.names) (lookup (is_at (text_cmp q)) old) =
    λ q. c.in_ok-insert.ensures.updates.0 q
    ∙ (ap (cond (is_at (text_cmp c.in_ok-name.name) q) (Some c.put_types.new.names)) (c.remove.ensures.updates.0 q)
    ∙ (put_again (is_at (text_cmp c.in_ok-name.name) q) c.put_types.new.names (lookup (is_at (text_cmp q)) old)
    ∙ ap (λ n. cond (is_at (text_cmp n) q) (Some c.put_types.new.names) (lookup (is_at (text_cmp q)) old)) c.in_ok-name.ensures)) in
    let names : c.put_types.new.names ≡ fold with_name (unwrap_or (lookup (is_at (text_cmp a.uid.type_name)) old) []) (above_one a) =
    c.in_ok-put_types.ensures.put
    ∙ (ap (λ ns. fold with_name ns (map (λ (u : Uid). u.type_name) c.as_slice.result.now)) found
    ∙ ap (λ (us : List Uid). fold with_name (unwrap_or (lookup (is_at (text_cmp a.uid.type_name)) old) []) (map (λ (u : Uid). u.type_name) us)) c.as_slice.ensures) in
    let more = take_more c.args.actions.now c.loop-action.action-index a c.loop-action-test.true in
    let so_far : take (c.loop-action.action-index + 1) c.args.actions.now ≡ take c.loop-action.action-index c.args.actions.now ++ a ∷ [] =
    more ∙ ap (λ (x : Action). take c.loop-action.action-index c.args.actions.now ++ x ∷ []) (sym c.action-item.is) in
    subst (λ (xs : List Action). IsAbove xs c.insert.new.self.entries) (sym so_far)
    (IsAbove-more (take c.loop-action.action-index c.args.actions.now) a old c.insert.new.self.entries c.put_types.new.names c.loop-action.invariant names put)
