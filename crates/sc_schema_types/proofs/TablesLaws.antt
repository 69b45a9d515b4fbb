-- Tables by name, as common types are put into them one after the other.
use Rattle.std.proofs.Common.{◌≡◌, ℕ, List, Bool, true, false, Option, Some, cond, option_map, unwrap_or, refl, ap, ◌∙◌}
use Rattle.std.proofs.Math.Path.{fun_ext}
use Rattle.std.specs.BTreeMap.{is_at}
use Rattle.std.specs.Map.{lookup}
use Rattle.sc_names.specs.Uids.{text_cmp}
use Rattle.sc_schema.specs.declared.resolved_type.ResolvedType.{ResolvedType}
use Rattle.sc_schema_types.specs.References.{Bodies}
use Rattle.sc_schema_types.specs.Tables.{changed, with_body}

module _ {X : Type 0} where
  -- what a name has in a table, or else this
  abbrev pub found_in : X → List (List ℕ × X) → List ℕ → X
  found_in other entries name = unwrap_or (lookup (is_at (text_cmp name)) entries) other

  or_else : (b : Bool) (x other : X) (o : Option X) → unwrap_or (cond b (Some x) o) other ≡ cond b x (unwrap_or o other)
  or_else true x other o = refl
  or_else false x other o = refl

  -- a table into which one more was put
  inserted : (other : X) (old new : List (List ℕ × X)) (key name : List ℕ) (x : X) → key ≡ name
      → ((q : List ℕ) → lookup (is_at (text_cmp q)) new ≡ cond (is_at (text_cmp key) q) (Some x) (lookup (is_at (text_cmp q)) old))
      → found_in other new ≡ changed (found_in other old) name x
  inserted other old new key name x same updates =
      fun_ext (λ q. ap (λ (o : Option X). unwrap_or o other) (updates q)
      ∙ or_else (is_at (text_cmp key) q) x other (lookup (is_at (text_cmp q)) old)
      ∙ ap (λ (n : List ℕ). cond (is_at (text_cmp n) q) x (found_in other old q)) same)

  -- what is made of a name's body is put there
  pub put_is : (bodies : Bodies) (made : (List ℕ → X) → ResolvedType → X) (other : X) (old new : List (List ℕ × X)) (key name : List ℕ) (body : ResolvedType) (x : X)
      → Some body ≡ bodies name → x ≡ made (found_in other old) body → key ≡ name
      → ((q : List ℕ) → lookup (is_at (text_cmp q)) new ≡ cond (is_at (text_cmp key) q) (Some x) (lookup (is_at (text_cmp q)) old))
      → found_in other new ≡ with_body bodies made (found_in other old) name
  put_is bodies made other old new key name body x some is same updates =
      inserted other old new key name x same updates
      ∙ ap (changed (found_in other old) name) is
      ∙ ap (λ (o : Option ResolvedType). unwrap_or (option_map (λ b. changed (found_in other old) name (made (found_in other old) b)) o) (found_in other old)) some
