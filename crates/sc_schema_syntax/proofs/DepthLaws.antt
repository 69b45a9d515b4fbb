-- What lies inside a value nests less deep.
use Rattle.std.proofs.Common.{◌≡◌, ◌<◌, ◌≤◌, ℕ, List, Bool, true, false, Option, Some, None, max, Bor, sym, ap, arith}
use Rattle.std.specs.Prelude.{if◌then◌else◌, option_map, IfSome}
use Rattle.serde_json.specs.View.{view}
use Rattle.serde_json.specs.declared.value.Value.{Value}
use Rattle.std.specs.Str.{bytes_eq}
use Rattle.serde_json.specs.Data.{Data, null, boolean, number, string, array, object, Members, no_members, member, depth, members_depth}
use Rattle.serde_json.specs.Find.{get, get_member}
use Rattle.sc_schema_syntax.proofs.WrittenLaws.{get_member-first}

inside-first : (b : Bool) (first found : Data) (later : Option Data) (n : ℕ) → (later ≡ Some found → depth found ≤ n) → (if b then Some first else later) ≡ Some found → depth found ≤ max (depth first) n
inside-first true first found later n h is =
    let same : first ≡ found = cc in
    omega (arith, ap depth same)
inside-first false first found later n h is = omega (arith, h is)

get_member-depth : (name : List ℕ) (members : Members) (found : Data) → get_member name members ≡ Some found → depth found ≤ members_depth members
get_member-depth name no_members found is = absurd cc
get_member-depth name (member key value members) found is =
    inside-first (bytes_eq name key) value found (get_member name members) (members_depth members) (get_member-depth name members found)
    (rw (get_member-first name key value members) at is)

-- what is found in a value nests less deep
pub get_inside : (name : List ℕ) (d found : Data) → get name d ≡ Some found → depth found < depth d
get_inside name null found is = absurd cc
get_inside name (boolean truth) found is = absurd cc
get_inside name (number n) found is = absurd cc
get_inside name (string text) found is = absurd cc
get_inside name (array items) found is = absurd cc
get_inside name (object members) found is = omega (arith, get_member-depth name members found is)

pub inside_some : (name : List ℕ) (d : Data) (found : Option (Bor Value)) → option_map (λ v. view v.now) found ≡ get name d → IfSome found (λ v. depth (view v.now) < depth d)
inside_some name d None is = tt
inside_some name d (Some v) is = get_inside name d (view v.now) (sym is)

pub depth_start : (d : Data) (ms : Members) → d ≡ object ms → depth (object ms) ≤ depth d
depth_start d ms is = omega (arith, ap depth is)

pub depth_next : (key : List ℕ) (value : Data) (ms : Members) (n : ℕ) → depth (object (member key value ms)) ≤ n → depth (object ms) ≤ n
depth_next key value ms n within = omega arith
