-- What a walk over items or members is, and where there is no fault.
use Rattle.std.proofs.Common.{◌≡◌, ◌+◌, List, ℕ, Option, Some, None, refl}
use Rattle.std.specs.Prelude.{option_map}
use Rattle.std.specs.Option.{option_or}
use Rattle.std.specs.Fmt.{decimal}
use Rattle.serde_json.specs.Data.{Data, Items, item}
use Rattle.sc_json.proofs.WalkLaws.{IsNumberedWalk, IsMembersWalk}
use Rattle.sc_schema_syntax.specs.declared.fault.SchemaFault.{SchemaFault}
use Rattle.sc_schema_syntax.specs.declared.form.Form.{Form}
use Rattle.sc_schema_syntax.specs.declared.level.Level.{Level}
use Rattle.sc_schema_syntax.specs.Pointers.{under}
use Rattle.sc_schema_syntax.specs.Faults.{value_fault, items_fault, members_fault, member_fault}

pub items_walk : (form : ℕ → Data → Form) → IsNumberedWalk under (λ n d. value_fault (form n d) d) (items_fault form)
unfolding value_fault
items_walk form = record { end = λ n. refl; next = λ n d ds. refl }

pub members_walk : (level : Level) → IsMembersWalk under (member_fault level) (members_fault level)
unfolding value_fault
members_walk level = record { next = λ key d ms. refl }

-- ---- where there is no fault

pub no_fault_either : (a b : Option SchemaFault) → option_or a b ≡ None → (a ≡ None) × (b ≡ None)
no_fault_either None b e = (refl, e)
no_fault_either (Some fault) b e = absurd cc

pub no_fault_under : (key : List ℕ) (a : Option SchemaFault) → option_map (under key) a ≡ None → a ≡ None
no_fault_under key None e = refl
no_fault_under key (Some fault) e = absurd cc

-- an item of a list, and those after it
pub no_fault_item : (form : ℕ → Data → Form) (n : ℕ) (d : Data) (ds : Items) → items_fault form n (item d ds) ≡ None
    → (value_fault (form n d) d ≡ None) × (items_fault form (n + 1) ds ≡ None)
unfolding value_fault
no_fault_item form n d ds e =
    let parts = no_fault_either (option_map (under (decimal n)) (value_fault (form n d) d)) (items_fault form (n + 1) ds) e in
    (no_fault_under (decimal n) (value_fault (form n d) d) parts.0, parts.1)
