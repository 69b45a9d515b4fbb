use Rattle.std.proofs.Common.{◌≡◌, ◌++◌, map, option_map, drop}
use Rattle.serde_json.specs.View.{view, items_view}
use Rattle.sc_schema_syntax.specs.Forms.{elements}
use Rattle.sc_schema_syntax.specs.Written.{elements_of, parent_of}
use Rattle.sc_schema_syntax.proofs.building.parents_of.Given as goal

abbrev pub invariant-loop-item : goal.invariant-loop-item
invariant-loop-item l = l.parents ++ map parent_of (elements (items_view (drop l.item-index l.item-items))) ≡ map parent_of (elements_of (option_map (λ v. view v.now) l.fn.value))
