use Rattle.std.proofs.Common.{◌≡◌, ◌++◌, map, Some, option_map, drop}
use Rattle.serde_json.specs.View.{view, items_view}
use Rattle.sc_schema_syntax.specs.Forms.{elements}
use Rattle.sc_schema_syntax.specs.Written.{text_of, texts_of}
use Rattle.sc_schema_syntax.proofs.entries.texts_of.Given as goal

abbrev pub invariant-loop-item : goal.invariant-loop-item
invariant-loop-item l = l.texts ++ map (λ d. text_of (Some d)) (elements (items_view (drop l.item-index l.item-items))) ≡ texts_of (option_map (λ v. view v.now) l.fn.value)
