use Rattle.std.proofs.Common.{◌<◌, ℕ, get_or}
use Rattle.sc_sorts.specs.Inside.{SortField}
use Rattle.sc_term_laws.specs.LawfulSorts.{IsSortOf}
use Rattle.sc_term_laws.proofs.lawful_sorts.+lawful.Given as goal

abbrev pub invariant-are_lawful_fields-loop-field : goal.invariant-are_lawful_fields-loop-field
invariant-are_lawful_fields-loop-field l = (k : ℕ) (x : SortField) → k < l.field-index → IsSortOf l.schema (get_or l.fields k x).1
