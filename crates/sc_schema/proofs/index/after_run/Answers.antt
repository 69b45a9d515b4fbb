use Rattle.std.proofs.Common.{◌∙◌, drop, ap, rules}
use Rattle.std.proofs.lemmas.List.{take_rest}
use Rattle.std.proofs.lemmas.List.Sorted.{IsPartitionPoint-from_clause}
use Rattle.sc_schema.proofs.RunLaws.{of_type, parted, run_is}
use Rattle.sc_schema.proofs.index.after_run.Goals as goal

-- the closure tells whether a uid is of the type of the one before
pub returns : goal.returns
returns c =
    let uid = c.args.uid.now in
    let later = c.args.later.now in
    let run = c.partition_point-run.result in
    let parts = IsPartitionPoint-from_clause (of_type uid.type_name) later run c.partition_point-run.ensures.partitioned (parted uid later c.requires) (λ a r f called. (search rules, search rules)) in
    take_rest later run ∙ ap (λ k. drop k later) (run_is uid later run c.partition_point-run.ensures.bound parts)
