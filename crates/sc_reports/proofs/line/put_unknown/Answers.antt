use Rattle.std.proofs.Common.{◌≡◌, ◌∙◌, ◌++◌, codes, append_assoc}
use Rattle.std.proofs.lemmas.Result.{on_ok_weaker}
use Rattle.std.specs.Fmt.{decimal}
use Rattle.sc_reports.proofs.line.put_unknown.Goals as goal

pub returns : goal.returns
returns c =
    let all : c.put_number.new.out.items ++ codes " units" ≡ c.args.out.now.items ++ (codes "unknown after " ++ (decimal c.args.budget ++ codes " units")) =
    rw (c.in_ok-put_number.ensures, c.in_ok-put.ensures) (simp append_assoc) in
    on_ok_weaker c.put-2.result (λ h. h ∙ all) c.put-2.ensures
