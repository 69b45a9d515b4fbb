use Rattle.std.proofs.Common.{◌≡◌, ◌∙◌, ◌++◌, codes, append_assoc}
use Rattle.std.proofs.lemmas.Result.{on_ok_weaker}
use Rattle.sc_reports.specs.Claims.{rejected_text}
use Rattle.sc_reports.proofs.saying.put_rejected.Goals as goal

pub returns : goal.returns
unfolding rejected_text
returns c =
    let all : c.put-3.new.out.items ++ codes "\n" ≡ c.args.out.now.items ++ rejected_text c.args.step c.args.reason =
    rw (c.in_ok-put-3.ensures, c.reason_name.ensures, c.in_ok-put-2.ensures, c.in_ok-put_number.ensures, c.in_ok-put.ensures) (simp append_assoc) in
    on_ok_weaker c.put-4.result (λ h. h ∙ all) c.put-4.ensures
