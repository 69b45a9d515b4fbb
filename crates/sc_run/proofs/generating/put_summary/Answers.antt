use Rattle.std.proofs.Common.{◌≡◌, ◌∙◌, ◌++◌, codes, append_assoc}
use Rattle.std.proofs.lemmas.Result.{on_ok_weaker}
use Rattle.sc_run.specs.Generates.{summary_text}
use Rattle.sc_run.proofs.generating.put_summary.Goals as goal

pub returns : goal.returns
unfolding summary_text
returns c =
    let all : c.put_number-2.new.out.items ++ codes " bytes\n" ≡ c.args.out.now.items ++ summary_text c.args.policies c.args.bytes =
    rw (c.in_ok-put_number-2.ensures, c.in_ok-put-2.ensures, c.in_ok-put_number.ensures, c.in_ok-put.ensures) (simp append_assoc) in
    on_ok_weaker c.put-3.result (λ h. h ∙ all) c.put-3.ensures
