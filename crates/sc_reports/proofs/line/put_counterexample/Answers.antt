use Rattle.std.proofs.Common.{◌≡◌, ◌∙◌, ◌++◌, codes, append_assoc}
use Rattle.std.proofs.lemmas.Result.{on_ok_weaker}
use Rattle.sc_world_json.specs.Text.{world_text}
use Rattle.sc_reports.proofs.line.put_counterexample.Goals as goal

pub returns : goal.returns
returns c =
    let text : c.as_bytes.result.now ≡ world_text c.args.world.now = c.as_bytes.ensures.value ∙ c.in_ok-text.ensures in
    let all : c.put.new.out.items ++ c.as_bytes.result.now ≡ c.args.out.now.items ++ (codes "counterexample " ++ world_text c.args.world.now) =
    rw (text, c.in_ok-put.ensures) (simp append_assoc) in
    on_ok_weaker c.put-2.result (λ h. h ∙ all) c.put-2.ensures
