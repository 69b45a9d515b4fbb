use Rattle.std.proofs.Common.{rules, ◌≡◌, map, set, get_or, None}
use Rattle.std.proofs.lemmas.Result.{IfOk-weaker}
use Rattle.sc_falsified.specs.Crowds.{true_sign}
use Rattle.th_strings_instances.proofs.FewLaws.{few_with}
use Rattle.th_strings_instances.proofs.few.are_few_with.Goals as goal

pub returns : goal.returns
returns c =
    let is : c.as_slice.result.now ≡ set (map true_sign c.args.signs.now) c.args.place (get_or c.args.signs.now c.args.place None) = search rules in
    IfOk-weaker c.are_few_found.result _ _ (λ b h few. few_with c.args.patterns.now c.args.signs.now c.as_slice.result.now c.args.place c.args.count is (h.0 few)) c.are_few_found.ensures
