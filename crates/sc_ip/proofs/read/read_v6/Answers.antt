use Rattle.std.proofs.Common.{Some, None, ◌∷◌, []}
use Rattle.std.proofs.lemmas.Str.Pattern.{split_text_parts}
use Rattle.std.proofs.lemmas.Option.{IfSome_then}
use Rattle.sc_ip.proofs.AddressLaws.{v6_at_gap, v6_without_gap, IfNone-weaker}
use Rattle.sc_ip.specs.IpText.{full, gap}
use Rattle.sc_ip.proofs.read.read_v6.Goals as goal

pub returns-in-Some-clause-some : goal.returns-in-Some-clause-some
returns-in-Some-clause-some c =
    let parts = split_text_parts (58 ∷ 58 ∷ []) c.args.text.now (Some (c.in-Some.front, c.in-Some.back)) c.in-Some.ensures.cases in
    IfSome_then c.read_gap.result c.read_gap.ensures.some (λ a g. gap parts g)

pub returns-in-Some-clause-none : goal.returns-in-Some-clause-none
returns-in-Some-clause-none c =
    let parts = split_text_parts (58 ∷ 58 ∷ []) c.args.text.now (Some (c.in-Some.front, c.in-Some.back)) c.in-Some.ensures.cases in
    IfNone-weaker c.read_gap.result _ _ c.read_gap.ensures.none (λ none a t. none a (v6_at_gap c.args.text.now _ _ a parts t))

pub returns-in-None-clause-some : goal.returns-in-None-clause-some
returns-in-None-clause-some c = IfSome_then c.read_full.result c.read_full.ensures.some (λ a f. full f)

pub returns-in-None-clause-none : goal.returns-in-None-clause-none
returns-in-None-clause-none c =
    IfNone-weaker c.read_full.result _ _ c.read_full.ensures.none
    (λ none a t. none a (v6_without_gap c.args.text.now a (split_text_parts (58 ∷ 58 ∷ []) c.args.text.now None c.in-None.ensures.cases) t))
