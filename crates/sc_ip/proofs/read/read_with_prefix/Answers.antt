use Rattle.std.proofs.lemmas.Option.{IfSome_then}
use Rattle.sc_ip.specs.IpText.{alone}
use Rattle.sc_ip.proofs.AddressLaws.{IfNone-weaker}
use Rattle.sc_ip.proofs.PrefixLaws.{split_at_slash, without_slash, prefix_some, prefix_none}
use Rattle.sc_ip.proofs.read.read_with_prefix.Goals as goal

pub returns-in_err-whole-in-Some-clause-none : goal.returns-in_err-whole-in-Some-clause-none
returns-in_err-whole-in-Some-clause-none c = rw c.from_residual.ensures (λ a t.
    let b = split_at_slash c.args.text.now (c.in-Some.address, c.in-Some.prefix) c.in-Some.ensures.cases a t in
    c.in_err-whole-in-Some.ensures.none b.whole b.whole_text)

pub returns-in_err-read_number-in-Some-clause-none : goal.returns-in_err-read_number-in-Some-clause-none
returns-in_err-read_number-in-Some-clause-none c = rw c.from_residual-in_err-read_number-in-Some.ensures (λ a t.
    let b = split_at_slash c.args.text.now (c.in-Some.address, c.in-Some.prefix) c.in-Some.ensures.cases a t in
    c.in_err-read_number-in-Some.ensures.none b.prefix b.small b.digits)

pub returns-in_ok-read_number-in-Some-clause-some : goal.returns-in_ok-read_number-in-Some-clause-some
returns-in_ok-read_number-in-Some-clause-some c =
    prefix_some c.args.text.now (c.in-Some.address, c.in-Some.prefix) _ _ c.replace_prefix.result c.in-Some.ensures.cases c.in_ok-whole-in-Some.ensures.some c.in_ok-read_number-in-Some.ensures.some c.replace_prefix.ensures.value

pub returns-in_ok-read_number-in-Some-clause-none : goal.returns-in_ok-read_number-in-Some-clause-none
returns-in_ok-read_number-in-Some-clause-none c =
    prefix_none c.args.text.now (c.in-Some.address, c.in-Some.prefix) _ _ c.replace_prefix.result c.in_ok-read_number-in-Some.ensures.in_range c.in-Some.ensures.cases c.in_ok-whole-in-Some.ensures.some c.in_ok-read_number-in-Some.ensures.some c.replace_prefix.ensures.value

pub returns-in-None-clause-some : goal.returns-in-None-clause-some
returns-in-None-clause-some c = IfSome_then c.read_address-in-None.result c.read_address-in-None.ensures.some (λ a x. alone x)

pub returns-in-None-clause-none : goal.returns-in-None-clause-none
returns-in-None-clause-none c =
    IfNone-weaker c.read_address-in-None.result _ _ c.read_address-in-None.ensures.none (λ none a t. none a (without_slash c.args.text.now c.in-None.ensures.cases a t))
