use Rattle.std.proofs.Common.{false, lit<}
use Rattle.std.proofs.lemmas.Bool.{false≢true}
use Rattle.std.proofs.lemmas.Str.Pattern.{starts_char}
use Rattle.sc_ip.proofs.NotationLaws.{hexadecimal_none}
use Rattle.sc_ip.proofs.notation.read_hexadecimal.Goals as goal

pub returns-clause-none : goal.returns-clause-none
returns-clause-none c = rw c.ok.ensures.value
    (hexadecimal_none c.args.text.now c.from_str_radix.result
    (λ e. false≢true ((starts_char 43 c.args.text.now false c.if-starts_with.ensures.cases (lit< tt) (lit< tt)).1 e)) c.from_str_radix.ensures.value)
