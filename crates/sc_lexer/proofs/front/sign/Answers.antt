use Rattle.std.proofs.Common.{◌≡◌, None}
use Rattle.sc_lexer.specs.Fronts.{long_sign}
use Rattle.sc_lexer.proofs.FrontLaws.{IsFront_two, IsFront_one}
use Rattle.sc_lexer.proofs.front.sign.Goals as goal

pub returns-in-Some-clause-some : goal.returns-in-Some-clause-some
returns-in-Some-clause-some c = IsFront_two _ _ c.in-Some.ensures c.requires.no_word c.requires.no_number c.requires.no_string

pub returns-in-Some-one_sign-clause-some : goal.returns-in-Some-one_sign-clause-some
returns-in-Some-one_sign-clause-some c =
    let value = c.in_default.ensures in
    let is = c.in_default.is in
    let nothing : None ≡ long_sign c.args.bytes.now = cc in
    IsFront_one _ _ nothing c.in-Some-one_sign.ensures c.requires.some c.requires.no_word c.requires.no_number c.requires.no_string
