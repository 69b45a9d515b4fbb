use Rattle.std.proofs.Common.{◌≡◌, ◌<◌, ◌∙◌, sym, length, arith}
use Rattle.std.proofs.lemmas.Bool.Decides.{nat_tests}
use Rattle.std.proofs.lemmas.Grind.{common_steps}
use Rattle.sc_lexer.proofs.FrontLaws.{IsFront_word, IsFront_number, BeginsNoToken_empty}
use Rattle.sc_lexer.proofs.front.longest.Goals as goal

pub returns-then-is_empty-clause-none : goal.returns-then-is_empty-clause-none
returns-then-is_empty-clause-none c = let none : length c.args.bytes.now ≡ 0 = grind (arith, nat_tests, common_steps) in BeginsNoToken_empty _ none

pub returns-then-begins_word-clause-some : goal.returns-then-begins_word-clause-some
returns-then-begins_word-clause-some c =
    let some : 0 < length c.args.bytes.now = grind (arith, common_steps) in
    IsFront_word _ _ (sym c.begins_word.ensures ∙ c.if-begins_word.true) some c.word_len.ensures.value

pub returns-then-is_ascii_digit-clause-some : goal.returns-then-is_ascii_digit-clause-some
returns-then-is_ascii_digit-clause-some c =
    let some : 0 < length c.args.bytes.now = grind (arith, common_steps) in
    IsFront_number _ _ (sym c.begins_word.ensures ∙ c.if-begins_word.false) (sym c.is_ascii_digit.ensures.value ∙ c.if-is_ascii_digit.true) some c.number_len.ensures.value
