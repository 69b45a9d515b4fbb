use Rattle.std.proofs.Common.{◌∙◌, ◌++◌, ◌∷◌, [], ap, arith}
use Rattle.sc_languages.proofs.PatternLaws.{one_more, no_other}
use Rattle.sc_languages.proofs.strings.words_of.Goals as goal

pub find-requires-clause-covers : goal.find-requires-clause-covers
find-requires-clause-covers c =
    rw (c.as_slice-in-more-2.ensures.value, c.as_slice-in-more-3.ensures.value, c.as_slice-in-more-4.ensures.value)
    (rw (c.as_slice.ensures.value, c.as_slice-in-more.ensures.value) at c.in_ok-few.ensures)

pub find-requires-clause-texts : goal.find-requires-clause-texts
find-requires-clause-texts c = rw c.as_slice-in-more-4.ensures.value c.more.invariant.so_far.texts_are

pub returns-in_default : goal.returns-in_default
returns-in_default c =
    no_other _ _ _ c.more.invariant.so_far _ c.args.wanted (c.as_slice-in-more-2.ensures.value ∙ c.in_ok-items.ensures) c.more.invariant.at_most
    (rw (c.in_default.is, c.as_slice-in-more-4.ensures.value) at c.in_ok-word.ensures.none)

pub more-preserved : goal.more-preserved
more-preserved c = record {
  so_far =
      one_more _ _ _ c.more.invariant.so_far _ c.in-Some.word.items _ (c.as_slice-in-more-2.ensures.value ∙ c.in_ok-items.ensures)
      (rw (c.in-Some.is, c.as_slice-in-more-4.ensures.value) at c.in_ok-word.ensures.found)
      (c.in_ok-push.ensures.items ∙ ap (λ l. c.more.words.items ++ l ∷ []) c.from_vec.ensures);
  at_most = omega (arith, c.more-test.true, c.len.ensures, c.more.words.ok, c.push.new.self.ok, c.in_ok-push.ensures.len);
}
