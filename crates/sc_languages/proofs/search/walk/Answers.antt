use Rattle.std.proofs.Common.{◌∙◌, ap, sym, ◌++◌, ◌∷◌, [], take}
use Rattle.std.proofs.lemmas.List.{take_more}
use Rattle.sc_languages.proofs.SearchLaws.{at_start, walk_start, at_more, walk_more, walk_end}
use Rattle.sc_languages.proofs.search.walk.Goals as goal

pub loop-c-init : goal.loop-c-init
loop-c-init c = record {
  at = at_start _ _ _ c.in_ok-marks.ensures c.new-word.ensures.items;
  read = c.new-word.ensures.items;
  so_far = walk_start _ _ _ _ _ c.requires.entries;
}

pub loop-c-preserved : goal.loop-c-preserved
loop-c-preserved c = record {
  at =
      at_more _ c.args.words.now _ _ c.loop-c.invariant.at c.c-item.result _ _ c.args.whole.now c.loop-c.c-index c.requires.text c.loop-c-test.true c.c-item.is
      (rw c.as_slice-in-loop-c-2.ensures.value at c.in_ok-marks-2.ensures) c.in_ok-push.ensures.items;
  read =
      c.in_ok-push.ensures.items ∙ ap (λ l. l ++ c.c-item.result ∷ []) c.loop-c.invariant.read
      ∙ ap (λ m. take c.loop-c.c-index c.args.whole.now ++ m ∷ []) c.c-item.is ∙ sym (take_more c.args.whole.now c.loop-c.c-index c.c-item.result c.loop-c-test.true);
  so_far =
      walk_more _ _ _ _ c.loop-c.invariant.at _ _ _ _ _ _ c.loop-c.invariant.read c.loop-c.invariant.so_far
      (rw (c.in_default.is, c.as_slice.ensures.value, c.as_slice-in-loop-c.ensures.value) at c.in_ok-outcome.ensures.known)
      (rw (c.in_default.is, c.as_slice.ensures.value, c.as_slice-in-loop-c.ensures.value) at c.in_ok-outcome.ensures.none);
}

pub returns-clause-none : goal.returns-clause-none
returns-clause-none c =
    walk_end _ _ _ _ _ _ c.loop-c.c-index c.loop-c-test.false c.loop-c.auto.c-index-end
    (walk_more _ _ _ _ c.loop-c.invariant.at _ _ _ _ _ _ c.loop-c.invariant.read c.loop-c.invariant.so_far
    (rw (c.in-None.is, c.as_slice-2.ensures.value, c.as_slice-3.ensures.value) at c.in_ok-found.ensures.known)
    (rw (c.in-None.is, c.as_slice-2.ensures.value, c.as_slice-3.ensures.value) at c.in_ok-found.ensures.none))
