use Rattle.std.proofs.Common.{[], length, refl, ap, arith}
use Rattle.sc_terms.proofs.TableLaws.{keeps_then}
use Rattle.sc_terms.specs.Tables.{tree}
use Rattle.sc_closure_rules.proofs.MemberLaws.{within_later}
use Rattle.sc_closure.specs.Following.{put_new, Held}
use Rattle.sc_closure.proofs.ClosingLaws.{closing_start, closing_step, closing_end, number_below, number_closed, place_read, nothing_read}
use Rattle.sc_closure.proofs.CountingLaws.{atoms_grow, seeds_few}
use Rattle.sc_closure.proofs.OverLimitLaws.{over_limit}
use Rattle.sc_closure.proofs.PuttingLaws.{put_longer, put_first, put_once, put_within}
use Rattle.sc_closure.proofs.closing.closed_with.Goals as goal

pub count_atoms-atoms-requires : goal.count_atoms-atoms-requires
count_atoms-atoms-requires c =
    rw (c.in_ok-put_all.ensures, c.new-closed.ensures.empty, c.deref.ensures.value) (put_within _ [] c.in_ok-first.first.items tt c.in_ok-first.ensures.within)

pub loop-n-init : goal.loop-n-init
loop-n-init c = record {
  short = omega arith;
  once = rw (c.in_ok-put_all.ensures, c.new-closed.ensures.empty, c.deref.ensures.value) (put_first c.in_ok-first.first.items);
  closing = rw (c.in_ok-put_all.ensures, c.new-closed.ensures.empty, c.deref.ensures.value)
      (closing_start _ _ _ _ c.in_ok-first.first.items c.in_ok-first.ensures.within c.in_ok-first.ensures.ok (Held _ c.args.roles.now) (c.requires.none _));
  are = c.requires.are _;
  counted = c.count_atoms-atoms.ensures.value;
  few = omega (arith, c.count_atoms-atoms.ensures.within, ap length (rw (c.new-closed.ensures.empty, c.deref.ensures.value) at c.in_ok-put_all.ensures), seeds_few c.args.schema.now c.args.env.now (tree c.args.terms.now c.args.goal) _ c.in_ok-first.first.items c.in_ok-first.ensures.ok);
  kept = c.in_ok-first.ensures.kept;
}

pub follow-requires-clause-within : goal.follow-requires-clause-within
follow-requires-clause-within c = number_below _ _ _ _ _ _ _ _ c.loop-n.invariant.closing c.in-Some.ensures.value

pub follow-requires-clause-term : goal.follow-requires-clause-term
follow-requires-clause-term c = record {
  schema = c.args.schema.now;
  env = c.args.env.now;
  written = c.args.literals.now;
  sort = _;
  is = c.closed_laws.ensures.judged _ _ _ _ _ c.laws.ensures.lawful c.requires.goal (number_closed _ _ _ _ _ _ _ _ c.loop-n.invariant.closing c.in-Some.ensures.value);
}

pub follow-requires-clause-are : goal.follow-requires-clause-are
follow-requires-clause-are c = c.loop-n.invariant.are

pub count_atoms-atoms-requires-in-Some : goal.count_atoms-atoms-requires-in-Some
count_atoms-atoms-requires-in-Some c =
    rw (c.in_ok-put_all-2.ensures, c.deref-in-Some.ensures.value)
    (put_within _ c.loop-n.closed.keys c.in_ok-more.more.items (within_later _ _ c.in_ok-more.ensures.kept.longer _ c.loop-n.invariant.closing.within) c.in_ok-more.ensures.ok.within)

pub overflow_add-atoms : goal.overflow_add-atoms
overflow_add-atoms c = omega (arith, c.loop-n.invariant.few, c.count_atoms-atoms-in-Some.ensures.small)

pub loop-n-preserved : goal.loop-n-preserved
loop-n-preserved c =
    let read = place_read c.loop-n.closed.keys c.loop-n.done c.in-Some.n c.in-Some.ensures.value in
    let f = c.in_ok-more.ensures.ok in
    record {
      short = omega (arith, read.0, put_longer c.loop-n.closed.keys c.in_ok-more.more.items, ap length (rw c.deref-in-Some.ensures.value at c.in_ok-put_all-2.ensures));
      once = rw (c.in_ok-put_all-2.ensures, c.deref-in-Some.ensures.value) (put_once c.loop-n.closed.keys c.in_ok-more.more.items c.loop-n.invariant.once);
      closing = rw (c.in_ok-put_all-2.ensures, c.deref-in-Some.ensures.value)
          (closing_step _ _ _ _ _ _ _ _ _ _ _ _ _ c.loop-n.invariant.closing c.in_ok-more.ensures.kept c.in-Some.ensures.value f.within f.stands f.follows f.takes);
      are = f.are;
      counted = atoms_grow _ _ c.loop-n.closed.keys c.in_ok-more.more.items _ _ _ _ c.in_ok-more.ensures.kept c.loop-n.invariant.closing.within (rw c.deref-in-Some.ensures.value at c.in_ok-put_all-2.ensures)
          c.len-counted.ensures.len c.loop-n.invariant.counted c.count_atoms-atoms-in-Some.ensures.value;
      few = omega (arith, c.if-atoms-gt-MOST_ATOMS.false);
      kept = keeps_then _ _ _ c.loop-n.invariant.kept c.in_ok-more.ensures.kept;
    }

pub returns-then-atoms-gt-MOST_ATOMS-clause-err : goal.returns-then-atoms-gt-MOST_ATOMS-clause-err
returns-then-atoms-gt-MOST_ATOMS-clause-err c =
    let f = c.in_ok-more.ensures.ok in
    let met = closing_step _ _ _ _ _ _ _ _ _ _ _ _ _ c.loop-n.invariant.closing c.in_ok-more.ensures.kept c.in-Some.ensures.value f.within f.stands f.follows f.takes in
    let once = put_once c.loop-n.closed.keys c.in_ok-more.more.items c.loop-n.invariant.once in
    over_limit _ _ _ _ c.laws-then-atoms-gt-MOST_ATOMS.ensures _ met.within once met.sound
    (omega (
      arith,
      c.if-atoms-gt-MOST_ATOMS.true,
      atoms_grow _ _ c.loop-n.closed.keys c.in_ok-more.more.items (put_new c.loop-n.closed.keys c.in_ok-more.more.items) _ _ _ c.in_ok-more.ensures.kept c.loop-n.invariant.closing.within refl
          c.len-counted.ensures.len c.loop-n.invariant.counted (rw (c.in_ok-put_all-2.ensures, c.deref-in-Some.ensures.value) at c.count_atoms-atoms-in-Some.ensures.value),
    ))

pub returns-clause-closed : goal.returns-clause-closed
returns-clause-closed c = closing_end _ _ _ _ _ _ _ c.loop-n.invariant.closing (nothing_read _ _ c.in_default.ensures.value)
