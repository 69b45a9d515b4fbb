-- A term is covered where no member is picked in it.
use Rattle.std.proofs.Common.{◌≡◌, ◌||◌, true, false, refl}
use Rattle.std.specs.Cmp.Derive.{both_true}
use Rattle.sc_laws.proofs.BoolLaws.{or_first, or_second}
use Rattle.sc_sorts.specs.declared.node.BinaryOp.{BinaryOp}
use Rattle.sc_sorts.specs.declared.node.BinaryOp.TheVariants as binary
use Rattle.sc_terms.specs.Trees.{Tree, leaf, one, two, choice, many, Trees, no_part, part}
use Rattle.sc_closure_rules.specs.Goals.{is_pick, has_pick, some_pick}
use Rattle.sc_model_laws.specs.Rows.{covers_two, is_covered, are_covered}

no_pick : (o : BinaryOp) → is_pick o ≡ false → covers_two o ≡ true
no_pick binary.DifferencePick h = absurd cc
no_pick binary.CommonPick h = absurd cc
no_pick _ h = refl

mutual
  unfolding is_covered has_pick

  pub plain_covered : (t : Tree) → has_pick t ≡ false → is_covered t ≡ true
  plain_covered (leaf l) h = refl
  plain_covered (one o a) h = plain_covered a h
  plain_covered (two o a b) h =
      let parts = or_second (is_pick o) (has_pick a || has_pick b) h in
      both_true (no_pick o (or_first (is_pick o) (has_pick a || has_pick b) h))
      (both_true (plain_covered a (or_first (has_pick a) (has_pick b) parts)) (plain_covered b (or_second (has_pick a) (has_pick b) parts)))
  plain_covered (choice c a b) h =
      let parts = or_second (has_pick c) (has_pick a || has_pick b) h in
      both_true (plain_covered c (or_first (has_pick c) (has_pick a || has_pick b) h))
      (both_true (plain_covered a (or_first (has_pick a) (has_pick b) parts)) (plain_covered b (or_second (has_pick a) (has_pick b) parts)))
  plain_covered (many o ts) h = plain_parts ts h

  plain_parts : (ts : Trees) → some_pick ts ≡ false → are_covered ts ≡ true
  plain_parts no_part h = refl
  plain_parts (part l t ts) h = both_true (plain_covered t (or_first (has_pick t) (some_pick ts) h)) (plain_parts ts (or_second (has_pick t) (some_pick ts) h))
