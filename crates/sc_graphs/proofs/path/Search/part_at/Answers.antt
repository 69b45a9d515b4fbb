use Rattle.std.proofs.Common.{◌≡◌, ◌≤◌, ◌+◌, ◌∷◌, ◌++◌, [], List, length, ap, refl, ◌∙◌, arith}
use Rattle.std.proofs.lemmas.List.{length_push}
use Rattle.sc_graphs.specs.declared.path.Part.{Part}
use Rattle.sc_graphs.proofs.PartLaws.{joining_first, joining_next, joining_ends}
use Rattle.sc_graphs.proofs.MoveLaws.{popped_none}
use Rattle.sc_graphs.proofs.path.Search.part_at.Goals as goal

pub loop-part-init : goal.loop-part-init
loop-part-init c =
    let all : List Part = c.args.self.now.parts.items ++ c.args.last ∷ [] in
    record {
      marks = refl;
      path = refl;
      waiting = refl;
      fewer = omega arith;
      joining = λ graph path waiting end held inside parts. joining_first graph path waiting all c.args.place end held c.args.self.now.parts.items c.args.last refl inside parts;
    }

pub returns-in_default-clause-joined : goal.returns-in_default-clause-joined
returns-in_default-clause-joined c = λ graph path waiting end held inside parts.
    absurd (joining_ends graph path waiting (c.args.self.now.parts.items ++ c.args.last ∷ []) c.args.place end held c.loop-part.self.parts.items c.loop-part.part
    (c.loop-part.invariant.joining graph path waiting end held inside parts)
    (popped_none c.loop-part.self.parts.items c.pop.new.self.items _ c.in_default.ensures.items c.in_default.ensures.rest c.in_default.ensures.cases.0) c.loop-part-test.true)

pub loop-part-preserved : goal.loop-part-preserved
loop-part-preserved c =
    let all : List Part = c.args.self.now.parts.items ++ c.args.last ∷ [] in
    let long : length c.loop-part.self.parts.items ≡ length c.pop.new.self.items + 1 = ap length c.in-Some.ensures.items ∙ length_push c.pop.new.self.items c.in-Some.before in
    let fewer : length c.loop-part.self.parts.items ≤ length c.args.self.now.parts.items = c.loop-part.invariant.fewer in
    record {
      marks = c.loop-part.invariant.marks;
      path = c.loop-part.invariant.path;
      waiting = c.loop-part.invariant.waiting;
      fewer = omega (arith, long, fewer);
      joining = λ graph path waiting end held inside parts.
          joining_next graph path waiting all c.args.place end held c.loop-part.self.parts.items c.pop.new.self.items c.loop-part.part c.in-Some.before
          (c.loop-part.invariant.joining graph path waiting end held inside parts) parts c.in-Some.ensures.items c.loop-part-test.true;
    }

pub returns-clause-joined : goal.returns-clause-joined
returns-clause-joined c = λ graph path waiting end held inside parts. record {
  part = c.loop-part.part;
  joining = c.loop-part.invariant.joining graph path waiting end held inside parts;
  reaches = c.loop-part-test.false;
  is = refl;
}
