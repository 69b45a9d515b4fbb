use Rattle.sc_terms.proofs.OrderLaws.{tree_cmp_total, tree_cmp_level}
use Rattle.sc_footprint.specs.Theories.{TermsHold}
use Rattle.sc_footprint.proofs.OverLaws.{over_is_over}
use Rattle.sc_footprint.proofs.PosingLaws.{same_closed}
use Rattle.sc_footprint.proofs.ProblemLaws.{term_judged, goal_told, input_told, literal_listed, valued, literal_told}
use Rattle.sc_footprint.proofs.TruthLaws.{first_atom, atom_back, closed_is}
use Rattle.sc_footprint.proofs.law.problem_laws.Goals as goal

pub returns : goal.returns
returns c =
    let laws : TermsHold = record {
      closed = c.closed_laws.ensures.judged;
      fit = c.terms_fit.ensures.value;
      inputs = c.definition_laws.ensures.inputs;
      defined = c.definition_laws.ensures.hold;
      addresses = c.definition_laws.ensures.addresses;
    } in
    record {
      terms = laws;
      one = λ d env goal ts us e f. same_closed tree_cmp_total tree_cmp_level d env goal ts us e f;
      over = λ d env goal ts h e. over_is_over d env goal ts e h;
      first = λ p posed. first_atom tree_cmp_total tree_cmp_level laws.closed p posed;
      back = λ p t posed h k. atom_back tree_cmp_total tree_cmp_level laws.closed p posed t h k;
      closed = λ p t posed h. closed_is tree_cmp_total tree_cmp_level laws.closed p posed t h;
      listed_closed = λ p t posed h. (posed.are_closed.just t).1 h;
      judged = λ p t posed h. term_judged laws p posed t h;
      goal = λ p posed. goal_told laws p posed;
      inputs = λ p x t posed h k i. input_told laws p posed x t h k i;
      valued = λ p t w posed h k world. valued laws p posed w world t h k;
      listed = λ p t posed h k. literal_listed laws p posed t h k;
      literals = λ p t w posed h k world. literal_told laws p posed w world t h k;
    }
