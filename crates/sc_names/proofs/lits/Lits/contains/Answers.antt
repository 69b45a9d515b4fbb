use Rattle.sc_names.proofs.LitsLaws.{found}
use Rattle.sc_names.proofs.lits.Lits.contains.Goals as goal

pub returns : goal.returns
returns c =
    found _ _ _ _ _ c.is_ok.ensures.value c.as_slice.ensures.value c.as_slice.ensures.ascending
    c.binary_search.ensures.bound c.binary_search.ensures.position
