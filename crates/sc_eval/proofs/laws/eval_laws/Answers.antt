use Rattle.sc_eval.specs.ConstructLaws.{has_path-one}
use Rattle.sc_eval.proofs.EntitiesLaws.{has_each-is, is_in-and}
use Rattle.sc_eval.proofs.AddressLaws.{text_is_ip}
use Rattle.sc_eval.proofs.ProperLaws.{eval-proper}
use Rattle.sc_ip.proofs.ValueLaws.{ip_of_decides}
use Rattle.sc_eval.proofs.laws.eval_laws.Goals as goal

pub returns-clause-one_name : goal.returns-clause-one_name
returns-clause-one_name c = has_path-one

pub returns-clause-has : goal.returns-clause-has
returns-clause-has c = has_each-is

pub returns-clause-is_in : goal.returns-clause-is_in
returns-clause-is_in c = is_in-and

pub returns-clause-proper : goal.returns-clause-proper
returns-clause-proper c = λ w x world constants. eval-proper w world x constants

pub returns-clause-address : goal.returns-clause-address
returns-clause-address c = λ text a e. text_is_ip text a ((ip_of_decides text a).0 e)
