-- What is asked: a question, of one or of two policy sets.
use Rattle.std.specs.Prelude.{◌≡◌, ◌↔◌, ◌⊎◌, List, [], Option, Contains, unwrap_or, is_some}
use Rattle.sc_names.specs.declared.uid.Uid.{Uid}
use Rattle.sc_ast.specs.declared.policy.Policy.{Policy}
use Rattle.sc_ast.specs.Literals.{literals as uids_of}
use Rattle.sc_eval.specs.Written.{HaveProperConstants}
use Rattle.sc_question.specs.declared.question.Question.{Question}
use Rattle.sc_question.specs.Questions.{takes_two}

pub record Asked : Type 0 where
  pub question : Question
  pub first : List Policy
  pub against : Option (List Policy)
  pub literals : List Uid

-- the second set, and none where there is none
abbrev pub second : Asked → List Policy
second q = unwrap_or q.against []

-- there is a second set exactly for the questions that take two, the literals are the uids that the sets write, and
-- the constants of the sets are values
pub record IsAsked (q : Asked) : Type 0 where
  pub two : is_some q.against ≡ takes_two q.question
  pub written : (u : Uid) → Contains q.literals u ↔ (Contains (uids_of q.first) u ⊎ Contains (uids_of (second q)) u)
  pub first_proper : HaveProperConstants q.first
  pub second_proper : HaveProperConstants (second q)
