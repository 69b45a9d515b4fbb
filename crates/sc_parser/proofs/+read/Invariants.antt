use Rattle.std.proofs.Common.{ℕ, ◌+◌, ◌-◌, ◌*◌, ◌≤◌, List, [], length}
use Rattle.sc_ast.specs.declared.expr.Expr.{Expr}
use Rattle.sc_lexemes.specs.declared.lexeme.Lexeme.{Lexeme}
use Rattle.sc_lexemes.specs.declared.operator.Level.{Level}
use Rattle.sc_lexemes.specs.declared.operator.Level.TheVariants.{Or, And, Relation, Add, Multiply}
use Rattle.sc_lexemes.specs.Keys.{AreKeys}
use Rattle.sc_lexemes.specs.Outcomes.{Outcome}
use Rattle.sc_parser.specs.Reads.{ReadsChain, ReadsMore, ReadsAccesses, ReadsItems, ReadsFields}
use Rattle.sc_parser.proofs.+read.Given as goal

-- the tokens that are left count most, and before a token each function goes on to one of a lower rank
abbrev pub left : List Lexeme → ℕ → ℕ
left ts at = 32 * (length ts - at)

-- operands of a tighter level have a lower rank
abbrev pub operand_rank : Level → ℕ
operand_rank Or = 17
operand_rank And = 15
operand_rank Relation = 13
operand_rank Add = 12
operand_rank Multiply = 10

abbrev pub decreases-chain::chain : goal.decreases-chain::chain
decreases-chain::chain l = left l.ts.now l.cursor.now.at + operand_rank l.level + 1

abbrev pub decreases-chain::operand : goal.decreases-chain::operand
decreases-chain::operand l = left l.ts.now l.cursor.now.at + operand_rank l.level

abbrev pub decreases-chain::relation : goal.decreases-chain::relation
decreases-chain::relation l = left l.ts.now l.cursor.now.at + 14

abbrev pub decreases-chain::tail : goal.decreases-chain::tail
decreases-chain::tail l = left l.ts.now l.cursor.now.at + 4

abbrev pub decreases-chain::is : goal.decreases-chain::is
decreases-chain::is l = left l.ts.now l.cursor.now.at + 3

abbrev pub decreases-expr::enclosed : goal.decreases-expr::enclosed
decreases-expr::enclosed l = left l.ts.now l.cursor.now.at + 21

abbrev pub decreases-expr::expr : goal.decreases-expr::expr
decreases-expr::expr l = left l.ts.now l.cursor.now.at + 19

abbrev pub decreases-expr::inner : goal.decreases-expr::inner
decreases-expr::inner l = left l.ts.now l.cursor.now.at + 20

abbrev pub decreases-items::fields : goal.decreases-items::fields
decreases-items::fields l = left l.ts.now l.cursor.now.at + 1

abbrev pub decreases-items::items : goal.decreases-items::items
decreases-items::items l = left l.ts.now l.cursor.now.at + 21

abbrev pub decreases-member::accesses : goal.decreases-member::accesses
decreases-member::accesses l = left l.ts.now l.cursor.now.at + 4

abbrev pub decreases-member::dot : goal.decreases-member::dot
decreases-member::dot l = left l.ts.now l.cursor.now.at + 3

abbrev pub decreases-member::member : goal.decreases-member::member
decreases-member::member l = left l.ts.now l.cursor.now.at + 7

abbrev pub decreases-prefix::unary : goal.decreases-prefix::unary
decreases-prefix::unary l = left l.ts.now l.cursor.now.at + 9

abbrev pub decreases-primary::function : goal.decreases-primary::function
decreases-primary::function l = left l.ts.now l.cursor.now.at + 4

abbrev pub decreases-primary::named : goal.decreases-primary::named
decreases-primary::named l = left l.ts.now l.cursor.now.at + 5

abbrev pub decreases-primary::opened : goal.decreases-primary::opened
decreases-primary::opened l = left l.ts.now l.cursor.now.at + 5

abbrev pub decreases-primary::primary : goal.decreases-primary::primary
decreases-primary::primary l = left l.ts.now l.cursor.now.at + 6

abbrev pub decreases-prefix::prefixes : goal.decreases-prefix::prefixes
decreases-prefix::prefixes l = left l.ts.now l.cursor.now.at + 8

-- what comes of the rest comes of the whole
abbrev pub invariant-chain::chain-loop-place : goal.invariant-chain::chain-loop-place
invariant-chain::chain-loop-place l = record {
  forward : l.fn.cursor.at ≤ l.cursor.at;
  within : l.cursor.at ≤ length l.ts;
  rest : (o : Outcome Expr) → ReadsMore l.ts l.level l.cursor l.so_far o → ReadsChain l.ts l.level l.fn.cursor o;
}

abbrev pub decreases-chain::chain-loop-place : goal.decreases-chain::chain-loop-place
decreases-chain::chain-loop-place l = length l.ts - l.cursor.at

abbrev pub invariant-items::fields-loop-fs : goal.invariant-items::fields-loop-fs
invariant-items::fields-loop-fs l = record {
  forward : l.fn.cursor.at ≤ l.cursor.at;
  within : l.cursor.at ≤ length l.ts;
  keys : AreKeys l.names l.fs;
  rest : (o : Outcome (List (List ℕ × Expr))) → ReadsFields l.ts l.cursor l.fs o → ReadsFields l.ts l.fn.cursor [] o;
}

abbrev pub decreases-items::fields-loop-fs : goal.decreases-items::fields-loop-fs
decreases-items::fields-loop-fs l = length l.ts - l.cursor.at

abbrev pub invariant-items::items-loop-xs : goal.invariant-items::items-loop-xs
invariant-items::items-loop-xs l = record {
  forward : l.fn.cursor.at ≤ l.cursor.at;
  within : l.cursor.at ≤ length l.ts;
  rest : (o : Outcome (List Expr)) → ReadsItems l.ts l.close l.cursor l.xs o → ReadsItems l.ts l.close l.fn.cursor [] o;
}

abbrev pub decreases-items::items-loop-xs : goal.decreases-items::items-loop-xs
decreases-items::items-loop-xs l = length l.ts - l.cursor.at

abbrev pub invariant-member::accesses-loop-place : goal.invariant-member::accesses-loop-place
invariant-member::accesses-loop-place l = record {
  forward : l.fn.cursor.at ≤ l.cursor.at;
  within : l.cursor.at ≤ length l.ts;
  rest : (o : Outcome Expr) → ReadsAccesses l.ts l.cursor l.so_far o → ReadsAccesses l.ts l.fn.cursor l.fn.receiver o;
}

abbrev pub decreases-member::accesses-loop-place : goal.decreases-member::accesses-loop-place
decreases-member::accesses-loop-place l = length l.ts - l.cursor.at
