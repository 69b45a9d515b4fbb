-- What rules say at closed terms that are given by their numbers.
use Rattle.std.proofs.Common.{◌≡◌, ℕ, [], Option, Some, None, refl, ap, ◌∙◌}
use Rattle.sc_terms.specs.Trees.{Tree}
use Rattle.sc_footprint.specs.Problems.{Posed, term_of}
use Rattle.sc_rule_laws.specs.Signed.{Said}
use Rattle.sc_rule_instances.specs.Given.{IsGiven, term_at}
use Rattle.sc_rule_instances.specs.Instances.{on_two, on_three, on_four}
use Rattle.sc_rule_instances.specs.declared.given.Closed.{Closed}

module _ (p : Posed) where
  pub two_given : (a b : ℕ) (x y : Closed) (rule : Tree → Tree → Said) → IsGiven p a x → IsGiven p b y → on_two (term_of p a) (term_of p b) rule ≡ rule (term_at p x) (term_at p y)
  two_given a b x y rule g h = ap (λ (o : Option Tree). on_two o (term_of p b) rule) g.is ∙ ap (λ (o : Option Tree). on_two (Some (term_at p x)) o rule) h.is

  -- two of three aren't given
  of_two : (o q r : Option Tree) (rule : Tree → Tree → Tree → Said) → ((pair : Tree → Tree → Said) → on_two o q pair ≡ None) → on_three o q r rule ≡ None
  of_two (Some a) (Some b) r rule h = let e : Some [] ≡ None = h (λ c d. Some []) in absurd cc
  of_two (Some a) None r rule h = refl
  of_two None q r rule h = refl

  pub three_none : (a b c : ℕ) (rule : Tree → Tree → Tree → Said) → ((pair : Tree → Tree → Said) → on_two (term_of p a) (term_of p b) pair ≡ None) → on_three (term_of p a) (term_of p b) (term_of p c) rule ≡ None
  three_none a b c rule h = of_two (term_of p a) (term_of p b) (term_of p c) rule h

  -- the first two of four aren't given, or the last two
  of_first : (o q r s : Option Tree) (rule : Tree → Tree → Tree → Tree → Said) → ((pair : Tree → Tree → Said) → on_two o q pair ≡ None) → on_four o q r s rule ≡ None
  of_first (Some a) (Some b) r s rule h = let e : Some [] ≡ None = h (λ c d. Some []) in absurd cc
  of_first (Some a) None r s rule h = refl
  of_first None q r s rule h = refl

  of_last : (o q r s : Option Tree) (rule : Tree → Tree → Tree → Tree → Said) → ((pair : Tree → Tree → Said) → on_two r s pair ≡ None) → on_four o q r s rule ≡ None
  of_last (Some a) (Some b) (Some c) (Some d) rule h = let e : Some [] ≡ None = h (λ c d. Some []) in absurd cc
  of_last (Some a) (Some b) (Some c) None rule h = refl
  of_last (Some a) (Some b) None s rule h = refl
  of_last (Some a) None r s rule h = refl
  of_last None q r s rule h = refl

  pub four_none : (a b c d : ℕ) (rule : Tree → Tree → Tree → Tree → Said) → ((pair : Tree → Tree → Said) → on_two (term_of p a) (term_of p b) pair ≡ None)
      → on_four (term_of p a) (term_of p b) (term_of p c) (term_of p d) rule ≡ None
  four_none a b c d rule h = of_first (term_of p a) (term_of p b) (term_of p c) (term_of p d) rule h

  pub last_none : (a b c d : ℕ) (rule : Tree → Tree → Tree → Tree → Said) → ((pair : Tree → Tree → Said) → on_two (term_of p c) (term_of p d) pair ≡ None)
      → on_four (term_of p a) (term_of p b) (term_of p c) (term_of p d) rule ≡ None
  last_none a b c d rule h = of_last (term_of p a) (term_of p b) (term_of p c) (term_of p d) rule h
