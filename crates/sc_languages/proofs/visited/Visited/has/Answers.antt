use Rattle.std.proofs.Common.{◌∙◌, sym, subst}
use Rattle.sc_lists.specs.Members.{Has}
use Rattle.sc_languages.specs.Searching.{places_of}
use Rattle.sc_languages.proofs.VisitedLaws.{has_place}
use Rattle.sc_languages.proofs.visited.Visited.has.Goals as goal

pub returns : goal.returns
returns c = λ h. subst (λ es. Has (places_of es) c.args.marks.now) c.self.view_is (has_place (λ k. k.items) (λ v. v.items) c.self.inside.entries.entries c.args.marks.now (sym c.contains_key.ensures ∙ h))
