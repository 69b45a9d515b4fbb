use Rattle.std.proofs.Common.{map, subst}
use Rattle.std.proofs.lemmas.Result.{IfOk-weaker}
use Rattle.sc_lists.specs.Members.{Has}
use Rattle.sc_terms.specs.Tables.{tree}
use Rattle.sc_smtlib_lines.specs.Depths.{depth_cmp}
use Rattle.sc_smtlib_lines.specs.Subterms.{AreJust, datatypes_of}
use Rattle.sc_smtlib_lines.proofs.OneScriptLaws.{whole_script}
use Rattle.sc_smtlib_lines.proofs.script.script_text.Goals as goal

pub returns : goal.returns
returns c =
    IfOk-weaker c.named_script.result _ _
    (λ v h. whole_script _ (map (tree c.args.terms.now) c.args.numbers.now.keys) _ _ v.items c.requires.subterms
    (subst (λ z. AreJust depth_cmp (Has (datatypes_of (map (tree c.args.terms.now) z))) c.in_ok-sorts.sorts) c.as_slice-keys.ensures.keys c.in_ok-sorts.ensures)
    c.as_slice-declared.ensures h)
    c.named_script.ensures
