-- The forms of which a script is made, and how they are filled.
use Rattle.std.specs.Prelude.{◌==◌, ℕ, List, [], ◌∷◌, ◌++◌, codes, if◌then◌else◌}
use Rattle.std.specs.List.{flat_map}
use Rattle.sc_smtlib_forms.specs.declared.form.Form.{Form}
use Rattle.sc_smtlib_forms.specs.declared.form.Form.TheVariants as form

-- the text of each form, in which `W`, `X` and `Y` stand for what is put there
abbrev pub template : Form → List ℕ
-- lines, without their newlines, and what stands in them
template form.Logic = codes "(set-logic ALL)"
template form.LongSort = codes "(define-sort Long () (_ BitVec 64))"
template form.DecimalSort = codes "(define-sort Decimal () (_ BitVec 64))"
template form.EntityData = codes "(declare-datatypes ((W 0)) (((|Y X| (W.id String)))))"
template form.RecordData = codes "(declare-datatypes ((W 0)) (((W.mkX))))"
template form.FieldData = codes " (|W X| Y)"
template form.OptionData = codes "(declare-datatypes ((W 0)) (((W.none) (W.some (W.the X)))))"
template form.AddressData =
    codes "(declare-datatypes ((Ip 0)) (((Ip.mk (Ip.v6 Bool) (Ip.pfx (_ BitVec 128)) (Ip.addr "
    ++ codes "(_ BitVec 128))))))"
template form.Choices = codes "(define-fun W.choices () (Set String) X)"
template form.Constant = codes "(declare-const W X)"
template form.Function = codes "(declare-fun W (X) Y)"
template form.TagFunction = codes "(declare-fun W (X String) Y)"
template form.Definition = codes "(define-fun W () X Y)"
template form.Assertion = codes "(assert W)"
template form.Implication = codes "(=> W X)"
template form.Check = codes "(check-sat)"
-- names
template form.Open = codes "type"
template form.Listed = codes "enum"
template form.Bool = codes "Bool"
template form.Long = codes "Long"
template form.String = codes "String"
template form.Decimal = codes "Decimal"
template form.Ip = codes "Ip"
template form.SetSort = codes "(Set W)"
template form.EntityName = codes "EW"
template form.RecordName = codes "RW"
template form.OptionName = codes "OW"
template form.AttributesName = codes "attrsW"
template form.AncestorsName = codes "ancW.X"
template form.KeysName = codes "keysW"
template form.TagName = codes "tagW"
template form.TermName = codes "tW"
-- terms
template form.True = codes "true"
template form.False = codes "false"
template form.Number64 = codes "(_ bvW 64)"
template form.Number128 = codes "(_ bvW 128)"
template form.Address = codes "(Ip.mk W X Y)"
template form.Text = codes "\"W\""
template form.Uid = codes "(|W X| \"Y\")"
template form.None = codes "W.none"
template form.Principal = codes "principal"
template form.Resource = codes "resource"
template form.Context = codes "context"
template form.Not = codes "(not W)"
template form.And = codes "(and W X)"
template form.Or = codes "(or W X)"
template form.Choice = codes "(ite W X Y)"
template form.Equal = codes "(= W X)"
template form.Add = codes "(bvadd W X)"
template form.Subtract = codes "(bvsub W X)"
template form.Multiply = codes "(bvmul W X)"
template form.AddOverflows =
    codes "(not (= ((_ sign_extend 1) (bvadd W X)) (bvadd ((_ sign_extend 1) W) ((_ sign_extend 1) X))))"
template form.SubtractOverflows =
    codes "(not (= ((_ sign_extend 1) (bvsub W X)) (bvsub ((_ sign_extend 1) W) ((_ sign_extend 1) X))))"
template form.MultiplyOverflows =
    codes "(not (= ((_ sign_extend 64) (bvmul W X)) (bvmul ((_ sign_extend 64) W) "
    ++ codes "((_ sign_extend 64) X))))"
template form.Less = codes "(bvslt W X)"
template form.IsVersion6 = codes "(Ip.v6 W)"
template form.InRange =
    codes "(and (= (Ip.v6 W) (Ip.v6 X)) (= (bvand (Ip.pfx W) (Ip.pfx X)) (Ip.pfx X)) (= (bvand "
    ++ codes "(Ip.addr W) (Ip.pfx X)) (bvand (Ip.addr X) (Ip.pfx X))))"
template form.Call = codes "(W X)"
template form.TagCall = codes "(W X Y)"
template form.Field = codes "(|W X| Y)"
template form.EmptyRecord = codes "W.mk"
template form.Record = codes "(W.mkX)"
template form.EmptySet = codes "(as set.empty W)"
template form.Singleton = codes "(set.singleton W)"
template form.Union = codes "(set.union (set.singleton W) X)"
template form.UnionWith = codes "(set.union (set.singleton W) "
template form.UnionEnd = codes ")"
template form.IsPresent = codes "((_ is W.some) X)"
template form.Held = codes "(ite ((_ is W.some) X) (W.the X) Y)"
template form.Member = codes "(set.member W X)"
template form.Subset = codes "(set.subset W X)"
template form.Common = codes "(not (= (set.inter W X) (as set.empty Y)))"
template form.Like = codes "(str.in_re W X)"
template form.Characters = codes "(str.to_re \"W\")"
template form.AnyText = codes "(re.* re.allchar)"
template form.Sequence = codes "(re.++W)"

-- what stands for a byte of a form where these are put
abbrev pub put_for : List ℕ → List ℕ → List ℕ → ℕ → List ℕ
put_for w x y b = if b == 87 then w else (if b == 88 then x else (if b == 89 then y else b ∷ []))

unfoldable pub filled : Form → List ℕ → List ℕ → List ℕ → List ℕ
filled f w x y = flat_map (put_for w x y) (template f)

-- forms in which nothing is put, one text, two, and three
abbrev pub plain : Form → List ℕ
plain f = filled f [] [] []

abbrev pub with_one : Form → List ℕ → List ℕ
with_one f w = filled f w [] []

abbrev pub with_two : Form → List ℕ → List ℕ → List ℕ
with_two f w x = filled f w x []

abbrev pub with_three : Form → List ℕ → List ℕ → List ℕ → List ℕ
with_three f w x y = filled f w x y
