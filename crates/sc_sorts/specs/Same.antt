-- Nodes that `==` finds equal are one.
use Rattle.std.proofs.Common.{◌≡◌, ℕ, Bool, true, false, ◌&&◌, nat_eq, is_eq, List, [], ◌∷◌, ap, refl, sym, ◌∙◌}
use Rattle.std.proofs.lemmas.Bool.{false≢true}
use Rattle.std.proofs.lemmas.Map.Lookups.{exact_unsigned, exact_signed, exact_bytes}
use Rattle.std.specs.Cmp.{first_so, second_so}
use Rattle.std.specs.Cmp.Lexicographic.{pointwise, slice_cmp}
use Rattle.std.specs.declared.cmp.Ordering.TheVariants.{Equal}
use Rattle.std.specs.Ordering.{ordering_then, bool_cmp, nat_cmp}
use Rattle.sc_ip.specs.declared.ip.Ip.{Ip}
use Rattle.sc_ip.specs.declared.ip.Ip.TheVariants.{V4, V6}
use Rattle.sc_ip.specs.contracts.ip.IpOrd.TheImpl.{ghosts as ip_ord}
use Rattle.sc_laws.proofs.NumberLaws.{nat_eq_true}
use Rattle.sc_lists.proofs.OrderingLaws.{is_eq_true, ordering_then_equal}
use Rattle.sc_lists.proofs.TextLaws.{bytes_eq_true}
use Rattle.sc_names.specs.declared.uid.Uid.{Uid}
use Rattle.sc_names.specs.Uids.{uid_cmp}
use Rattle.sc_names.proofs.UidLaws.{uid_cmp_level}
use Rattle.sc_pattern.specs.declared.part.Part.{Part}
use Rattle.sc_pattern.specs.declared.part.Part.TheVariants as parts
use Rattle.sc_pattern.specs.contracts.part.PartPartialEq.TheImpl.{ghosts as part_eq}
use Rattle.sc_sorts.specs.declared.sort.Sort.{Sort}
use Rattle.sc_sorts.specs.contracts.sort.SortPartialEq.TheImpl.{ghosts as sort_eq}
use Rattle.sc_sorts.specs.OrderLaws.{sort_eq_decides}
use Rattle.sc_sorts.specs.declared.node.Literal.{Literal}
use Rattle.sc_sorts.specs.declared.node.Literal.TheVariants as literal
use Rattle.sc_sorts.specs.declared.node.Leaf.{Leaf}
use Rattle.sc_sorts.specs.declared.node.Leaf.TheVariants as leafs
use Rattle.sc_sorts.specs.declared.node.UnaryOp.{UnaryOp}
use Rattle.sc_sorts.specs.declared.node.UnaryOp.TheVariants as unary
use Rattle.sc_sorts.specs.declared.node.BinaryOp.{BinaryOp}
use Rattle.sc_sorts.specs.declared.node.BinaryOp.TheVariants as binary
use Rattle.sc_sorts.specs.declared.node.ManyOp.{ManyOp}
use Rattle.sc_sorts.specs.declared.node.ManyOp.TheVariants as manys
use Rattle.sc_sorts.specs.declared.node.Node.{Node}
use Rattle.sc_sorts.specs.declared.node.Node.TheVariants as node
use Rattle.sc_sorts.specs.contracts.node.LiteralOrd.TheImpl.{ghosts as literal_ord}
use Rattle.sc_sorts.specs.contracts.node.LiteralOrd.TheImpl.Laws.{matches_eq-law as literal_level}
use Rattle.sc_sorts.specs.contracts.node.LiteralPartialEq.TheImpl.{ghosts as literal_eq}
use Rattle.sc_sorts.specs.contracts.node.LeafPartialEq.TheImpl.{ghosts as leaf_eq}
use Rattle.sc_sorts.specs.contracts.node.UnaryOpPartialEq.TheImpl.{ghosts as unary_eq}
use Rattle.sc_sorts.specs.contracts.node.BinaryOpPartialEq.TheImpl.{ghosts as binary_eq}
use Rattle.sc_sorts.specs.contracts.node.ManyOpPartialEq.TheImpl.{ghosts as many_eq}
use Rattle.sc_sorts.specs.contracts.node.NodePartialEq.TheImpl.{ghosts as node_eq}

never : (Q : Type 0) → false ≡ true → Q
never Q h = absurd (false≢true h)

same_sort : (r s : Sort) → sort_eq.eq r s ≡ true → r ≡ s
same_sort r s h = (sort_eq_decides r s).0 h

same_piece : (a b : Part) → part_eq.eq a b ≡ true → a ≡ b
same_piece parts.Star parts.Star h = refl
same_piece parts.Star _ h = never _ h
same_piece (parts.Char a) (parts.Char b) h = ap parts.Char (nat_eq_true a b h)
same_piece (parts.Char a) _ h = never _ h

same_pattern : (a b : List Part) → pointwise part_eq.eq a b ≡ true → a ≡ b
same_pattern [] [] h = refl
same_pattern [] (y ∷ ys) h = never _ h
same_pattern (x ∷ xs) [] h = never _ h
same_pattern (x ∷ xs) (y ∷ ys) h =
    let e : x ≡ y = same_piece x y (first_so (part_eq.eq x y) (pointwise part_eq.eq xs ys) h) in
    let f : xs ≡ ys = same_pattern xs ys (second_so (part_eq.eq x y) (pointwise part_eq.eq xs ys) h) in
    λ i. e i ∷ f i

-- ---- literals

exact_bool : (a b : Bool) → bool_cmp a b ≡ Equal → a ≡ b
exact_bool true true h = refl
exact_bool true false h = never _ (ap is_eq h)
exact_bool false true h = never _ (ap is_eq h)
exact_bool false false h = refl

both_numbers : (m n p q : ℕ) → ordering_then (nat_cmp m n) (nat_cmp p q) ≡ Equal → (m ≡ n) × (p ≡ q)
both_numbers m n p q h = let parts =
    ordering_then_equal (nat_cmp m n) (nat_cmp p q) h in (exact_unsigned m n parts.0, exact_unsigned p q parts.1)

exact_ip : (a b : Ip) → ip_ord.cmp a b ≡ Equal → a ≡ b
exact_ip (V4 m p) (V4 n q) h = let same = both_numbers m n p q h in λ i. V4 (same.0 i) (same.1 i)
exact_ip (V4 m p) (V6 n q) h = never _ (ap is_eq h)
exact_ip (V6 m p) (V4 n q) h = never _ (ap is_eq h)
exact_ip (V6 m p) (V6 n q) h = let same = both_numbers m n p q h in λ i. V6 (same.0 i) (same.1 i)

exact_uids : (us vs : List Uid) → slice_cmp uid_cmp us vs ≡ Equal → us ≡ vs
exact_uids [] [] h = refl
exact_uids [] (v ∷ vs) h = never _ (ap is_eq h)
exact_uids (u ∷ us) [] h = never _ (ap is_eq h)
exact_uids (u ∷ us) (v ∷ vs) h =
    let p = ordering_then_equal _ _ h in
    let first : u ≡ v = uid_cmp_level u v p.0 in
    let rest : us ≡ vs = exact_uids us vs p.1 in
    λ i. first i ∷ rest i

pub exact_literal : (a b : Literal) → literal_ord.cmp a b ≡ Equal → a ≡ b
exact_literal (literal.Bool a) (literal.Bool b) h = ap literal.Bool (exact_bool a b h)
exact_literal (literal.Bool a) _ h = never _ (ap is_eq h)
exact_literal (literal.Long a) (literal.Long b) h = ap literal.Long (exact_signed a b h)
exact_literal (literal.Long a) _ h = never _ (ap is_eq h)
exact_literal (literal.String a) (literal.String b) h = ap literal.String (exact_bytes a b h)
exact_literal (literal.String a) _ h = never _ (ap is_eq h)
exact_literal (literal.Decimal a) (literal.Decimal b) h = ap literal.Decimal (exact_signed a b h)
exact_literal (literal.Decimal a) _ h = never _ (ap is_eq h)
exact_literal (literal.Ip a) (literal.Ip b) h = ap literal.Ip (exact_ip a b h)
exact_literal (literal.Ip a) _ h = never _ (ap is_eq h)
exact_literal (literal.Entity u us) (literal.Entity v vs) h =
    let p = ordering_then_equal _ _ h in
    let first : u ≡ v = uid_cmp_level u v p.0 in
    let rest : us ≡ vs = exact_uids us vs p.1 in
    λ i. literal.Entity (first i) (rest i)
exact_literal (literal.Entity u us) _ h = never _ (ap is_eq h)

pub same_literal : (a b : Literal) → literal_eq.eq a b ≡ true → a ≡ b
same_literal a b h = exact_literal a b (is_eq_true (literal_ord.cmp a b) (sym (literal_level a b) ∙ h))

-- ---- nodes

pub same_leaf : (a b : Leaf) → leaf_eq.eq a b ≡ true → a ≡ b
same_leaf (leafs.Literal a) (leafs.Literal b) h = ap leafs.Literal (same_literal a b h)
same_leaf (leafs.Literal a) _ h = never _ h
same_leaf (leafs.None r) (leafs.None s) h = ap leafs.None (same_sort r s h)
same_leaf (leafs.None r) _ h = never _ h
same_leaf (leafs.Principal r) (leafs.Principal s) h = ap leafs.Principal (same_sort r s h)
same_leaf (leafs.Principal r) _ h = never _ h
same_leaf (leafs.Resource r) (leafs.Resource s) h = ap leafs.Resource (same_sort r s h)
same_leaf (leafs.Resource r) _ h = never _ h
same_leaf (leafs.Context r) (leafs.Context s) h = ap leafs.Context (same_sort r s h)
same_leaf (leafs.Context r) _ h = never _ h

pub same_unary : (o p : UnaryOp) → unary_eq.eq o p ≡ true → o ≡ p
same_unary unary.Not unary.Not h = refl
same_unary unary.Not _ h = never _ h
same_unary (unary.Bit a0) (unary.Bit b0) h = ap unary.Bit (nat_eq_true a0 b0 h)
same_unary (unary.Bit a0) _ h = never _ h
same_unary (unary.CarryIn a0) (unary.CarryIn b0) h = ap unary.CarryIn (nat_eq_true a0 b0 h)
same_unary (unary.CarryIn a0) _ h = never _ h
same_unary (unary.ProductRow a0 a1) (unary.ProductRow b0 b1) h =
    let e : a0 ≡ b0 = nat_eq_true a0 b0 (first_so (nat_eq a0 b0) (nat_eq a1 b1) h) in
    let f : a1 ≡ b1 = nat_eq_true a1 b1 (second_so (nat_eq a0 b0) (nat_eq a1 b1) h) in
    λ i. unary.ProductRow (e i) (f i)
same_unary (unary.ProductRow a0 a1) _ h = never _ h
same_unary (unary.ProductCarry a0 a1) (unary.ProductCarry b0 b1) h =
    let e : a0 ≡ b0 = nat_eq_true a0 b0 (first_so (nat_eq a0 b0) (nat_eq a1 b1) h) in
    let f : a1 ≡ b1 = nat_eq_true a1 b1 (second_so (nat_eq a0 b0) (nat_eq a1 b1) h) in
    λ i. unary.ProductCarry (e i) (f i)
same_unary (unary.ProductCarry a0 a1) _ h = never _ h
same_unary (unary.Attributes a0) (unary.Attributes b0) h = ap unary.Attributes (same_sort a0 b0 h)
same_unary (unary.Attributes a0) _ h = never _ h
same_unary (unary.Ancestors a0) (unary.Ancestors b0) h = ap unary.Ancestors (same_sort a0 b0 h)
same_unary (unary.Ancestors a0) _ h = never _ h
same_unary unary.Keys unary.Keys h = refl
same_unary unary.Keys _ h = never _ h
same_unary (unary.Field a0) (unary.Field b0) h = ap unary.Field (bytes_eq_true a0 b0 h)
same_unary (unary.Field a0) _ h = never _ h
same_unary unary.Present unary.Present h = refl
same_unary unary.Present _ h = never _ h
same_unary unary.Held unary.Held h = refl
same_unary unary.Held _ h = never _ h
same_unary (unary.Like a0) (unary.Like b0) h = ap unary.Like (same_pattern a0 b0 h)
same_unary (unary.Like a0) _ h = never _ h

pub same_binary : (o p : BinaryOp) → binary_eq.eq o p ≡ true → o ≡ p
same_binary binary.And binary.And h = refl
same_binary binary.And _ h = never _ h
same_binary binary.Or binary.Or h = refl
same_binary binary.Or _ h = never _ h
same_binary binary.Equal binary.Equal h = refl
same_binary binary.Equal _ h = never _ h
same_binary binary.Add binary.Add h = refl
same_binary binary.Add _ h = never _ h
same_binary binary.Subtract binary.Subtract h = refl
same_binary binary.Subtract _ h = never _ h
same_binary binary.Multiply binary.Multiply h = refl
same_binary binary.Multiply _ h = never _ h
same_binary binary.AddOverflows binary.AddOverflows h = refl
same_binary binary.AddOverflows _ h = never _ h
same_binary binary.SubtractOverflows binary.SubtractOverflows h = refl
same_binary binary.SubtractOverflows _ h = never _ h
same_binary binary.MultiplyOverflows binary.MultiplyOverflows h = refl
same_binary binary.MultiplyOverflows _ h = never _ h
same_binary binary.Less binary.Less h = refl
same_binary binary.Less _ h = never _ h
same_binary binary.InRange binary.InRange h = refl
same_binary binary.InRange _ h = never _ h
same_binary (binary.Low a0) (binary.Low b0) h = ap binary.Low (nat_eq_true a0 b0 h)
same_binary (binary.Low a0) _ h = never _ h
same_binary (binary.Tag a0) (binary.Tag b0) h = ap binary.Tag (same_sort a0 b0 h)
same_binary (binary.Tag a0) _ h = never _ h
same_binary binary.Member binary.Member h = refl
same_binary binary.Member _ h = never _ h
same_binary binary.Subset binary.Subset h = refl
same_binary binary.Subset _ h = never _ h
same_binary binary.Common binary.Common h = refl
same_binary binary.Common _ h = never _ h
same_binary binary.DifferencePick binary.DifferencePick h = refl
same_binary binary.DifferencePick _ h = never _ h
same_binary binary.CommonPick binary.CommonPick h = refl
same_binary binary.CommonPick _ h = never _ h

pub same_many : (o p : ManyOp) → many_eq.eq o p ≡ true → o ≡ p
same_many manys.Record manys.Record h = refl
same_many manys.Record _ h = never _ h
same_many (manys.Set r) (manys.Set s) h = ap manys.Set (same_sort r s h)
same_many (manys.Set r) _ h = never _ h

abbrev pair_eq : List ℕ × ℕ → List ℕ × ℕ → Bool
pair_eq x y = pointwise nat_eq x.0 y.0 && nat_eq x.1 y.1

same_parts : (xs ys : List (List ℕ × ℕ)) → pointwise pair_eq xs ys ≡ true → xs ≡ ys
same_parts [] [] h = refl
same_parts [] (y ∷ ys) h = never _ h
same_parts (x ∷ xs) [] h = never _ h
same_parts (x ∷ xs) (y ∷ ys) h =
    let first : pair_eq x y ≡ true = first_so (pair_eq x y) (pointwise pair_eq xs ys) h in
    let d : x.0 ≡ y.0 = bytes_eq_true x.0 y.0 (first_so (pointwise nat_eq x.0 y.0) (nat_eq x.1 y.1) first) in
    let e : x.1 ≡ y.1 = nat_eq_true x.1 y.1 (second_so (pointwise nat_eq x.0 y.0) (nat_eq x.1 y.1) first) in
    let f : xs ≡ ys = same_parts xs ys (second_so (pair_eq x y) (pointwise pair_eq xs ys) h) in
    λ i. (d i, e i) ∷ f i

pub same_node : (x y : Node) → node_eq.eq x y ≡ true → x ≡ y
same_node (node.Leaf l) (node.Leaf m) h = ap node.Leaf (same_leaf l m h)
same_node (node.Leaf l) _ h = never _ h
same_node (node.One o a) (node.One p b) h =
    let e = same_unary o p (first_so (unary_eq.eq o p) (nat_eq a b) h) in
    let f = nat_eq_true a b (second_so (unary_eq.eq o p) (nat_eq a b) h) in
    λ i. node.One (e i) (f i)
same_node (node.One o a) _ h = never _ h
same_node (node.Two o a b) (node.Two p c d) h =
    let rest = second_so (binary_eq.eq o p) (nat_eq a c && nat_eq b d) h in
    let e = same_binary o p (first_so (binary_eq.eq o p) (nat_eq a c && nat_eq b d) h) in
    let f = nat_eq_true a c (first_so (nat_eq a c) (nat_eq b d) rest) in
    let g = nat_eq_true b d (second_so (nat_eq a c) (nat_eq b d) rest) in
    λ i. node.Two (e i) (f i) (g i)
same_node (node.Two o a b) _ h = never _ h
same_node (node.Choice a b c) (node.Choice d e f) h =
    let rest = second_so (nat_eq a d) (nat_eq b e && nat_eq c f) h in
    let x = nat_eq_true a d (first_so (nat_eq a d) (nat_eq b e && nat_eq c f) h) in
    let y = nat_eq_true b e (first_so (nat_eq b e) (nat_eq c f) rest) in
    let z = nat_eq_true c f (second_so (nat_eq b e) (nat_eq c f) rest) in
    λ i. node.Choice (x i) (y i) (z i)
same_node (node.Choice a b c) _ h = never _ h
same_node (node.Many o xs) (node.Many p ys) h =
    let e = same_many o p (first_so (many_eq.eq o p) (pointwise pair_eq xs ys) h) in
    let f = same_parts xs ys (second_so (many_eq.eq o p) (pointwise pair_eq xs ys) h) in
    λ i. node.Many (e i) (f i)
same_node (node.Many o xs) _ h = never _ h
