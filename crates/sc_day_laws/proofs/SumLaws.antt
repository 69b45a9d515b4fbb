-- The sums give the wrapped product.
use Rattle.std.proofs.Common.{◌≡◌, ℕ, ℤ, pos, ◌+ℤ◌, ◌*ℤ◌, ap, sym, ◌∙◌, arith, SFits}
use Rattle.std.proofs.lemmas.Int.{ints, int_wrap_fits, int_wrap-add_left, int_wrap-add_right}
use Rattle.std.specs.Int.{w64, int_wrap}
use Rattle.sc_dates.specs.Days.{day}
use Rattle.sc_day_laws.specs.Sums.{doubled, thrice, five_times, day_times}

combine : (x a b : ℤ) (m n k : ℕ) → x *ℤ pos m +ℤ x *ℤ pos n ≡ x *ℤ pos k → a ≡ int_wrap w64 (x *ℤ pos m) → b ≡ int_wrap w64 (x *ℤ pos n)
    → int_wrap w64 (a +ℤ b) ≡ int_wrap w64 (x *ℤ pos k)
combine x a b m n k d e f =
    (λ i. int_wrap w64 (e i +ℤ f i)) ∙ int_wrap-add_left w64 (x *ℤ pos m) (int_wrap w64 (x *ℤ pos n))
    ∙ int_wrap-add_right w64 (x *ℤ pos m) (x *ℤ pos n) ∙ ap (int_wrap w64) d

doubled_is : (x y : ℤ) (m k : ℕ) → x *ℤ pos m +ℤ x *ℤ pos m ≡ x *ℤ pos k → y ≡ int_wrap w64 (x *ℤ pos m) → doubled y ≡ int_wrap w64 (x *ℤ pos k)
unfolding doubled
doubled_is x y m k d e = combine x y y m m k d e e

thrice_is : (x y : ℤ) (m n k : ℕ) → x *ℤ pos m +ℤ x *ℤ pos m ≡ x *ℤ pos n → x *ℤ pos n +ℤ x *ℤ pos m ≡ x *ℤ pos k → y ≡ int_wrap w64 (x *ℤ pos m) → thrice y ≡ int_wrap w64 (x *ℤ pos k)
unfolding thrice
thrice_is x y m n k d c e = combine x (doubled y) y n m k c (doubled_is x y m n d e) e

five_times_is : (x y : ℤ) (m n q k : ℕ) → x *ℤ pos m +ℤ x *ℤ pos m ≡ x *ℤ pos n → x *ℤ pos n +ℤ x *ℤ pos n ≡ x *ℤ pos q → x *ℤ pos q +ℤ x *ℤ pos m ≡ x *ℤ pos k
    → y ≡ int_wrap w64 (x *ℤ pos m) → five_times y ≡ int_wrap w64 (x *ℤ pos k)
unfolding five_times
five_times_is x y m n q k d b c e = combine x (doubled (doubled y)) y q m k c (doubled_is x (doubled y) n q b (doubled_is x y m n d e)) e

pub day_times_is : (x : ℤ) → SFits w64 x → day_times x ≡ int_wrap w64 (x *ℤ pos day)
unfolding day_times
day_times_is x f =
    let e0 : x ≡ int_wrap w64 (x *ℤ pos 1) = sym (int_wrap_fits w64 x f) ∙ ap (int_wrap w64) (one x) in
    let e1 = doubled_is x _ 1 2 (omega (arith, ints)) e0 in
    let e2 = doubled_is x _ 2 4 (omega (arith, ints)) e1 in
    let e3 = doubled_is x _ 4 8 (omega (arith, ints)) e2 in
    let e4 = doubled_is x _ 8 16 (omega (arith, ints)) e3 in
    let e5 = doubled_is x _ 16 32 (omega (arith, ints)) e4 in
    let e6 = doubled_is x _ 32 64 (omega (arith, ints)) e5 in
    let e7 = doubled_is x _ 64 128 (omega (arith, ints)) e6 in
    let e8 = doubled_is x _ 128 256 (omega (arith, ints)) e7 in
    let e9 = doubled_is x _ 256 512 (omega (arith, ints)) e8 in
    let e10 = doubled_is x _ 512 1024 (omega (arith, ints)) e9 in
    let e11 = thrice_is x _ 1024 2048 3072 (omega (arith, ints)) (omega (arith, ints)) e10 in
    let e12 = thrice_is x _ 3072 6144 9216 (omega (arith, ints)) (omega (arith, ints)) e11 in
    let e13 = thrice_is x _ 9216 18432 27648 (omega (arith, ints)) (omega (arith, ints)) e12 in
    let e14 = five_times_is x _ 27648 55296 110592 138240 (omega (arith, ints)) (omega (arith, ints)) (omega (arith, ints)) e13 in
    let e15 = five_times_is x _ 138240 276480 552960 691200 (omega (arith, ints)) (omega (arith, ints)) (omega (arith, ints)) e14 in
    let e16 = five_times_is x _ 691200 1382400 2764800 3456000 (omega (arith, ints)) (omega (arith, ints)) (omega (arith, ints)) e15 in
    let e17 = five_times_is x _ 3456000 6912000 13824000 17280000 (omega (arith, ints)) (omega (arith, ints)) (omega (arith, ints)) e16 in
    let e18 = five_times_is x _ 17280000 34560000 69120000 86400000 (omega (arith, ints)) (omega (arith, ints)) (omega (arith, ints)) e17 in
    e18
  where
    one : (x : ℤ) → x ≡ x *ℤ pos 1
    one x = omega (arith, ints)
