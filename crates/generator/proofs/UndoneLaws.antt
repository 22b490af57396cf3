-- The number before a draw, and that it is the only one. Assumes nothing.
use Rattle.std.specs.Prelude.{ℕ, ◌+◌, ◌^◌, ◌<◌, ◌≡◌, refl, ◌≢◌}
use Rattle.std.proofs.Common.{sym, ap, ◌∙◌, arith}
use Rattle.generator.specs.Generator.{xor_left, xor_right, number_after, thrice, number_before, Undone}
use Rattle.generator.specs.ShiftLaws.{left-twice, left_over, left_lt, right-twice, right-over, right_lt}

-- ---- each of the three, undone: a shift taken twice is its double, and one by 32 or more leaves the number

four-times : (k x : ℕ) → xor_left k (thrice k x) ≡ xor_left ((k + k) + (k + k)) x
four-times k x = left-twice k (xor_left k (xor_left k x)) ∙ ap (xor_left (k + k)) (left-twice k x) ∙ left-twice (k + k) x

undo-13 : (x : ℕ) → xor_left 13 (thrice 13 x) ≡ x
undo-13 x = four-times 13 x ∙ left_over 20 x

undo-17 : (x : ℕ) → x < 2 ^ 32 → xor_right 17 (xor_right 17 x) ≡ x
undo-17 x h = right-twice 17 x ∙ right-over 34 x (omega arith)

undo-5 : (x : ℕ) → xor_left 5 (thrice 5 (xor_left 5 (thrice 5 x))) ≡ x
undo-5 x = four-times 5 (xor_left 5 (thrice 5 x)) ∙ ap (xor_left 20) (four-times 5 x) ∙ left-twice 20 x ∙ left_over 8 x

-- ---- numbers of 32 bits stay such

after-fits : (x : ℕ) → x < 2 ^ 32 → number_after x < 2 ^ 32
unfolding number_after
after-fits x h = left_lt 5 _ (right_lt 17 _ (left_lt 13 x h))

thrice-fits : (k x : ℕ) → x < 2 ^ 32 → thrice k x < 2 ^ 32
thrice-fits k x h = left_lt k _ (left_lt k _ (left_lt k x h))

seven-fits : (x : ℕ) → x < 2 ^ 32 → thrice 5 (xor_left 5 (thrice 5 x)) < 2 ^ 32
seven-fits x h = thrice-fits 5 _ (left_lt 5 _ (thrice-fits 5 x h))

before-fits : (y : ℕ) → y < 2 ^ 32 → number_before y < 2 ^ 32
unfolding number_before
before-fits y h = thrice-fits 13 _ (right_lt 17 _ (seven-fits y h))

-- ---- the two equations

pub after-before : (y : ℕ) → y < 2 ^ 32 → number_after (number_before y) ≡ y
unfolding number_after number_before
after-before y h =
    ap (λ (k : ℕ). xor_left 5 (xor_right 17 k)) (undo-13 (xor_right 17 (thrice 5 (xor_left 5 (thrice 5 y)))))
    ∙ ap (xor_left 5) (undo-17 (thrice 5 (xor_left 5 (thrice 5 y))) (seven-fits y h))
    ∙ undo-5 y

pub before-after : (x : ℕ) → x < 2 ^ 32 → number_before (number_after x) ≡ x
unfolding number_after number_before
before-after x h =
    ap (λ (k : ℕ). thrice 13 (xor_right 17 k)) (undo-5 (xor_right 17 (xor_left 13 x)))
    ∙ ap (thrice 13) (undo-17 (xor_left 13 x) (left_lt 13 x h))
    ∙ undo-13 x

-- ---- the claim

-- only the seed is read as another number: a draw from 0 gives 0
after-zero : number_after 0 ≡ 0
unfolding number_after xor_left xor_right
after-zero = refl

one-before : (x y : ℕ) → x < 2 ^ 32 → y < 2 ^ 32 → number_after x ≡ number_after y → x ≡ y
one-before x y hx hy e = sym (before-after x hx) ∙ ap number_before e ∙ before-after y hy

pub never-zero : (x : ℕ) → x < 2 ^ 32 → x ≢ 0 → number_after x ≢ 0
never-zero x h n e = n (one-before x 0 h (omega arith) (e ∙ sym after-zero))

-- every number but 0 is given by one draw
pub undone : (y : ℕ) → y < 2 ^ 32 → y ≢ 0 → Undone y
undone y h n = record {
  fits = before-fits y h;
  gives = after-before y h;
  nonzero = λ e. n (sym (after-before y h) ∙ ap number_after e ∙ after-zero);
  only = λ x l e. one-before x (number_before y) l (before-fits y h) (e ∙ sym (after-before y h));
}

-- "a draw from any number but 0 is undone by exactly one earlier number, which isn't 0 either"
pub draw-undone : (x : ℕ) → x < 2 ^ 32 → x ≢ 0 → Undone (number_after x)
draw-undone x h n = undone (number_after x) (after-fits x h) (never-zero x h n)
