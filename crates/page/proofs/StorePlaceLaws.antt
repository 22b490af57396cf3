-- Laws of the places of pages in the buffer of the stores. Assumes nothing.
use Rattle.std.specs.Prelude.{ℕ, suc, ◌+◌, ◌*◌, ◌/◌, ◌%◌, ◌<◌, ◌≤◌, ◌≡◌}
use Rattle.std.proofs.Common.{sym, ◌∙◌, ap, arith, mul-suc, zero-mul, mul-le-mul_left, mod-eq_of_lt, mod-lt}
use Rattle.std.proofs.Math.Nat.{mul-add-div, mul-add-mod_self_left, div-eq_of_lt, div-add-mod, lt_of_mul-lt-mul_left}
use Rattle.std.proofs.Math.Decide.{ℕ_discrete}
use Rattle.page.specs.Figures.{most_pages, most_stores}
use Rattle.page.specs.StorePlaces.{store_place}

module _ (N : ℕ) where
  -- a store ends where the next one begins
  pub store-room : (t T : ℕ) → t < T → N * t + N ≤ N * T
  store-room t T l = let e : N * suc t ≤ N * T = mul-le-mul_left N l in rw (mul-suc N t) at e

  pub place-lt : (t T p : ℕ) → t < T → p < N → store_place N t p < N * T
  place-lt t T p l h = omega (arith, store-room t T l)

  -- a place tells its store and its page
  pub place-store : (t p : ℕ) → p < N → store_place N t p / N ≡ t
  place-store t p h =
      let e : store_place N t p / N ≡ t + p / N = mul-add-div (omega arith) t p in
      let d : p / N ≡ 0 = div-eq_of_lt h in
      omega arith

  pub place-page : (t p : ℕ) → p < N → store_place N t p % N ≡ p
  place-page t p h = mul-add-mod_self_left N t p ∙ mod-eq_of_lt h

  pub place-inj : (t p u q : ℕ) → p < N → q < N → store_place N t p ≡ store_place N u q → (t ≡ u) × (p ≡ q)
  place-inj t p u q hp hq e =
      (sym (place-store t p hp) ∙ ap (λ (x : ℕ). x / N) e ∙ place-store u q hq, sym (place-page t p hp) ∙ ap (λ (x : ℕ). x % N) e ∙ place-page u q hq)

  -- every place is a page's of a store
  pub place-split : (T P : ℕ) → P < N * T → (P / N < T) × (P % N < N) × (store_place N (P / N) (P % N) ≡ P)
  place-split T P h =
      let some : 0 < N = elim (ℕ_discrete N 0) [ yes z ↦ absurd (let e : N * T ≡ 0 = rw z (zero-mul T) in omega arith) | no z ↦ omega arith ] in
      let e : N * (P / N) + P % N ≡ P = div-add-mod P N in
      (lt_of_mul-lt-mul_left N (omega arith), mod-lt P some, e)

-- there are at most 16,384
pub few-places : (N t p : ℕ) → N ≤ most_pages → t < most_stores → p < most_pages → store_place N t p < most_pages * most_stores
few-places N t p few l h = let e : N * t ≤ N * 3 = mul-le-mul_left N (omega arith) in omega arith
