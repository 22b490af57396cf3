-- Demand 3's words for residence and pins, read by the invariant: the frame that find gives holds the page, and the balance is the records' pins. Assumes nothing.
use Rattle.std.specs.Prelude.{ℕ, ◌+◌, ◌<◌, ◌≡◌, refl, ◌≢◌}
use Rattle.std.proofs.Common.{sym, ◌∙◌, arith, lt-ltb, ltb-true}
use Rattle.page.specs.StorePlaces.{store_place}
use Rattle.page.proofs.StorePlaceLaws.{place-inj}
use Rattle.machine.specs.declared.Handle.{Handle}
use Rattle.machine.specs.Machine.{State, page_in, store_in, found}
use Rattle.machine.specs.History.{Point}
use Rattle.machine.specs.Demand3.{at, InFrame, Resident, Pinned}
use Rattle.machine.specs.ByChain.{Recorded, Unrecorded, ByChain}
use Rattle.machine.proofs.Laws.FindByChain.{by_chain}
use Rattle.machine.proofs.Theorem.View.{view, Occupied, Absent}
use Rattle.machine.proofs.Theorem.Invariant.{fit_of, Invariant}
use Rattle.machine.proofs.Theorem.Holders.{occupied-of, of-occupied, Holder, place, held, unheld}
use Rattle.machine.proofs.Theorem.FrameReads.{store_below, paged-below}
use Rattle.machine.proofs.Theorem.TestReads.{Handled}
use Rattle.machine.proofs.Theorem.InvariantReads.{pool-kept}

-- frame f is occupied and holds page p of store t
pub record Sits (s : State) (t p f : ℕ) : Type 0 where
  pub at : Occupied (view s) f
  pub store : store_in s.pool.records f ≡ t
  pub page : page_in s.pool.records f ≡ p

pub sits-place : (s : State) (t p f : ℕ) → Sits s t p f → (view s).page f ≡ store_place s.pool.pages t p
sits-place s t p f S = rw (S.store, S.page)

pub sits-holder : (s : State) (t p f : ℕ) → Sits s t p f → Holder (view s) (store_place s.pool.pages t p) f
sits-holder s t p f S = record { at = S.at; page = sits-place s t p f S }

-- an occupied frame and its own page; a handle's
pub sits-self : (s : State) (f : ℕ) → Occupied (view s) f → Sits s (store_in s.pool.records f) (page_in s.pool.records f) f
sits-self s f o = record { at = o; store = refl; page = refl }

pub sits-handled : (s : State) (h : Handle) → Handled s h → Sits s h.store.0 h.page.0 h.frame.0
sits-handled s h H = record { at = H.at; store = H.store; page = H.page }

module _ (x : Point) (I : Invariant x) where
  -- the page that sits somewhere is one of N, of one of T stores, and sits nowhere else
  pub sits-store : (t p f : ℕ) → Sits x.now t p f → t < x.now.pool.stores
  sits-store t p f S = rw S.store at (store_below x.now (fit_of x I) f)

  pub sits-below : (t p f : ℕ) → Sits x.now t p f → p < x.now.pool.pages
  sits-below t p f S = rw S.page at (paged-below x.now (fit_of x I) f)

  pub sits-once : (t p f g : ℕ) → Sits x.now t p f → Sits x.now t p g → f ≡ g
  sits-once t p f g a b = I.shape.apart f g a.at b.at (sits-place x.now t p f a ∙ sym (sits-place x.now t p g b))

  pub holder-sits : (t p f : ℕ) → p < x.now.pool.pages → Holder (view x.now) (at x t p) f → Sits x.now t p f
  holder-sits t p f l h = let e = place-inj x.now.pool.pages _ _ t p (paged-below x.now (fit_of x I) f) l h.page in record { at = h.at; store = e.0; page = e.1 }

  -- find and peek go by the directory rightly
  pub goes-by-chain : ByChain x.now
  goes-by-chain = by_chain x.now (pool-kept x I)

  -- ---- a page is in a frame exactly where that holds it
  pub recorded-of : (t p f : ℕ) → Sits x.now t p f → Recorded x.now t p f
  recorded-of t p f S = record { at = of-occupied x.now f S.at; store = S.store; page = S.page }

  pub of-recorded : (t p f : ℕ) → Recorded x.now t p f → Sits x.now t p f
  of-recorded t p f r = record { at = occupied-of x.now f r.at; store = r.store; page = r.page }

  pub unrecorded-of : (t p : ℕ) → Absent (view x.now) (at x t p) → Unrecorded x.now t p
  unrecorded-of t p a f r = let S = of-recorded t p f r in a f S.at (sits-place x.now t p f S)

  pub in_frame : (t p f : ℕ) → Sits x.now t p f → InFrame x t p f
  in_frame t p f S = (goes-by-chain.found t p f).1 (recorded-of t p f S)

  pub resident-of : (t p f : ℕ) → Sits x.now t p f → Resident x t p
  resident-of t p f S = (f, in_frame t p f S)

  pub sits : (t p f : ℕ) → InFrame x t p f → Sits x.now t p f
  sits t p f e = of-recorded t p f ((goes-by-chain.found t p f).0 e)

  pub not-resident : (t p : ℕ) → Absent (view x.now) (at x t p) → Resident x t p → ⊥
  not-resident t p a r = let S = sits t p r.0 r.1 in a r.0 S.at (sits-place x.now t p r.0 S)

  pub absent-of : (t p : ℕ) → p < x.now.pool.pages → (Resident x t p → ⊥) → Absent (view x.now) (at x t p)
  absent-of t p l n f o e = n (resident-of t p f (holder-sits t p f l (record { at = o; page = e })))

  -- ---- a page is pinned exactly where its frame has pins
  pub pinned-sits : (t p : ℕ) → Pinned x t p → (f : ℕ) × Sits x.now t p f × ((view x.now).pins f ≢ 0)
  pinned-sits t p B =
      let q : ℕ = at x t p in
      let l : x.balance.unfixes q < x.balance.fixes q = ltb-true (x.balance.unfixes q) (x.balance.fixes q) B.more in
      elim (place x.now q) [
        | unheld a ↦ absurd (omega (arith, I.pins.none q a))
        | held h ↦
            let c : x.balance.fixes q ≡ x.balance.unfixes q + (view x.now).pins (found x.now.pool q) = rw h.page at (I.pins.count (found x.now.pool q) h.at) in
            (found x.now.pool q, holder-sits t p (found x.now.pool q) B.below h, λ z. omega arith)
      ]

  pub pinned-of : (t p f : ℕ) → Sits x.now t p f → (view x.now).pins f ≢ 0 → Pinned x t p
  pinned-of t p f S n =
      let q : ℕ = at x t p in
      let c : x.balance.fixes q ≡ x.balance.unfixes q + (view x.now).pins f = rw (sits-place x.now t p f S) at (I.pins.count f S.at) in
      record { below = sits-below t p f S; more = lt-ltb (x.balance.unfixes q) (x.balance.fixes q) (omega arith) }
