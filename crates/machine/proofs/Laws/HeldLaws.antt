-- How many resident pages a store has: which records count, when one changes, and at open. Assumes nothing.
use Rattle.std.specs.Prelude.{ℕ, suc, ◌≤◌, ◌<◌, ◌≡◌, refl, ◌≢◌, true, false, List, length, set}
use Rattle.std.proofs.Math.Path.{sym}
use Rattle.std.proofs.Common.{◌∙◌, ap, arith, eqb-true, eq-eqb, get_or-set_same, get_or-set_other}
use Rattle.std.proofs.Math.Decide.{dec_lt, ℕ_discrete}
use Rattle.page.specs.Figures.{record_count}
use Rattle.machine.specs.declared.FrameRecord.{FrameRecord}
use Rattle.machine.specs.declared.Pool.{Pool}
use Rattle.rules.specs.TestLaws.{clash, is-off, and-true, both}
use Rattle.chains.proofs.FrameTally.{tally-le, tally-same, tally-one-more, tally-all, tally-alone}
use Rattle.machine.specs.Machine.{blank, root_record, is_used, record_at, with_record, opened_pool, is_of, held}
use Rattle.machine.proofs.Laws.RootRecords.{root-record, other-record}

-- ---- which records count

-- a used one, for its own store
pub is-of : (t : ℕ) (r : FrameRecord) → is_used r ≡ true → r.store.0 ≡ t → is_of t r ≡ true
is-of t r u e = both _ _ u (eq-eqb _ t e)

pub of_is : (t : ℕ) (r : FrameRecord) → is_of t r ≡ true → (is_used r ≡ true) × (r.store.0 ≡ t)
of_is t r e = let a = and-true (is_used r) _ e in (a.0, eqb-true _ t a.1)

-- for no other
pub not-of : (t : ℕ) (r : FrameRecord) → r.store.0 ≢ t → is_of t r ≡ false
not-of t r n = is-off _ (λ e. n (of_is t r e).1)

-- and an unused one for none
pub unused-of : (t : ℕ) (r : FrameRecord) → is_used r ≡ false → is_of t r ≡ false
unused-of t r u = is-off _ (λ e. clash (sym (of_is t r e).0 ∙ u))

pub of-same : (t : ℕ) (r q : FrameRecord) → is_used q ≡ is_used r → q.store.0 ≡ r.store.0 → is_of t q ≡ is_of t r
of-same t r q u e = rw (u, e) refl

-- ---- another pool

-- the same pages of the store
pub held_same : (p q : Pool) (t : ℕ) → q.count ≡ p.count → ((f : ℕ) → f < p.count → is_of t (record_at q.records f) ≡ is_of t (record_at p.records f)) → held q t ≡ held p t
unfolding held
held_same p q t c h = rw c (tally-same p.count (λ f. is_of t (record_at p.records f)) (λ f. is_of t (record_at q.records f)) h)

pub held-le : (p : Pool) (t : ℕ) → held p t ≤ p.count
unfolding held
held-le p t = tally-le p.count (λ f. is_of t (record_at p.records f))

-- where every frame holds one
pub held_all : (p : Pool) (t : ℕ) → ((f : ℕ) → f < p.count → is_of t (record_at p.records f) ≡ true) → held p t ≡ p.count
unfolding held
held_all p t h = tally-all p.count (λ f. is_of t (record_at p.records f)) h

-- ---- another record for frame e

module _ (p : Pool) (e : ℕ) (r : FrameRecord) where
  abbrev before : ℕ → FrameRecord
  before f = record_at p.records f

  abbrev after : ℕ → FrameRecord
  after f = record_at (set p.records e r) f

  elsewhere : (t f : ℕ) → f ≢ e → is_of t (after f) ≡ is_of t (before f)
  elsewhere t f n = ap (is_of t) (get_or-set_other p.records e f r blank n)

  module _ (room : e < length p.records) where
    here : (t : ℕ) → is_of t (after e) ≡ is_of t r
    here t = ap (is_of t) (get_or-set_same p.records e r blank room)

    -- of as many pages of the store as before
    pub held_kept : (t : ℕ) → is_of t r ≡ is_of t (before e) → held (with_record p e r) t ≡ held p t
    held_kept t h = held_same p (with_record p e r) t refl (λ f l. elim (ℕ_discrete f e) [ yes z ↦ rw z (here t ∙ h) | no z ↦ elsewhere t f z ])

    -- a page of the store comes in: one more
    pub held_more : (t : ℕ) → e < p.count → is_of t (before e) ≡ false → is_of t r ≡ true → held (with_record p e r) t ≡ suc (held p t)
    unfolding held
    held_more t l a b = tally-one-more p.count (λ f. is_of t (before f)) (λ f. is_of t (after f)) e l (λ f n. elsewhere t f n) a (here t ∙ b)

    -- one leaves: one less
    pub held-less : (t : ℕ) → e < p.count → is_of t (before e) ≡ true → is_of t r ≡ false → held p t ≡ suc (held (with_record p e r) t)
    unfolding held
    held-less t l a b = tally-one-more p.count (λ f. is_of t (after f)) (λ f. is_of t (before f)) e l (λ f n. sym (elsewhere t f n)) (here t ∙ b) a

-- ---- at open: each root alone

pub held-opened : (F N T : ℕ) (ceilings : List ℕ) (t : ℕ) → T ≤ record_count → T ≤ F → t < T → held (opened_pool F N T ceilings) t ≡ 1
unfolding held
held-opened F N T ceilings t few room l =
    tally-alone F (λ f. is_of t (record_at (opened_pool F N T ceilings).records f)) t (omega arith) (rw (root-record T t few l) (is-of t (root_record t) refl refl))
    (λ f m n. elim (dec_lt f T) [ yes h ↦ rw (root-record T f few h) (not-of t (root_record f) n) | no h ↦ rw (other-record T f (omega arith)) (unused-of t blank refl) ])
