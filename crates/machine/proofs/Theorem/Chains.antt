-- The directory along with the records: pages that stay, one that leaves its frame, one that comes into one, and the directory that open makes. Assumes nothing.
use Rattle.std.specs.Prelude.{ℕ, zero, suc, ◌≤◌, ◌<◌, ◌≡◌, refl, ◌≢◌, true, false, List, [], ltb, length, get_or, set, replicate}
use Rattle.std.proofs.Common.{sym, ap, ◌∙◌, arith, lt-ltb, le-ltb, get_or-set_other}
use Rattle.std.proofs.Math.Decide.{dec_lt}
use Rattle.std.proofs.lemmas.List.{length-replicate}
use Rattle.page.specs.Figures.{most_frames}
use Rattle.machine.specs.declared.FrameRecord.{FrameRecord}
use Rattle.machine.specs.declared.Pool.{Pool}
use Rattle.rules.specs.Tests.{pick}
use Rattle.rules.specs.TestLaws.{case, on, off, clash, pick_yes, pick_no}
use Rattle.machine.specs.Machine.{blank, is_used, record_at, page_in, with_record, occupied}
use Rattle.machine.proofs.Laws.AgreementFacts.{occupied-used, make-occupied}
use Rattle.chains.specs.Chain.{directory_size, buckets, bucket_of, link_at, opened_directory, entered, taken_out}
use Rattle.machine.specs.ByChain.{last_first, RootsAlone}
use Rattle.chains.proofs.ChainLaws.{chain-none, chain-list, enter-head, entered-length}
use Rattle.chains.specs.Links.{In, Apart, Single, Chain, Framed, Chained}
use Rattle.chains.proofs.ChainFacts.{chained-ext, enter-chained, taken-chained}
use Rattle.machine.proofs.Laws.DirectoryFacts.{home_of, home_same, home-on, home_off, home-framed, bucket-lt}
use Rattle.machine.proofs.Theorem.RecordChange.{SamePlaces, change-here, change-other}

-- no page moves
pub steady-chained : (p q : Pool) (d : List ℕ) → q.count ≡ p.count → SamePlaces p.records q.records → Chained (home_of p) d → Chained (home_of q) d
steady-chained p q d c S C = chained-ext (home_of p) (home_of q) d (λ f. home_same p q f c (S.used f) (S.page f)) C

-- a frame that isn't in use is empty
pub unused-empty : (p : Pool) (f : ℕ) → is_used (record_at p.records f) ≡ false → occupied p f ≡ false
unused-empty p f u = elim (case (occupied p f)) [ off o ↦ o | on o ↦ absurd (clash (sym (occupied-used p f o) ∙ u)) ]

module _ (p : Pool) (few : p.count ≤ most_frames) (d : List ℕ) (size : length d ≡ directory_size) (C : Chained (home_of p) d) (f : ℕ) (lt : f < length p.records) where
  others : (r : FrameRecord) (g : ℕ) → g ≢ f → home_of (with_record p f r) g ≡ home_of p g
  others r g n = home_same p (with_record p f r) g refl (ap is_used (change-other p.records f r g n)) (ap (λ t. t.page.0) (change-other p.records f r g n))

  -- the page in frame f leaves it
  pub evict-chained : occupied p f ≡ true → Chained (home_of (with_record p f blank)) (taken_out d (bucket_of (page_in p.records f)) f)
  evict-chained o = taken-chained (home_of p) (home_of (with_record p f blank)) (home-framed p few) d size C (bucket_of (page_in p.records f)) f (bucket-lt _) (home-on p f o)
      (let e : home_of (with_record p f blank) f ≡ buckets = home_off (with_record p f blank) f (unused-empty (with_record p f blank) f (ap is_used (change-here p.records f blank lt))) in omega arith)
      (others blank)

  -- a page comes into frame f, with record r
  pub load-chained : f < p.count → is_used (record_at p.records f) ≡ false → (r : FrameRecord) → is_used r ≡ true → Chained (home_of (with_record p f r)) (entered d (bucket_of r.page.0) f)
  load-chained l free r u = enter-chained (home_of p) (home_of (with_record p f r)) (home-framed p few) d size C (bucket_of r.page.0) f (bucket-lt _) (omega arith)
      (let e : home_of p f ≡ buckets = home_off p f (unused-empty p f free) in omega arith)
      (home-on (with_record p f r) f (make-occupied (with_record p f r) f l (ap is_used (change-here p.records f r lt) ∙ u)) ∙ ap (λ t. bucket_of t.page.0) (change-here p.records f r lt))
      (others r)

-- ---- "Open leaves page 0 alone in it"; of T stores, the roots, "entered in the directory in that order"

abbrev zeros : ℕ → List ℕ
zeros n = replicate n 0

zero-at : (n a : ℕ) → get_or (zeros n) a 0 ≡ 0
zero-at zero a = refl
zero-at (suc n) zero = refl
zero-at (suc n) (suc a) = zero-at n a

pub opened-size : (T : ℕ) → length (opened_directory T) ≡ directory_size
unfolding opened_directory
opened-size zero = length-replicate {A = ℕ} directory_size 0
opened-size (suc t) = entered-length (opened_directory t) 0 t ∙ opened-size t

opened-other : (T a : ℕ) → a ≢ 0 → ((t : ℕ) → t < T → a ≢ link_at t) → get_or (opened_directory T) a 0 ≡ 0
unfolding opened_directory entered
opened-other zero a n h = zero-at directory_size a
opened-other (suc t) a n h =
    get_or-set_other (set (opened_directory t) (link_at t) (get_or (opened_directory t) 0 0)) 0 a (suc t) 0 n
    ∙ get_or-set_other (opened_directory t) (link_at t) a (get_or (opened_directory t) 0 0) 0 (h t (omega arith)) ∙ opened-other t a n (λ u l. h u (omega arith))

-- the roots' frames are chain 0, the last first

last-length : (T : ℕ) → length (last_first T) ≡ T
unfolding last_first
last-length zero = refl
last-length (suc t) = ap suc (last-length t)

last_apart : (T e : ℕ) → T ≤ e → Apart e (last_first T)
unfolding last_first Apart
last_apart zero e l = tt
last_apart (suc t) e l = (λ z. omega arith, last_apart t e (omega arith))

opened-chain : (T : ℕ) → T ≤ most_frames → Chain (opened_directory T) 0 (last_first T)
unfolding opened_directory last_first
opened-chain zero l = chain-none (zeros directory_size) 0 (zero-at directory_size 0)
opened-chain (suc t) l = enter-head (opened_directory t) (opened-size t) 0 t (omega arith) (omega arith) (last_first t) (last_apart t t (omega arith)) (opened-chain t (omega arith))

pub opened-alone : (T : ℕ) → T ≤ most_frames → RootsAlone T (opened_directory T)
opened-alone T l = record {
  size = opened-size T;
  chain = chain-list (opened_directory T) (suc most_frames) 0 (last_first T) (omega (arith, last-length T)) (opened-chain T l);
  others = opened-other T;
}

-- the frames below t belong in chain 0, the others in none
unfoldable root_home : ℕ → ℕ → ℕ
root_home t f = pick (ltb f t) 0 buckets

root-home : (t f : ℕ) → f < t → root_home t f ≡ 0
unfolding root_home
root-home t f l = sym (pick_yes buckets (lt-ltb f t l) refl)

no-home : (t f : ℕ) → t ≤ f → root_home t f ≡ buckets
unfolding root_home
no-home t f l = sym (pick_no 0 (le-ltb f t l) refl)

root-framed : (t : ℕ) → t ≤ most_frames → Framed (root_home t)
root-framed t few f h = elim (dec_lt f t) [ yes l ↦ omega arith | no l ↦ absurd (omega (arith, no-home t f (omega arith))) ]

root-more : (t g : ℕ) → g ≢ t → root_home (suc t) g ≡ root_home t g
root-more t g n = elim (dec_lt g t) [ yes l ↦ root-home (suc t) g (omega arith) ∙ sym (root-home t g l) | no l ↦ no-home (suc t) g (omega arith) ∙ sym (no-home t g (omega arith)) ]

roots-chained : (T : ℕ) → T ≤ most_frames → Chained (root_home T) (opened_directory T)
unfolding opened_directory In Single
roots-chained zero l = record {
  at = λ b h. record {
    chain = [];
    links = chain-none (zeros directory_size) b (zero-at directory_size b);
    single = tt;
    only = λ f i. absurd i;
    all = λ f q. absurd (omega (arith, no-home 0 f (omega arith)));
  };
  rest = λ f m h. zero-at directory_size (link_at f);
}
roots-chained (suc t) l =
    enter-chained (root_home t) (root_home (suc t)) (root-framed t (omega arith)) (opened_directory t) (opened-size t) (roots-chained t (omega arith)) 0 t (omega arith) (omega arith)
    (omega (arith, no-home t t (omega arith))) (root-home (suc t) t (omega arith)) (root-more t)

pub opened-chained : (T : ℕ) → T ≤ most_frames → (home : ℕ → ℕ) → ((f : ℕ) → f < T → home f ≡ 0) → ((f : ℕ) → T ≤ f → home f ≡ buckets) → Chained home (opened_directory T)
opened-chained T l home z e = chained-ext (root_home T) home (opened_directory T)
    (λ f. elim (dec_lt f T) [ yes h ↦ z f h ∙ sym (root-home T f h) | no h ↦ e f (omega arith) ∙ sym (no-home T f (omega arith)) ]) (roots-chained T l)
