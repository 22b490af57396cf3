-- The table of the chain that each frame belongs in, filled frame after frame. Assumes nothing.
use Rattle.std.specs.Prelude.{ℕ, ◌+◌, ◌%◌, ◌<◌, ◌≤◌, ◌≡◌, refl, ◌≢◌, not, List, eqb, length, get_or, set, replicate}
use Rattle.std.proofs.Common.{sym, ◌∙◌, ap, arith, eq-eqb, ne_eqb, length-set, get_or-set_same, get_or-set_other}
use Rattle.std.proofs.Math.Decide.{ℕ_discrete}
use Rattle.std.proofs.lemmas.List.{length-replicate}
use Rattle.page.specs.Figures.{most_frames, most_pages}
use Rattle.rules.specs.Tests.{pick}
use Rattle.rules.specs.TestLaws.{or_left, or_right, or-skip, pick_yes, pick_no}
use Rattle.chains.specs.Chain.{buckets, bucket_of}
use Rattle.residents.specs.Residents.{key_by, page_by, holds_page}
use Rattle.directory.specs.Homes.{home_by, home-on-by, home-off-by}
use Rattle.directory.specs.Pass.{HomeTable}

-- the chain of a frame other than 0 with the key k: 67 for none
unfoldable pub home_with : ℕ → ℕ
home_with k = pick (eqb k 0) buckets (bucket_of (k % most_pages))

pub with_none : (k : ℕ) → k ≡ 0 → home_with k ≡ buckets
unfolding home_with
with_none k e = sym (pick_yes _ (eq-eqb k 0 e) refl)

pub with-page : (k : ℕ) → k ≢ 0 → home_with k ≡ bucket_of (k % most_pages)
unfolding home_with
with-page k e = sym (pick_no _ (ne_eqb k 0 e) refl)

pub record HomesTo (residents w : List ℕ) (n : ℕ) : Type 0 where
  pub size : length w ≡ most_frames
  pub each : (f : ℕ) → f < n → get_or w f 0 ≡ home_with (key_by residents f)

pub homes_none : (residents : List ℕ) → HomesTo residents (replicate most_frames buckets) 0
homes_none residents = record { size = length-replicate {A = ℕ} most_frames buckets; each = λ f l. absurd (omega arith) }

pub homes_more : (residents w : List ℕ) (n x : ℕ) → n < most_frames → x ≡ home_with (key_by residents n) → HomesTo residents w n → HomesTo residents (set w n x) (n + 1)
homes_more residents w n x l e T = record {
  size = length-set w n x ∙ T.size;
  each = λ f h. elim (ℕ_discrete f n) [
    | yes z ↦ rw z (get_or-set_same w n x 0 (let s : length w ≡ most_frames = T.size in omega arith) ∙ e)
    | no z ↦ get_or-set_other w n f x 0 z ∙ T.each f (omega arith)
  ];
}

home-with : (residents : List ℕ) (f : ℕ) → f < most_frames → f ≢ 0 → home_with (key_by residents f) ≡ home_by residents f
unfolding holds_page
home-with residents f l n = elim (ℕ_discrete (key_by residents f) 0) [
  | yes z ↦ with_none _ z ∙ sym (home-off-by residents f (or-skip _ (ne_eqb f 0 n) ∙ ap not (eq-eqb (key_by residents f) 0 z)))
  | no z ↦ with-page _ z ∙ sym (home-on-by residents f l (or_right (eqb f 0) (ap not (ne_eqb (key_by residents f) 0 z))))
]

-- frame 0 holds its page, whatever that is
pub homes-all : (residents w : List ℕ) (n x : ℕ) → most_frames ≤ n → x ≡ bucket_of (page_by residents 0) → HomesTo residents w n → HomeTable (home_by residents) (set w 0 x)
unfolding holds_page
homes-all residents w n x l e T = record {
  size = length-set w 0 x ∙ T.size;
  right = λ f h. elim (ℕ_discrete f 0) [
    | yes z ↦ rw z (get_or-set_same w 0 x 0 (let s : length w ≡ most_frames = T.size in omega arith) ∙ e ∙ sym (home-on-by residents 0 (omega arith) (or_left _ (eq-eqb 0 0 refl))))
    | no z ↦ get_or-set_other w 0 f x 0 z ∙ T.each f (omega arith) ∙ home-with residents f h z
  ];
}
