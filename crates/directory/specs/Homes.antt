-- In which chain each frame belongs, by the table of the page in each frame. Assumes nothing.
use Rattle.std.specs.Prelude.{ℕ, suc, ◌+◌, ◌-◌, ◌<◌, ◌≤◌, ◌≡◌, refl, Bool, true, false, List, [], ◌∷◌, ◌⊎◌, eqb, ltb, length, get_or, Some, option_map, unwrap_or}
use Rattle.std.proofs.Common.{sym, ◌∙◌, ap, inl, inr, arith, lt-ltb, le-ltb}
use Rattle.std.proofs.Math.Decide.{dec_lt}
use Rattle.std.proofs.Math.ListN.{get_or-eq_default}
use Rattle.page.specs.declared.FrameIndex.{FrameIndex}
use Rattle.page.specs.Figures.{most_frames}
use Rattle.page.specs.StorePlaces.{store_place}
use Rattle.rules.specs.Tests.{pick}
use Rattle.rules.specs.TestLaws.{case, on, off, pick_yes, pick_no, pick-either, same}
use Rattle.machine.specs.Machine.{State, page_in, store_in, place_in, occupied}
use Rattle.machine.proofs.Laws.AgreementFacts.{Agreed, occupied-lt}
use Rattle.chains.specs.Chain.{directory_size, buckets, bucket_of, link_at, chain_of, Sought, seek_in, sought_in}
use Rattle.machine.specs.Directory.{chains_agree}
use Rattle.machine.specs.Calls.{sought}
use Rattle.chains.specs.Links.{In, Chain, Bucket, Chained, Framed}
use Rattle.chains.proofs.ChainFacts.{chained-ext, bucket-chain}
use Rattle.machine.proofs.Laws.DirectoryFacts.{bucket-lt, home_of, home-on, home_off, home-framed, chains-facts, chains-tests}
use Rattle.machine.proofs.Laws.Ready.{Kept}
use Rattle.residents.specs.Residents.{key_of, key_by, page_by, Residents, holds_page}
use Rattle.residents.specs.ResidentLaws.{key-place, page-by, holds-page}
use Rattle.rules.specs.Deciding.{Decides, decided, fails}
use Rattle.directory.specs.declared.Sought.{Sought as Found}

-- the chain that frame f belongs in, 67 for none
unfoldable pub home_by : List ℕ → ℕ → ℕ
home_by residents f = pick (ltb f most_frames) (pick (holds_page residents f) (bucket_of (page_by residents f)) buckets) buckets

-- no byte is above 64
abbrev pub Small : List ℕ → Type 0
Small d = (a : ℕ) → get_or d a 0 ≤ most_frames

pub home-on-by : (residents : List ℕ) (f : ℕ) → f < most_frames → holds_page residents f ≡ true → home_by residents f ≡ bucket_of (page_by residents f)
unfolding home_by
home-on-by residents f l o = sym (pick_yes _ (lt-ltb f most_frames l) (pick_yes _ o refl))

pub home-off-by : (residents : List ℕ) (f : ℕ) → holds_page residents f ≡ false → home_by residents f ≡ buckets
unfolding home_by
home-off-by residents f o = elim (dec_lt f most_frames) [ yes l ↦ sym (pick_yes _ (lt-ltb f most_frames l) (pick_no _ o refl)) | no l ↦ sym (pick_no _ (le-ltb f most_frames (omega arith)) refl) ]

-- no frame from 64 on belongs anywhere
pub home-beyond : (residents : List ℕ) (f : ℕ) → most_frames ≤ f → home_by residents f ≡ buckets
unfolding home_by
home-beyond residents f l = sym (pick_no _ (le-ltb f most_frames l) refl)

pub home-most : (residents : List ℕ) (f : ℕ) → home_by residents f ≤ buckets
home-most residents f = elim (dec_lt (home_by residents f) buckets) [
  | yes l ↦ omega arith
  | no l ↦ elim (case (holds_page residents f)) [
    | on o ↦ elim (dec_lt f most_frames) [
      | yes h ↦ let e : home_by residents f ≡ bucket_of (page_by residents f) = home-on-by residents f h o in let k : bucket_of (page_by residents f) < buckets = bucket-lt (page_by residents f) in omega arith
      | no h ↦ let e : home_by residents f ≡ buckets = home-beyond residents f (omega arith) in omega arith
    ]
    | off o ↦ let e : home_by residents f ≡ buckets = home-off-by residents f o in omega arith
  ]
]

-- ---- where records and frames agree

module _ (s : State) (few : s.pool.count ≤ most_frames) (some : 1 ≤ s.pool.stores) (A : Agreed s.pool s.frames) (residents : List ℕ) (T : Residents s.pool.records residents) where
  home_by_lem : (f : ℕ) → home_by residents f ≡ home_of s.pool f
  home_by_lem f = elim (dec_lt f most_frames) [
    | yes l ↦ elim (case (occupied s.pool f)) [
      | on o ↦ home-on-by residents f l (holds-page s few some A residents T f l ∙ o) ∙ ap bucket_of (page-by T f l) ∙ sym (home-on s.pool f o)
      | off o ↦ home-off-by residents f (holds-page s few some A residents T f l ∙ o) ∙ sym (home_off s.pool f o)
    ]
    | no l ↦ home-beyond residents f (omega arith) ∙ sym (home_off s.pool f (elim (case (occupied s.pool f)) [ off o ↦ o | on o ↦ absurd (omega (arith, occupied-lt s.pool f o, few)) ]))
  ]

  -- the pass over the table decides rule 2's test
  pub decides-agree : (d : List ℕ) (r : Bool) → Decides r (Chained (home_by residents) d) → r ≡ chains_agree s.pool d
  decides-agree d r D = same _ _
      (λ e. chains-tests s.pool few d (chained-ext (home_by residents) (home_of s.pool) d (λ f. sym (home_by_lem f)) (decided r _ D e)))
      (λ t. elim (case r) [
        | on e ↦ e
        | off e ↦ absurd (fails r _ D e (chained-ext (home_of s.pool) (home_by residents) d home_by_lem (chains-facts s.pool few d t)))
      ])

-- ---- what rule 2 gives to the walks

-- what a search found as request A.3 has it, where F stands for no frame
abbrev pub sought_as : ℕ → Found → Sought
sought_as F r = record { frame = unwrap_or (option_map (λ f. f.0) r.frame) F; compared = r.compared }

-- a byte that a chain passes is 0 or gives one of its frames
passes-small : (d : List ℕ) (a : ℕ) (l : List ℕ) → Chain d a l → ((f : ℕ) → In f l → f < most_frames) → get_or d a 0 ≤ most_frames
unfolding Chain In
passes-small d a [] c h = omega arith
passes-small d a (f ∷ l) c h = let e : get_or d a 0 ≡ suc f = c.0 in let q : f < most_frames = h f (inl refl) in omega arith

link-small : (d : List ℕ) (a : ℕ) (l : List ℕ) → Chain d a l → ((f : ℕ) → In f l → f < most_frames) → (g : ℕ) → In g l → get_or d (link_at g) 0 ≤ most_frames
unfolding Chain In
link-small d a [] c h g i = absurd i
link-small d a (f ∷ l) c h g (inl z) = rw (← z) (passes-small d (link_at f) l c.1 (λ k j. h k (inr j)))
link-small d a (f ∷ l) c h g (inr i) = link-small d (link_at f) l c.1 (λ k j. h k (inr j)) g i

chained-small : (home : ℕ → ℕ) → Framed home → (d : List ℕ) → length d ≡ directory_size → Chained home d → Small d
chained-small home framed d size C a = elim (dec_lt a buckets) [
  | yes l ↦ let B = C.at a l in passes-small d a B.chain B.links (within a l B)
  | no l ↦ elim (dec_lt a directory_size) [
    | yes h ↦
        let f : ℕ = a - buckets in
        let e : link_at f ≡ a = omega arith in
        rw (← e) (elim (dec_lt (home f) buckets) [
          | yes k ↦ let B = C.at (home f) k in link-small d (home f) B.chain B.links (within (home f) k B) f (B.all f refl)
          | no k ↦ let z : get_or d (link_at f) 0 ≡ 0 = C.rest f (omega arith) (omega arith) in omega arith
        ])
    | no h ↦ let z : get_or d a 0 ≡ 0 = get_or-eq_default d 0 (omega arith) in omega arith
  ]
]
  where
    within : (b : ℕ) → b < buckets → (B : Bucket home d b) → (f : ℕ) → In f B.chain → f < most_frames
    within b l B f i = framed f (let e : home f ≡ b = B.only f i in omega arith)

-- the chains of a directory can be followed
pub record Followed (d : List ℕ) : Type 0 where
  pub size : length d ≡ directory_size
  pub small : Small d

pub followed : (s : State) → Kept s → Followed s.directory
followed s K = record { size = K.directory; small = chained-small (home_of s.pool) (home-framed s.pool K.sized.most) s.directory K.directory K.chained }

-- a search by keys is one by places: both are asked of each frame of the chain alike
seek-same : (key place : ℕ → ℕ) (F k q c : ℕ) (l : List ℕ) → ((f : ℕ) → In f l → eqb (key f) k ≡ eqb (place f) q) → seek_in key F k c l ≡ seek_in place F q c l
unfolding seek_in In
seek-same key place F k q c [] h = refl
seek-same key place F k q c (f ∷ l) h = rw (h f (inl refl), seek-same key place F k q (c + 1) l (λ g i. h g (inr i))) refl

-- what it finds is no frame, or one of the chain
found-in : (key : ℕ → ℕ) (F k c : ℕ) (l : List ℕ) → ((seek_in key F k c l).frame ≡ F) ⊎ In (seek_in key F k c l).frame l
unfolding seek_in In
found-in key F k c [] = inl refl
found-in key F k c (f ∷ l) =
    pick-either (λ (t : Sought). (t.frame ≡ F) ⊎ In t.frame (f ∷ l)) (eqb (key f) k) _ _ (inr (inl refl))
    (elim (found-in key F k (c + 1) l) [ inl e ↦ inl e | inr i ↦ inr (inr i) ])

module _ (s : State) (K : Kept s) (residents : List ℕ) (T : Residents s.pool.records residents) (t q : ℕ) (below : q < s.pool.pages) where
  abbrev B : Bucket (home_of s.pool) s.directory (bucket_of q)
  B = K.chained.at (bucket_of q) (bucket-lt q)

  pub sought-by : sought_in (key_by residents) s.pool.count s.directory (bucket_of q) (key_of t q) ≡ sought s t q
  sought-by = rw (bucket-chain (home_of s.pool) (home-framed s.pool K.sized.most) s.directory (bucket_of q) (bucket-lt q) B)
      (seek-same (key_by residents) (place_in s.pool.pages s.pool.records) s.pool.count (key_of t q) (store_place s.pool.pages t q) 0 B.chain (λ f i.
      let l : f < most_frames = home-framed s.pool K.sized.most f (let e : home_of s.pool f ≡ bucket_of q = B.only f i in let h : bucket_of q < buckets = bucket-lt q in omega arith) in
      ap (λ (k : ℕ). eqb k (key_of t q)) (T.right f l) ∙ key-place s.pool.pages (store_in s.pool.records f) (page_in s.pool.records f) t q K.sized.pages (K.agreed.in_range f l).page below))

  -- a frame that is found is one of the pool's
  pub found-below : {r : Found} {f : FrameIndex} → ((F : ℕ) → sought_as F r ≡ sought_in (key_by residents) F s.directory (bucket_of q) (key_of t q)) → r.frame ≡ Some f → f.0 < s.pool.count
  found-below {r} {f} found e =
      let F : ℕ = f.0 + 1 in
      let chain : chain_of s.directory (bucket_of q) ≡ B.chain = bucket-chain (home_of s.pool) (home-framed s.pool K.sized.most) s.directory (bucket_of q) (bucket-lt q) B in
      let at : f.0 ≡ (seek_in (key_by residents) F (key_of t q) 0 B.chain).frame = rw (e, chain) at (ap (λ (x : Sought). x.frame) (found F)) in
      elim (found-in (key_by residents) F (key_of t q) 0 B.chain) [
        | inl z ↦ absurd (omega arith)
        | inr i ↦
            let g : In f.0 B.chain = rw (← at) at i in
            let home : home_of s.pool f.0 ≡ bucket_of q = B.only f.0 g in
            let l : bucket_of q < buckets = bucket-lt q in
            elim (case (occupied s.pool f.0)) [ on o ↦ occupied-lt s.pool f.0 o | off o ↦ absurd (omega (arith, home_off s.pool f.0 o)) ]
      ]
