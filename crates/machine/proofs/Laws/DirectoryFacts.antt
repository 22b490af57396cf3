-- What rule 2 says of the directory: its test against where each chain leads, and what find and peek get by it. Assumes nothing.
use Prim.Native.Nat.{ℕ, suc, ◌+◌, ◌≤◌, ◌<◌}
use Rattle.std.specs.Prelude.{◌≡◌, refl, false, List, ◌∷◌, ◌++◌}
use Rattle.std.proofs.Math.Path.{sym}
use Rattle.std.proofs.Common.{◌∙◌, ap, arith}
use Rattle.std.proofs.Math.Bool.{true, not}
use Rattle.std.proofs.Math.Decide.{dec_lt}
use borrow.Author.Tests.{eq-eqb, eqb-true, not-true}
use Rattle.std.proofs.Math.ListN.{length}
use Rattle.page.specs.Figures.{most_frames, record_count}
use Rattle.page.specs.StorePlaces.{store_place}
use Rattle.machine.specs.declared.Pool.{Pool}
use Rattle.rules.specs.Tests.{pick}
use Rattle.rules.specs.TestLaws.{case, on, off, both, and-true, use⇒, make⇒, every_true, true-every, pick_yes, pick_no}
use Rattle.machine.specs.Machine.{is_used, record_at, page_in, place_in, occupied, found_in}
use Rattle.machine.proofs.Laws.AgreementFacts.{occupied-lt}
use Rattle.machine.proofs.Laws.FoundLaws.{found-le, found-holds, found_none, found-records}
use Rattle.chains.specs.Chain.{buckets, bucket_of, chain_of, each_of, once, seek_in, sought_in}
use Rattle.machine.specs.Directory.{belongs, chain_right, chains_right, chains_whole, others_zero, chains_agree, residents_of}
use Rattle.chains.proofs.ChainLaws.{has_in, in-has, each_in, in-each, once-single, single-once, single-few, single-most, list-chain, seek_found, seek-none, seek-compared, seek-place, seek-whole}
use Rattle.chains.specs.Links.{In, Single, Bucket, Chained, Framed}
use Rattle.chains.proofs.ChainFacts.{bucket-chain}

-- ---- in a pool

-- the chain that frame f belongs in: that of its page's remainder
unfoldable pub home_of : Pool → ℕ → ℕ
home_of p f = pick (occupied p f) (bucket_of (page_in p.records f)) buckets

pub bucket-lt : (q : ℕ) → bucket_of q < buckets
bucket-lt q = omega arith

module _ (p : Pool) where
  pub home-on : (f : ℕ) → occupied p f ≡ true → home_of p f ≡ bucket_of (page_in p.records f)
  unfolding home_of
  home-on f o = sym (pick_yes _ o refl)

  pub home_off : (f : ℕ) → occupied p f ≡ false → home_of p f ≡ buckets
  unfolding home_of
  home_off f o = sym (pick_no _ o refl)

  home-occupied : (f : ℕ) → home_of p f < buckets → occupied p f ≡ true
  home-occupied f h = elim (case (occupied p f)) [ on o ↦ o | off o ↦ absurd (let e : home_of p f ≡ buckets = home_off f o in omega arith) ]

  home-empty : (f : ℕ) → buckets ≤ home_of p f → occupied p f ≡ false
  home-empty f h = elim (case (occupied p f)) [
    | off o ↦ o
    | on o ↦ absurd (let e : home_of p f ≡ bucket_of (page_in p.records f) = home-on f o in let l : bucket_of (page_in p.records f) < buckets = bucket-lt (page_in p.records f) in omega arith)
  ]

  belongs-home : (b f : ℕ) → belongs p b f ≡ true → home_of p f ≡ b
  unfolding belongs
  belongs-home b f t = let a = and-true (occupied p f) _ t in home-on f a.0 ∙ eqb-true _ b a.1

  home-belongs : (b f : ℕ) → b < buckets → home_of p f ≡ b → belongs p b f ≡ true
  unfolding belongs
  home-belongs b f h e =
      let o : occupied p f ≡ true = home-occupied f (omega arith) in
      both (occupied p f) _ o (eq-eqb _ b (sym (home-on f o) ∙ e))

-- other records with the same pages
pub home_same : (p q : Pool) (f : ℕ) → q.count ≡ p.count → is_used (record_at q.records f) ≡ is_used (record_at p.records f) → page_in q.records f ≡ page_in p.records f → home_of q f ≡ home_of p f
unfolding home_of occupied
home_same p q f c u g = rw (c, u, g) refl

module _ (p : Pool) (few : p.count ≤ most_frames) where
  pub home-framed : Framed (home_of p)
  home-framed f h = omega (arith, occupied-lt p f (home-occupied p f h), few)

  module _ (d : List ℕ) where
    -- the test says it
    pub chains-facts : chains_agree p d ≡ true → Chained (home_of p) d
    unfolding chains_agree chains_right chain_right chains_whole others_zero
    chains-facts t =
        let a = and-true (chains_right p d) _ t in
        let w = and-true (chains_whole p d) (others_zero p d) a.1 in
        record {
          at = λ b h.
              let r = and-true (each_of (belongs p b) (chain_of d b)) (once (chain_of d b)) (every_true buckets _ a.0 b h) in
              let s : Single (chain_of d b) = once-single (chain_of d b) r.1 in
              let o : (f : ℕ) → In f (chain_of d b) → home_of p f ≡ b = λ f i. belongs-home p b f (each_in (belongs p b) (chain_of d b) r.0 f i) in
              let l : length (chain_of d b) ≤ most_frames = single-most most_frames (chain_of d b) s (λ f i. home-framed f (let e : home_of p f ≡ b = o f i in omega arith)) in
              record {
                chain = chain_of d b;
                links = list-chain d (suc most_frames) b (omega arith);
                single = s;
                only = o;
                all = λ f e.
                    let u : occupied p f ≡ true = home-occupied p f (omega arith) in
                    let z : bucket_of (page_in p.records f) ≡ b = sym (home-on p f u) ∙ e in
                    rw z at (has_in f _ (use⇒ _ _ (every_true p.count _ w.0 f (occupied-lt p f u)) u));
              };
          rest = λ f l h. eqb-true _ 0 (use⇒ _ _ (every_true record_count _ w.1 f l) (ap not (home-empty p f h)));
        }

    pub chains-tests : Chained (home_of p) d → chains_agree p d ≡ true
    unfolding chains_agree chains_right chain_right chains_whole others_zero
    chains-tests C = both _ _
        (true-every buckets _ (λ b h.
        let B = C.at b h in
        rw (bucket-chain (home_of p) home-framed d b h B)
        (both _ _ (in-each (belongs p b) B.chain (λ f i. home-belongs p b f h (B.only f i))) (single-once B.chain B.single))))
        (both _ _
        (true-every p.count _ (λ f l. make⇒ _ _ (λ o.
        let b : ℕ = bucket_of (page_in p.records f) in
        let h : b < buckets = bucket-lt (page_in p.records f) in
        let B = C.at b h in
        rw (bucket-chain (home_of p) home-framed d b h B) (in-has f B.chain (B.all f (home-on p f o))))))
        (true-every record_count _ (λ f l. make⇒ _ _ (λ o. eq-eqb _ 0 (C.rest f l (rw (home_off p f (not-true _ o)) (omega arith)))))))

    -- ---- "Find and peek use it and agree with the frames": page q of store t is compared by its place, in the chain of its number's remainder

    module _ (C : Chained (home_of p) d) (apart : (f g : ℕ) → occupied p f ≡ true → occupied p g ≡ true → place_in p.pages p.records f ≡ place_in p.pages p.records g → f ≡ g) (t q : ℕ) where
      abbrev rs : ℕ → ℕ
      rs = place_in p.pages p.records

      abbrev place : ℕ
      place = store_place p.pages t q

      Q : Bucket (home_of p) d (bucket_of q)
      Q = C.at (bucket_of q) (bucket-lt q)

      same-chain : chain_of d (bucket_of q) ≡ Q.chain
      same-chain = bucket-chain (home_of p) home-framed d (bucket_of q) (bucket-lt q) Q

      in-chain : (g : ℕ) → In g Q.chain → occupied p g ≡ true
      in-chain g i = home-occupied p g (let e : home_of p g ≡ bucket_of q = Q.only g i in let l : bucket_of q < buckets = bucket-lt q in omega arith)

      -- "never above the number of resident pages with that remainder"
      pub sought-few : (sought_in rs p.count d (bucket_of q) place).compared ≤ residents_of p (bucket_of q)
      sought-few =
          let a : (seek_in rs p.count place 0 Q.chain).compared ≤ 0 + length Q.chain = seek-compared rs p.count place 0 Q.chain in
          let b : length Q.chain ≤ residents_of p (bucket_of q) = single-few p.count (belongs p (bucket_of q)) Q.chain Q.single
          (λ f i. (occupied-lt p f (in-chain f i), home-belongs p (bucket_of q) f (bucket-lt q) (Q.only f i))) in
          rw same-chain (omega arith)

      pub sought-whole : p.count ≤ found_in p t q → (sought_in rs p.count d (bucket_of q) place).compared ≡ length (chain_of d (bucket_of q))
      sought-whole l = omega (arith, seek-whole rs p.count place 0 (chain_of d (bucket_of q)) (λ g i. found_none p place l g (in-chain g (rw same-chain at i))))

      -- pages are below N, so that a place tells the number
      module _ (ranged : (f : ℕ) → occupied p f ≡ true → page_in p.records f < p.pages) (below : q < p.pages) where
        pub sought-found : (sought_in rs p.count d (bucket_of q) place).frame ≡ found_in p t q
        sought-found = rw same-chain (elim (dec_lt (found_in p t q) p.count) [
          | yes l ↦
              let f : ℕ = found_in p t q in
              let h = found-holds p place l in
              let e : page_in p.records f ≡ q = (found-records p t q ranged below l).2 in
              seek_found rs p.count place 0 f Q.chain (Q.all f (home-on p f h.0 ∙ ap bucket_of e)) h.1
              (λ g i e. apart g f (in-chain g i) h.0 (e ∙ sym h.1))
          | no l ↦
              let e : found_in p t q ≡ p.count = (let h : found_in p t q ≤ p.count = found-le p place in omega arith) in
              seek-none rs p.count place 0 Q.chain (λ g i. found_none p place (omega arith) g (in-chain g i)) ∙ sym e
        ])

        -- "the place of the page's entry in its chain, from 1, or the chain's length if absent"
        pub sought-place : found_in p t q < p.count → (before after : List ℕ) × (chain_of d (bucket_of q) ≡ before ++ (found_in p t q ∷ after)) × ((sought_in rs p.count d (bucket_of q) place).compared ≡ length before + 1)
        sought-place l =
            let a = rw sought-found at (seek-place rs p.count place 0 (chain_of d (bucket_of q)) (rw sought-found l)) in
            (a.0, a.1, a.2, omega (arith, a.3))
