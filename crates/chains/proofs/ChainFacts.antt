-- Where each chain of a directory leads, by the chain in which each frame belongs; and that loading and eviction keep it so. Assumes nothing.
use Rattle.std.specs.Prelude.{ℕ, suc, ◌≤◌, ◌<◌, ◌≡◌, ◌≢◌, List, ◌∷◌, length, get_or, set}
use Rattle.std.proofs.Math.Path.{sym, ap}
use Rattle.std.proofs.Common.{◌∙◌, arith, get_or-set_other}
use Rattle.std.proofs.Math.Logic.{inl, inr}
use Rattle.std.proofs.Math.Decide.{ℕ_discrete}
use Rattle.page.specs.Figures.{most_frames}
use Rattle.chains.specs.Chain.{directory_size, buckets, link_at, chain_of, entered, taken_out}
use Rattle.chains.specs.Links.{Bucket, Chained, Framed, In, Apart, Single, dropped}
use Rattle.chains.proofs.ChainLaws.{apart_of, in_rest, in-dropped, dropped-in, single-dropped, single-most, chain-list, chain-kept, enter-head, enter-other, taken-chain, taken-keeps, taken-cleared}

-- ---- in which chain each frame belongs

pub chained-ext : (home other : ℕ → ℕ) (d : List ℕ) → ((f : ℕ) → other f ≡ home f) → Chained home d → Chained other d
chained-ext home other d e C = record {
  at = λ b h. let B = C.at b h in record { chain = B.chain; links = B.links; single = B.single; only = λ f i. e f ∙ B.only f i; all = λ f q. B.all f (sym (e f) ∙ q) };
  rest = λ f l h. C.rest f l (rw (e f) at h);
}

module _ (home : ℕ → ℕ) (framed : Framed home) (d : List ℕ) where
  -- a chain has no more than 64 frames
  pub bucket-few : (b : ℕ) → b < buckets → (B : Bucket home d b) → length B.chain ≤ most_frames
  bucket-few b h B = single-most most_frames B.chain B.single (λ f i. framed f (let e : home f ≡ b = B.only f i in omega arith))

  pub bucket-chain : (b : ℕ) → b < buckets → (B : Bucket home d b) → chain_of d b ≡ B.chain
  bucket-chain b h B = chain-list d (suc most_frames) b B.chain (let l : length B.chain ≤ most_frames = bucket-few b h B in omega arith) B.links

-- ---- a load

module _ (home new : ℕ → ℕ) (framed : Framed home) (d : List ℕ) (size : length d ≡ directory_size) (C : Chained home d) (b e : ℕ) (hb : b < buckets) (he : e < most_frames)
    (free : buckets ≤ home e) (comes : new e ≡ b) (others : (g : ℕ) → g ≢ e → new g ≡ home g) where
  stays : (a : ℕ) → a < buckets → (B : Bucket home d a) → Apart e B.chain
  stays a h B = apart_of e B.chain (λ i. let q : home e ≡ a = B.only e i in omega arith)

  was : (g a : ℕ) → home g ≡ a → a < buckets → g ≢ e
  was g a q h z = let x : home e ≡ a = rw z at q in omega arith

  pub enter-chained : Chained new (entered d b e)
  unfolding In Single entered
  enter-chained = record {
    at = λ a h. let B = C.at a h in elim (ℕ_discrete a b) [
      | yes z ↦ here a h z B
      | no z ↦ record {
        chain = B.chain;
        links = enter-other d size b e hb he a B.chain h z (stays a h B) B.links;
        single = B.single;
        only = λ f i. others f (was f a (B.only f i) h) ∙ B.only f i;
        all = λ f q. elim (ℕ_discrete f e) [ yes y ↦ absurd (z (sym q ∙ ap new y ∙ comes)) | no y ↦ B.all f (sym (others f y) ∙ q) ];
      }
    ];
    rest = λ f l h. elim (ℕ_discrete f e) [
      | yes y ↦ absurd (let q : new f ≡ b = ap new y ∙ comes in omega arith)
      | no y ↦ kept f l y ∙ C.rest f l (rw (others f y) at h)
    ];
  }
    where
      here : (a : ℕ) → a < buckets → a ≡ b → Bucket home d a → Bucket new (entered d b e) a
      here a h z B = record {
        chain = e ∷ B.chain;
        links = rw z (enter-head d size b e hb he B.chain (stays a h B) (rw z at B.links));
        single = (stays a h B, B.single);
        only = λ f i. elim (ℕ_discrete f e) [ yes y ↦ ap new y ∙ comes ∙ sym z | no y ↦ let j = in_rest f e B.chain (λ x. y (sym x)) i in others f y ∙ B.only f j ];
        all = λ f q. elim (ℕ_discrete f e) [ yes y ↦ inl (sym y) | no y ↦ inr (B.all f (sym (others f y) ∙ q)) ];
      }

      kept : (f : ℕ) → f < most_frames → f ≢ e → get_or (entered d b e) (link_at f) 0 ≡ get_or d (link_at f) 0
      kept f l y = get_or-set_other (set d (link_at e) (get_or d b 0)) b (link_at f) (suc e) 0 (λ z. omega arith) ∙ get_or-set_other d (link_at e) (link_at f) (get_or d b 0) 0 (λ z. y (omega arith))

-- ---- an eviction

module _ (home new : ℕ → ℕ) (framed : Framed home) (d : List ℕ) (size : length d ≡ directory_size) (C : Chained home d) (b e : ℕ) (hb : b < buckets)
    (stood : home e ≡ b) (goes : buckets ≤ new e) (others : (g : ℕ) → g ≢ e → new g ≡ home g) where
  he : e < most_frames
  he = framed e (omega arith)

  B : Bucket home d b
  B = C.at b hb

  few : length B.chain ≤ most_frames
  few = bucket-few home framed d b hb B

  in_b : In e B.chain
  in_b = B.all e stood

  -- a byte that is no link of chain b stays
  byte-kept : (x : ℕ) → x ≢ b → x ≢ link_at e → ((f : ℕ) → x ≡ link_at f → home f ≢ b) → get_or (taken_out d b e) x 0 ≡ get_or d x 0
  byte-kept x n m p = taken-keeps d size e he most_frames b x B.chain few B.links in_b n m (λ f z. apart_of f B.chain (λ i. p f z (B.only f i)))

  link-kept : (f : ℕ) → f ≢ e → home f ≢ b → get_or (taken_out d b e) (link_at f) 0 ≡ get_or d (link_at f) 0
  link-kept f n m = byte-kept (link_at f) (λ z. omega arith) (λ z. n (omega arith)) (λ g z. let q : g ≡ f = omega arith in rw q m)

  left : (g a : ℕ) → new g ≡ a → a < buckets → g ≢ e
  left g a q h z = let x : new e ≡ a = rw z at q in omega arith

  pub taken-chained : Chained new (taken_out d b e)
  taken-chained = record {
    at = λ a h. elim (ℕ_discrete a b) [ yes z ↦ rw z (here) | no z ↦ there a h z (C.at a h) ];
    rest = λ f l h. elim (ℕ_discrete f e) [
      | yes y ↦ rw y (taken-cleared d size e he most_frames b B.chain few B.links in_b)
      | no y ↦ let o : buckets ≤ home f = rw (others f y) at h in link-kept f y (λ z. omega arith) ∙ C.rest f l o
    ];
  }
    where
      here : Bucket new (taken_out d b e) b
      here = record {
        chain = dropped e B.chain;
        links = taken-chain d size e he most_frames b B.chain few (omega arith) (λ f i. framed f (let q : home f ≡ b = B.only f i in omega arith)) (λ f z. absurd (omega arith)) B.single in_b B.links;
        single = single-dropped e B.chain B.single;
        only = λ f i. let w = in-dropped e B.chain B.single f i in others f w.1 ∙ B.only f w.0;
        all = λ f q. let n = left f b q hb in dropped-in e B.chain f n (B.all f (sym (others f n) ∙ q));
      }

      there : (a : ℕ) → a < buckets → a ≢ b → Bucket home d a → Bucket new (taken_out d b e) a
      there a h n A = record {
        chain = A.chain;
        links = chain-kept d (taken_out d b e) a A.chain (byte-kept a n (λ z. omega arith) (λ f z. absurd (omega arith)))
            (λ f i. let q : home f ≡ a = A.only f i in link-kept f (λ z. n (sym q ∙ ap home z ∙ stood)) (λ z. n (sym q ∙ z))) A.links;
        single = A.single;
        only = λ f i. let q : home f ≡ a = A.only f i in others f (λ z. n (sym q ∙ ap home z ∙ stood)) ∙ q;
        all = λ f q. let m = left f a q h in A.all f (sym (others f m) ∙ q);
      }
