-- Lists of frames, the links of the directory that lead through one, and in which chain each frame belongs. Assumes nothing.
use Rattle.std.specs.Prelude.{ℕ, suc, ◌≡◌, ◌≢◌, ◌≤◌, ◌<◌, ◌⊎◌, eqb, List, ◌∷◌, [], get_or}
use Rattle.page.specs.Figures.{most_frames}
use Rattle.rules.specs.Tests.{pick}
use Rattle.chains.specs.Chain.{buckets, link_at}

-- ---- lists of frames

-- frame e is one of l; is none of l; each of l is in it once
unfoldable pub In : ℕ → List ℕ → Type 0
In e [] = ⊥
In e (f ∷ l) = (f ≡ e) ⊎ In e l

unfoldable pub Apart : ℕ → List ℕ → Type 0
Apart e [] = Unit {0}
Apart e (f ∷ l) = (e ≢ f) × Apart e l

unfoldable pub Single : List ℕ → Type 0
Single [] = Unit {0}
Single (f ∷ l) = Apart f l × Single l

-- l without e, where that stands first
unfoldable pub dropped : ℕ → List ℕ → List ℕ
dropped e [] = []
dropped e (f ∷ l) = pick (eqb f e) l (f ∷ dropped e l)

-- ---- chains

-- the links from byte a on lead through the frames l, in that order, and end
unfoldable pub Chain : List ℕ → ℕ → List ℕ → Type 0
Chain d a [] = get_or d a 0 ≡ 0
Chain d a (f ∷ l) = (get_or d a 0 ≡ suc f) × Chain d (link_at f) l

-- ---- in which chain each frame belongs: `home f` is its number, 67 for none

-- the links from byte a on lead through the frames that belong in chain b, each once
pub record Section (home : ℕ → ℕ) (d : List ℕ) (b a : ℕ) : Type 0 where
  pub chain : List ℕ
  pub links : Chain d a chain
  pub single : Single chain
  pub only : (f : ℕ) → In f chain → home f ≡ b
  pub all : (f : ℕ) → home f ≡ b → In f chain

-- and so from its head, byte b, on
abbrev pub Bucket : (ℕ → ℕ) → List ℕ → ℕ → Type 0
Bucket home d b = Section home d b b

pub record Chained (home : ℕ → ℕ) (d : List ℕ) : Type 0 where
  pub at : (b : ℕ) → b < buckets → Bucket home d b
  pub rest : (f : ℕ) → f < most_frames → buckets ≤ home f → get_or d (link_at f) 0 ≡ 0

-- only the 64 frames belong anywhere
abbrev pub Framed : (ℕ → ℕ) → Type 0
Framed home = (f : ℕ) → home f < buckets → f < most_frames
