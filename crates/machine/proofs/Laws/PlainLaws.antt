-- The page number that a name stands for, by its two readings, and a word's in an image. Assumes nothing.
use Rattle.std.specs.Prelude.{◌≡◌, ℕ, ◌<◌}
use Rattle.std.proofs.Common.{sym, ap, arith}
use Rattle.page.specs.Figures.{most_pages, word_radix}
use Rattle.page.specs.Word.{is_marked, name_of, Number, Swizzled, frame_in, frame_word, yes-number, no_number}
use Rattle.page.proofs.NameLaws.{name-renamed-number, mark-renamed-number, renamed-same, renamed-lt}
use Rattle.rules.specs.Tests.{pick}
use Rattle.machine.specs.Moves.{plain, imaged}

pub plain-low : (page : ℕ → ℕ) (w : ℕ) → Number w → plain page w ≡ w
unfolding plain pick
plain-low page w h = rw (yes-number w h)

pub plain-high : (page : ℕ → ℕ) (g : ℕ) → plain page (frame_word g) ≡ page g
unfolding plain pick
plain-high page g = rw (no_number (frame_word g) (omega arith)) (ap page (omega arith))

pub plain-swizzled : (page : ℕ → ℕ) (w : ℕ) → Swizzled w → plain page w ≡ page (frame_in w)
unfolding plain pick
plain-swizzled page w h = rw (no_number w h)

-- a word of an image names the page, where that is one, and nothing only where it named nothing
pub name-imaged : (page : ℕ → ℕ) (w : ℕ) → plain page (name_of w) < most_pages → (plain page (name_of w) ≡ 0 → name_of w ≡ 0) → name_of (imaged page w) ≡ plain page (name_of w)
name-imaged page w h z = name-renamed-number w (plain page (name_of w)) h z

-- and keeps its mark
pub mark-imaged : (page : ℕ → ℕ) (w : ℕ) → plain page (name_of w) < most_pages → (plain page (name_of w) ≡ 0 → name_of w ≡ 0) → is_marked (imaged page w) ≡ is_marked w
mark-imaged page w h z = mark-renamed-number w (plain page (name_of w)) h z

pub imaged-lt : (page : ℕ → ℕ) (w : ℕ) → plain page (name_of w) < most_pages → imaged page w < word_radix
imaged-lt page w h = renamed-lt w (plain page (name_of w)) (omega arith)

-- and is itself where it is a number
pub imaged-low : (page : ℕ → ℕ) (w : ℕ) → Number (name_of w) → imaged page w ≡ w
imaged-low page w h = sym (renamed-same w (plain page (name_of w)) (sym (plain-low page (name_of w) h)))
