-- `put_image` meets its contract: before slot k the words are those of the image. Assumes nothing.
use Rattle.std.proofs.Common.{ℕ, ◌+◌, ◌*◌, ◌<◌, ◌≡◌, sym, ◌∙◌, List, add-one}
use Rattle.page.specs.Figures.{slot_count, word_size, most_frames}
use Rattle.page.specs.Word.{word_at, name_of, put_word, put_word-length, frame_word}
use Rattle.page.specs.Page.{slot-first, put_slot-first}
use Rattle.machine.specs.Moves.{imaged, image_to}
use Rattle.machine.proofs.Laws.MoveLaws.{image-suc, image-zero}
use Rattle.moves.specs.WriteOut.{Named}
use Rattle.moves.proofs.image.put_image.Goals as goal

-- one word more: its old word, and the word put
step : (page : ℕ → ℕ) (g d e : List ℕ) (k o w : ℕ) → d ≡ image_to page g k → o ≡ word_at g (word_size * k) → w ≡ imaged page o → e ≡ put_word d (word_size * k) w → e ≡ image_to page g (k + 1)
step page g d e k o w hd ho hw he = rw (he, hw, ho, hd, add-one k, image-suc page g k, slot-first g k, put_slot-first (image_to page g k) k)

-- the frame that a word names is one of 64
named : (g : List ℕ) (k o : ℕ) → k < slot_count → Named g 0 → o ≡ word_at g (word_size * k) → name_of o < frame_word most_frames
named g k o l h ho = rw (ho, ← slot-first g k) (h k l)

pub loop-k-init : goal.loop-k-init
loop-k-init c = (rw c.copy_into.ensures.0 c.requires.1, c.copy_into.ensures.0 ∙ sym (image-zero _ _))

pub imaged_word-requires : goal.imaged_word-requires
imaged_word-requires c = named _ _ _ c.loop-k-test.true c.requires.2 c.word_at-w.ensures

pub loop-k-preserved : goal.loop-k-preserved
loop-k-preserved c = (
  rw c.put_word.ensures (put_word-length _ _ _ ∙ c.loop-k.invariant.0),
  step _ _ _ _ _ _ _ c.loop-k.invariant.1 c.word_at-w.ensures c.imaged_word.ensures c.put_word.ensures,
)
