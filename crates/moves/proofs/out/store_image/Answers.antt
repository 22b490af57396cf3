-- `store_image` meets its contract: the part of the store that was lent comes back as the image, and a page without a swizzled word is its own. Assumes nothing.
use Rattle.moves.specs.MoveSteps.{part-named, image-back}
use Rattle.std.proofs.Common.{rules}
use Rattle.moves.proofs.out.store_image.Goals as goal

pub put_image-requires : goal.put_image-requires
put_image-requires c = (search rules, search rules, part-named _ _ _ c.start-from.ensures c.requires.1)

-- the words by their numbers
pub returns : goal.returns
returns c = image-back _ _ _ _ _ _ _ _ c.start-from.ensures c.start-to.ensures c.requires.0.bytes c.put_image.ensures
