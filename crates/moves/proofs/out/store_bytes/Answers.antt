-- `store_bytes` meets its contract: what was copied is the page, its own image. Assumes nothing.
use Rattle.std.proofs.Common.{sym, ap, ◌∙◌}
use Rattle.page.specs.Page.{put_page}
use Rattle.moves.specs.MoveSteps.{own-image}
use Rattle.moves.proofs.out.store_bytes.Goals as goal

pub returns : goal.returns
returns c page =
    let copied = c.to_store.ensures in
    copied.0 ∙ ap (put_page _ _) (sym (own-image page _ _ c.requires.0.bytes copied.1 c.requires.1))
