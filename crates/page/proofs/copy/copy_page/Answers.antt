-- `page::copy::copy_page` meets its contract: the part that was lent comes back as the page that was copied. Assumes nothing.
use Rattle.page.specs.Page.{page_of-whole, part-is-page, put-part}
use Rattle.page.proofs.copy.copy_page.Goals as goal

pub returns : goal.returns
returns g c =
    let copied = rw (c.start-first.ensures, part-is-page c.args.src.now (g.S.PageIndex.index c.args.from)) at c.copy_into.ensures in
    rw c.start-start.ensures (put-part _ _ _ _ copied.0 (page_of-whole _ _ c.requires.1), copied.1)
