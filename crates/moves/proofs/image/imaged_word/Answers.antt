-- `imaged_word` meets its contract: bit 31 of the word tells what it names. Assumes nothing.
use Rattle.std.proofs.Common.{sym, ap, ◌∙◌}
use Rattle.page.specs.Word.{renamed, frame_in, number-yes, number-no}
use Rattle.page.proofs.NameLaws.{number-as-word}
use Rattle.machine.proofs.Laws.PlainLaws.{imaged-low, plain-swizzled}
use Rattle.residents.specs.Residents.{page_by}
use Rattle.moves.proofs.image.imaged_word.Goals as goal

-- it names no frame
pub returns-then-is_number : goal.returns-then-is_number
returns-then-is_number c = sym (imaged-low _ _ (number-yes _ (number-as-word _ ∙ sym c.is_number.ensures ∙ c.if-is_number.true)))

-- it names a frame
pub returns : goal.returns
returns c =
    let swizzled = number-no _ (number-as-word _ ∙ sym c.is_number.ensures ∙ c.if-is_number.false) in
    c.by_number.ensures ∙ ap (renamed _) (c.page_of.ensures ∙ ap (page_by c.args.residents.now) (c.frame_in-frame.ensures ∙ ap frame_in c.name_of.ensures) ∙ sym (plain-swizzled _ _ swizzled))
