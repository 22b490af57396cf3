-- `contents::page_named` meets its contract: a page number, or the page in the frame that a swizzled word names. Assumes nothing.
use Rattle.std.proofs.Common.{◌<◌, refl, sym, ap, ◌∙◌, arith}
use Rattle.page.specs.Figures.{most_frames}
use Rattle.page.specs.Word.{number-yes, number-no}
use Rattle.rules.specs.TestLaws.{pick_yes, pick_no}
use Rattle.machine.specs.Machine.{page_number}
use Rattle.machine.specs.Moves.{plain}
use Rattle.residents.specs.Residents.{page_by}
use Rattle.contents.proofs.page_named.Goals as goal

pub overflow_cast-number : goal.overflow_cast-number
overflow_cast-number c = let l = c.requires.number (number-yes _ (sym c.is_number.ensures ∙ c.if-is_number.true)) in omega arith

pub returns-then-is_number : goal.returns-then-is_number
unfolding plain
returns-then-is_number c = ap page_number (pick_yes _ (sym c.is_number.ensures ∙ c.if-is_number.true) refl)

-- the frame is below 64
frame : (c : goal.After-frame_in-g) → c.frame_in-g.result < most_frames
frame c = let l = c.requires.frame (number-no _ (sym c.is_number.ensures ∙ c.if-is_number.false)) in let e = c.frame_in-g.ensures in omega arith

pub overflow_cast-g : goal.overflow_cast-g
overflow_cast-g c = let l = frame c in omega arith

pub page_in-requires : goal.page_in-requires
page_in-requires c = frame c

pub returns : goal.returns
unfolding plain
returns c = ap page_number (c.page_in.ensures ∙ pick_no _ (sym c.is_number.ensures ∙ c.if-is_number.false) (ap (page_by c.args.residents.now) c.frame_in-g.ensures))
