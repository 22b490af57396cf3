-- `printing::put_line` meets its contract: the line alone is put in its place. Assumes nothing.
use Rattle.std.proofs.Common.{◌≡◌, ◌+◌, ◌++◌, ℕ, List, length, take, sym, ◌∙◌, ap, arith}
use Rattle.std.proofs.lemmas.Slice.{take-put_mid}
use Rattle.recording.specs.Listing.{Numbers, line_numbers}
use Rattle.printing.specs.PrintingLaws.{line-after}
use Rattle.printing.proofs.put_line.Goals as goal

pub returns-clause-text_after : goal.returns-clause-text_after
returns-clause-text_after c =
    let a = c.args in
    let n : Numbers = line_numbers a.line.call a.line.refusal a.line.frame.0 a.line.page.0 in
    let items = rw c.new-alone.ensures at c.push_line.ensures.text_after in
    let size : c.len.result ≡ length c.copy_from_slice.new.self = c.len.ensures.value ∙ ap length (sym (c.copy_from_slice.ensures.after ∙ c.as_slice.ensures.value)) in
    take-put_mid a.at _ a.text.now c.copy_from_slice.new.self _ (ap (λ (k : ℕ). a.at + k) size) (omega (arith, c.requires))
    ∙ ap (λ (x : List ℕ). take a.at a.text.now ++ x) (c.copy_from_slice.ensures.after ∙ c.as_slice.ensures.value ∙ items)
    ∙ sym (line-after (take a.at a.text.now) n)
