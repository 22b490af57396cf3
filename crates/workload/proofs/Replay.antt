-- The listing of a workload's records prints the workload's lines, and leaves the same. Assumes nothing.
use Rattle.std.specs.Prelude.{ℕ, zero, suc, ◌+◌, ◌*◌, ◌≡◌, refl, List, [], ◌++◌, length, take}
use Rattle.std.proofs.Common.{sym, ◌∙◌, ap, append_assoc, append-nil, arith, length-append}
use Rattle.std.proofs.Math.Seq.{take-append_seam, drop-append_seam}
use Rattle.page.specs.Page.{bytes_from}
use Rattle.machine.specs.Machine.{State}
use Rattle.recording.specs.Listing.{listed}
use Rattle.printing.specs.Printing.{printed, with_listed, record_in, listed_from}
use Rattle.generator.specs.declared.Generator.{Generator}
use Rattle.drawing.specs.Drawing.{drawn_out}
use Rattle.drawing.proofs.Ranges.{entry-size}
use Rattle.workload.specs.Workload.{Worked, begun, with_next, worked_from}

-- records stay where they are, whatever is drawn after them
unfoldable entries_after : ℕ → Worked → List ℕ
entries_after zero w = []
entries_after (suc n) w = (drawn_out w.left w.generator).entry ++ entries_after n (with_next w)

entries-kept : (n : ℕ) (w : Worked) → (worked_from n w).entries ≡ w.entries ++ entries_after n w
unfolding worked_from entries_after
entries-kept zero w = sym (append-nil w.entries)
entries-kept (suc n) w = entries-kept n (with_next w) ∙ append_assoc w.entries (drawn_out w.left w.generator).entry (entries_after n (with_next w))

-- record i, after i of them
record-at : (a b c : List ℕ) (i : ℕ) → length a ≡ 16 * i → length b ≡ 16 → record_in (a ++ (b ++ c)) i ≡ b
unfolding bytes_from
record-at a b c i la lb =
    rw (← la) (ap (take 16) (drop-append_seam a (b ++ c)) ∙ ap (λ (n : ℕ). take n (b ++ c)) (sym lb) ∙ take-append_seam b c)

replay-from : (n i : ℕ) (w : Worked) → length w.entries ≡ 16 * i → listed_from n (worked_from n w).entries i (printed w.text w.left) ≡ printed (worked_from n w).text (worked_from n w).left
unfolding worked_from listed_from
replay-from zero i w l = refl
replay-from (suc n) i w l =
    let d = drawn_out w.left w.generator in
    let size : length (w.entries ++ d.entry) ≡ 16 * (i + 1) = length-append w.entries d.entry ∙ rw (l, entry-size w.left w.generator) (omega arith) in
    let here : record_in (worked_from n (with_next w)).entries i ≡ d.entry =
    ap (λ (b : List ℕ). record_in b i) (entries-kept n (with_next w) ∙ append_assoc w.entries d.entry (entries_after n (with_next w)))
    ∙ record-at w.entries d.entry (entries_after n (with_next w)) i l (entry-size w.left w.generator) in
    ap (λ (b : List ℕ). listed_from n (worked_from n (with_next w)).entries (i + 1) (with_listed w.text (listed w.left b))) here
    ∙ replay-from n (i + 1) (with_next w) size

-- n records drawn from a state on: the listing over their bytes, from that state on
pub replayed : (n : ℕ) (s : State) (g : Generator) → let w = worked_from n (begun s g) in listed_from n w.entries 0 (printed [] s) ≡ printed w.text w.left
replayed n s g = replay-from n 0 (begun s g) refl
