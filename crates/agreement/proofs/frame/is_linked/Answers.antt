-- `is_linked` meets its contract. Assumes nothing.
use Rattle.std.proofs.Common.{ℕ, ◌≡◌, true, false, List, sym, ◌∙◌, ap, eq-eqb, eqb-true, arith}
use Rattle.page.specs.Word.{name_of, marked}
use Rattle.page.proofs.NameLaws.{frame-named, named-frame}
use Rattle.machine.specs.declared.FrameRecord.{FrameRecord}
use Rattle.machine.specs.Machine.{is_used, is_of, record_at}
use Rattle.rules.specs.TestLaws.{both, and-true}
use Rattle.rules.specs.Deciding.{decide-equal}
use Rattle.agreement.specs.Fit.{above_of}
use Rattle.agreement.proofs.frame.is_linked.Goals as goal

-- the record that was read is the parent's
above-is : (rs : List FrameRecord) (r : FrameRecord) (i : ℕ) → i ≡ r.parent.0 → above_of rs r ≡ true → (is_used (record_at rs i) ≡ true) × ((record_at rs i).store.0 ≡ r.store.0)
above-is rs r i e o =
    let a = and-true (is_used (record_at rs i)) _ (ap (λ (j : ℕ). is_of r.store.0 (record_at rs j)) e ∙ o) in
    (a.0, eqb-true _ _ a.1)

is-above : (rs : List FrameRecord) (r : FrameRecord) (i : ℕ) → i ≡ r.parent.0 → (record_at rs i).used ≡ 1 → (record_at rs i).store.0 ≡ r.store.0 → above_of rs r ≡ true
is-above rs r i e u s = sym (ap (λ (j : ℕ). is_of r.store.0 (record_at rs j)) e) ∙ both _ _ (eq-eqb _ 1 u) (eq-eqb _ _ s)

-- the parent's frame is empty
pub returns-then-above-ne1 : goal.returns-then-above-ne1
returns-then-above-ne1 c = λ l. c.if-above-ne1.true (eqb-true _ 1 (above-is c.args.pool.now.records c.args.rec.now c.from.result c.from.ensures l.occupied).0)

-- its page is of another store
pub returns-then-above-rec : goal.returns-then-above-rec
returns-then-above-rec c = λ l. c.if-above-rec.true (above-is c.args.pool.now.records c.args.rec.now c.from.result c.from.ensures l.occupied).1

-- without a mark
pub returns-then-w-name : goal.returns-then-w-name
unfolding marked
returns-then-w-name c =
    let e = rw c.from-2.ensures at c.slot_word-w.ensures in
    decide-equal _ _ _
    (λ q. record { occupied = is-above c.args.pool.now.records c.args.rec.now _ c.from.ensures c.if-above-ne1.false c.if-above-rec.false; word = ap name_of (sym e) ∙ frame-named false _ _ (omega (arith, c.requires.0.most)) (q ∙ c.word-name.ensures) })
    (λ l. c.if-w-name.true)

-- with a mark, or of another frame
pub returns-else-w-name : goal.returns-else-w-name
returns-else-w-name c =
    let e = rw c.from-2.ensures at c.slot_word-w.ensures in
    let n = c.word-name.ensures in
    let m = c.marked.ensures ∙ ap (marked true) n in
    decide-equal _ _ _
    (λ q. record { occupied = is-above c.args.pool.now.records c.args.rec.now _ c.from.ensures c.if-above-ne1.false c.if-above-rec.false; word = ap name_of (sym e) ∙ frame-named true _ _ (omega (arith, c.requires.0.most)) (q ∙ m) })
    (λ l. named-frame _ _ (ap name_of e ∙ l.word) (λ z. c.if-w-name.false (z ∙ sym n)) ∙ sym m)
