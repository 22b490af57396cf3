-- The roots that open brings in, one after the other. Assumes nothing.
use Rattle.std.specs.Prelude.{ℕ, ◌+◌, ◌≡◌, refl, List, set, replicate}
use Rattle.std.proofs.Common.{◌∙◌, add-one}
use Rattle.page.specs.Figures.{record_count}
use Rattle.page.specs.Page.{page_of, put_page}
use Rattle.page.specs.StorePlaces.{store_place}
use Rattle.machine.specs.declared.FrameRecord.{FrameRecord}
use Rattle.machine.specs.Machine.{blank, root_record, root_records}
use Rattle.machine.specs.Calls.{root_frames}

-- the records of no root, and of one more
pub no-root : {r : FrameRecord} → r ≡ blank → replicate record_count r ≡ root_records 0
unfolding root_records
no-root e = rw e

pub records-next : {t : ℕ} {rs : List FrameRecord} {r : FrameRecord} → rs ≡ root_records t → r ≡ root_record t → set rs t r ≡ root_records (t + 1)
unfolding root_records
records-next {t} e h = rw (add-one t, e, h)

-- the frames with no root, and with one more, which has its place in the store
pub no-root-copied : (N : ℕ) (fs st : List ℕ) → fs ≡ root_frames N fs st 0
unfolding root_frames
no-root-copied N fs st = refl

pub frames-next : (N t : ℕ) (fs st : List ℕ) {p : ℕ} {gs hs : List ℕ} → gs ≡ root_frames N fs st t → p ≡ store_place N t 0 → hs ≡ put_page gs t (page_of st p) → hs ≡ root_frames N fs st (t + 1)
unfolding root_frames
frames-next N t fs st e h i = rw (add-one t) (i ∙ rw (e, h))
