-- The thirteen calls: each names its rules in checking order, and says what it answers and leaves where none is broken.
use Rattle.std.specs.Prelude.{ℕ, zero, suc, Bool, not, List, [], ◌∷◌, ◌++◌, eqb, ltb, length}
use Rattle.page.specs.declared.PageNumber.{PageNumber}
use Rattle.page.specs.Figures.{payload_size}
use Rattle.page.specs.StorePlaces.{store_place}
use Rattle.page.specs.Word.{marked, is_number, frame_in, number_word}
use Rattle.page.specs.Page.{put_slot, page_of, put_page, payload_at, put_payload}
use Rattle.machine.specs.declared.FrameRecord.{FrameRecord}
use Rattle.machine.specs.declared.Handle.{Handle}
use Rattle.rules.specs.Tests.{pick, ◌and◌, first_broken, verdict, Rule}
use Rattle.machine.specs.Machine.{State, state, with_pool, record_at, page_in, store_in, place_in, with_record, pinned, unpinned, dirtied, zero_pool, opened_pool, found_in, at_ceiling}
use Rattle.chains.specs.Chain.{Sought, bucket_of, sought_in, opened_directory}
use Rattle.machine.specs.Moves.{plain, settled, evicted, loaded}
use Rattle.machine.specs.Sweep.{Swept, first_empty, sweep, with_swept}
use Rattle.machine.specs.Rules.{word_of, mark_of, frames_in, pages_of_each, rule1, rule1-open, rule2, rule3, rule4, rule5, rule6, rule6-link, rule7, rule8, rule9, rule10, rule11, rule13, rule14, rule15, rule16, rule20, rule21, rule22, rule26, rule27, rule28}
use Rattle.machine.specs.Answers.{Answer, refused, done, handle, payload, number, frame, nowhere, in_frames, in_store, Out, out}

-- "A refused call answers its number alone. Nothing else changes."
unfoldable pub decide : State → List Rule → Out → Out
decide s rules accepted = verdict (first_broken rules) (λ n. out (refused n) s) accepted

-- the state with the record of frame f changed
abbrev pub change_record : State → ℕ → (FrameRecord → FrameRecord) → State
change_record s f change = with_pool s (with_record s.pool f (change (record_at s.pool.records f)))

-- ---- the rules that calls share: those of every call but open; of every one of these but settle, which name a store (request A.11); with a handle, a slot of its page, and a change there; with a page number

abbrev pub pool_rules : State → List Rule
pool_rules s = rule1 s ∷ rule2 s ∷ []

abbrev pub store_rules : State → ℕ → List Rule
store_rules s t = pool_rules s ++ (rule28 s t ∷ [])

abbrev pub handle_rules : State → Handle → List Rule
handle_rules s h = store_rules s h.store.0 ++ (rule3 s h ∷ [])

abbrev pub word_rules : State → Handle → ℕ → List Rule
word_rules s h k = handle_rules s h ++ (rule4 k ∷ [])

-- request A.8: the page is to be changed
abbrev pub edit_rules : State → Handle → ℕ → List Rule
edit_rules s h k = word_rules s h k ++ (rule26 s h ∷ [])

abbrev pub page_rules : State → ℕ → PageNumber → List Rule
page_rules s t q = store_rules s t ++ (rule6 s q.0 ∷ [])

-- ---- open, with T and the stores' ceilings: "copies page 0 to frame 0 with pins 0, heat 0, clean; all other frames are empty, their bytes kept; the hand is 0"

abbrev pub open_rules : ℕ → List ℕ → List ℕ → List ℕ → List ℕ → List Rule
open_rules T ceilings fs st d = rule1-open T ceilings fs st d ∷ rule16 T (pages_of_each T st) st ∷ []

-- the frames with page 0 of each of the first T stores. Request A.11: "frames 0 to T − 1 hold their roots"
unfoldable pub root_frames : ℕ → List ℕ → List ℕ → ℕ → List ℕ
root_frames N fs st zero = fs
root_frames N fs st (suc t) = put_page (root_frames N fs st t) t (page_of st (store_place N t 0))

-- request A.3: "Open leaves page 0 alone in it", whatever stood there; request A.11: the roots, "entered in the directory in that order"
abbrev pub opened : ℕ → List ℕ → List ℕ → List ℕ → State
opened T ceilings fs st = let N = pages_of_each T st in state (opened_pool (frames_in fs) N T ceilings) (root_frames N fs st T) st (opened_directory T)

-- "Refused, it hands back all-zero records"
unfoldable pub open_call : ℕ → List ℕ → List ℕ → List ℕ → List ℕ → Out
open_call T ceilings fs st d = decide (state zero_pool fs st d) (open_rules T ceilings fs st d) (out done (opened T ceilings fs st))

-- ---- root: "pins page 0", of a store

-- a resident page, in frame f, is pinned: "The answer is the handle and the looks of the sweep, 0 if none."
abbrev pub pinned_out : State → ℕ → Out
pinned_out s f = out (handle f (store_in s.pool.records f) (page_in s.pool.records f) 0) (change_record s f pinned)

-- store t's is in frame t
abbrev pub root_rules : State → ℕ → List Rule
root_rules s t = store_rules s t ++ (rule13 s t ∷ [])

unfoldable pub root_call : State → ℕ → Out
root_call s t = decide s (root_rules s t) (pinned_out s t)

-- ---- fix: "pins the page named by a slot of a handle's page"

-- page q of store t comes in for slot k of frame f, into frame e, after so many looks
abbrev pub loaded_out : State → ℕ → ℕ → ℕ → ℕ → ℕ → ℕ → Out
loaded_out s f k e t q looks = out (handle e t q looks) (loaded s f k e t q)

-- where a sweep ended: its page is evicted, and its frame used
abbrev pub swept_out : State → ℕ → ℕ → ℕ → ℕ → Swept → Out
swept_out s f k t q v = loaded_out (evicted (with_pool s (with_swept s.pool v)) v.frame.0) f k v.frame.0 t q v.looks

-- "With an empty frame, loading uses the first empty one at or after the hand. Otherwise", a sweep. Request A.11: "A store at its ceiling sweeps its own pages only, even where frames are empty"
unfoldable pub miss_out : State → ℕ → ℕ → ℕ → ℕ → Out
miss_out s f k t q =
    let e = first_empty s.pool in
    pick (not (at_ceiling s.pool t) and ltb e s.pool.count) (loaded_out s f k e t q 0) (swept_out s f k t q (sweep s.pool s.frames t))

-- the rules that are tested whether or not the page is resident
abbrev pub fix_entry_rules : State → Handle → ℕ → List Rule
fix_entry_rules s h k = word_rules s h k ++ (rule7 (word_of s h k) ∷ [])

-- the rules of a page, named by the word w, that isn't resident; and of one that is
abbrev pub fix_rules : State → Handle → ℕ → List Rule
fix_rules s h k =
    let w = word_of s h k in
    fix_entry_rules s h k ++ pick (is_number w) (rule14 s h.store.0 w ∷ rule15 s h.store.0 ∷ rule27 s h.store.0 ∷ []) (rule13 s (frame_in w) ∷ [])

unfoldable pub fix_call : State → Handle → ℕ → Out
fix_call s h k =
    let w = word_of s h k in
    decide s (fix_rules s h k) (pick (is_number w) (miss_out s h.frame.0 k h.store.0 w) (pinned_out s (frame_in w)))

-- ---- unfix: "takes one pin off"

unfoldable pub unfix_call : State → Handle → Out
unfix_call s h = decide s (handle_rules s h) (out done (change_record s h.frame.0 unpinned))

-- ---- show: "hands back a handle's payload"

unfoldable pub show_call : State → Handle → Out
show_call s h = decide s (handle_rules s h) (out (payload in_frames (payload_at h.frame.0) payload_size) s)

-- ---- peek: "by page number, hands back the payload from the frame if resident, otherwise from the store"

-- request A.3: "Find and peek use it", the directory. Request A.11: page q of store t is compared by its place; "Bucket p mod 67" is by its number alone
abbrev pub sought : State → ℕ → ℕ → Sought
sought s t q = sought_in (place_in s.pool.pages s.pool.records) s.pool.count s.directory (bucket_of q) (store_place s.pool.pages t q)

unfoldable pub payload_place : State → ℕ → ℕ → Answer
payload_place s t q =
    let f = (sought s t q).frame in
    pick (ltb f s.pool.count) (payload in_frames (payload_at f) payload_size) (payload in_store (payload_at (store_place s.pool.pages t q)) payload_size)

unfoldable pub peek_call : State → ℕ → PageNumber → Out
peek_call s t q = decide s (page_rules s t q) (out (payload_place s t q.0) s)

-- ---- word: "gives the page number in a slot, swizzled or not"; request A.8: the mark, "and word shows it"

unfoldable pub word_call : State → Handle → ℕ → Out
word_call s h k = decide s (word_rules s h k) (out (number (plain (page_in s.pool.records) (word_of s h k)) (mark_of s h k)) s)

-- ---- write: "puts given bytes at a payload offset. Dirty, unless the length is 0."

abbrev pub write_rules : State → Handle → ℕ → ℕ → List Rule
write_rules s h offset n = handle_rules s h ++ (rule5 offset n ∷ rule26 s h ∷ [])

abbrev pub dirtied_by : ℕ → FrameRecord → FrameRecord
dirtied_by n r = pick (eqb n 0) r (dirtied r)

abbrev pub written : State → ℕ → ℕ → List ℕ → State
written s f offset bytes =
    state (with_record s.pool f (dirtied_by (length bytes) (record_at s.pool.records f))) (put_payload s.frames f offset bytes) s.store s.directory

unfoldable pub write_call : State → Handle → ℕ → List ℕ → Out
write_call s h offset bytes = decide s (write_rules s h offset (length bytes)) (out done (written s h.frame.0 offset bytes))

-- ---- link: "stores an unswizzled page number in an empty slot"; request A.8: "Link takes the mark". Unlink: "clears one. Both set dirty."

-- request A.9: "Test 9 before 8."
abbrev pub link_rules : State → Handle → ℕ → PageNumber → List Rule
link_rules s h k q = edit_rules s h k ++ (rule6-link s q.0 ∷ rule9 s h.store.0 q.0 ∷ rule8 (word_of s h k) ∷ [])

-- the word w in slot k of frame f, whose page is then dirty
abbrev pub relinked : State → ℕ → ℕ → ℕ → State
relinked s f k w = state (with_record s.pool f (dirtied (record_at s.pool.records f))) (put_slot s.frames f k w) s.store s.directory

unfoldable pub link_call : State → Handle → ℕ → PageNumber → Bool → Out
link_call s h k q l = decide s (link_rules s h k q) (out done (relinked s h.frame.0 k (marked l (number_word q.0))))

abbrev pub unlink_rules : State → Handle → ℕ → List Rule
unlink_rules s h k = edit_rules s h k ++ (rule7 (word_of s h k) ∷ rule10 (word_of s h k) ∷ [])

unfoldable pub unlink_call : State → Handle → ℕ → Out
unlink_call s h k = decide s (unlink_rules s h k) (out done (relinked s h.frame.0 k 0))

-- ---- evict, by page number of a store

-- why a page stays, request A.4: "20: the root; 21: pinned; 22: a swizzled word; in this order"
abbrev pub stay_rules : State → ℕ → ℕ → List Rule
stay_rules s t q = rule20 s t q ∷ rule21 s t q ∷ rule22 s t q ∷ []

abbrev pub evict_rules : State → ℕ → PageNumber → List Rule
evict_rules s t q = page_rules s t q ++ (rule11 s t q.0 ∷ stay_rules s t q.0)

unfoldable pub evict_call : State → ℕ → PageNumber → Out
evict_call s t q = decide s (evict_rules s t q) (out done (evicted s (found_in s.pool t q.0)))

-- ---- settle

unfoldable pub settle_call : State → Out
settle_call s = decide s (pool_rules s) (out done (settled s))

-- ---- find: "by page number, gives the frame or 'absent', which counts as accepted"

-- request A.3: "Find's answer gains, in place of A.2's count, the entries compared"
unfoldable pub found_answer : State → ℕ → ℕ → Answer
found_answer s t q =
    let a = sought s t q in
    pick (ltb a.frame s.pool.count) (frame a.frame a.compared) (nowhere a.compared)

unfoldable pub find_call : State → ℕ → PageNumber → Out
find_call s t q = decide s (page_rules s t q) (out (found_answer s t q.0) s)
