-- "Numbered denials, in checking order", but that link tests 9 before 8 (request A.9), that 20 to 22 stand after 11 (request A.4), 26 after 5 (request A.8), 28 after 2 and 27 beside 15 (request A.11): the table of the rules. A rule's test holds where it is kept.
use Rattle.std.specs.Prelude.{ℕ, ◌+◌, ◌*◌, ◌-◌, ◌/◌, Bool, not, List, eqb, ltb, leb, length, get_or}
use Rattle.page.specs.Figures.{page_size, slot_count, payload_size, least_frames, most_frames, most_pages, most_stores, max_pins}
use Rattle.page.specs.Word.{is_number, names_nothing}
use Rattle.page.specs.Page.{name, lock}
use Rattle.machine.specs.declared.Pool.{Pool}
use Rattle.machine.specs.declared.Handle.{Handle}
use Rattle.rules.specs.Tests.{pick, ◌and◌, ◌or◌, every, Rule}
use Rattle.machine.specs.Machine.{State, is_used, record_at, is_root, found_in, at_ceiling}
use Rattle.chains.specs.Chain.{directory_size}
use Rattle.machine.specs.Directory.{chains_agree}
use Rattle.machine.specs.Agreement.{parent_of, parent_slot_of, agree}
use Rattle.machine.specs.Soundness.{sound}
use Rattle.machine.specs.Sweep.{first_empty, childless, sweep}
use Rattle.machine.specs.Naming.{named, loadable}

-- F and N are in their ranges, and frames and store have F pages, and N pages for each of T stores
unfoldable pub lengths_fit : ℕ → ℕ → ℕ → List ℕ → List ℕ → Bool
lengths_fit F N T fs st =
    leb least_frames F and leb F most_frames and leb 1 N and leb N most_pages and eqb (length fs) (page_size * F) and eqb (length st) (page_size * (N * T))

-- request A.11: "Every store has a ceiling of 1 to F resident pages"; "four ceilings, 0 for no store"
unfoldable pub ceiling_fits : ℕ → ℕ → List ℕ → ℕ → Bool
ceiling_fits F T ceilings t = let c = get_or ceilings t 0 in pick (ltb t T) (leb 1 c and leb c F) (eqb c 0)

-- "T is 1 to 4 and F at least T + 1."
unfoldable pub stores_fit : ℕ → ℕ → List ℕ → Bool
stores_fit F T ceilings = leb 1 T and leb T most_stores and leb (T + 1) F and every most_stores (ceiling_fits F T ceilings)

-- request A.3: "a further buffer of 131 bytes"
unfoldable pub directory_fits : List ℕ → Bool
directory_fits d = eqb (length d) directory_size

-- the handle's frame is below F and holds its page, of its store, and its pins are not 0
unfoldable pub handle_fits : Pool → Handle → Bool
handle_fits p h =
    let r = record_at p.records h.frame.0 in
    ltb h.frame.0 p.count and is_used r and eqb r.store.0 h.store.0 and eqb r.page.0 h.page.0 and ltb 0 r.pins

-- the offset is at most 192 and the length at most 192 − offset
unfoldable pub range_fits : ℕ → ℕ → Bool
range_fits offset n = leb offset payload_size and leb n (payload_size - offset)

-- what the word in a slot of the handle's page names; and its mark
abbrev pub word_of : State → Handle → ℕ → ℕ
word_of s h k = name s.frames h.frame.0 k

abbrev pub mark_of : State → Handle → ℕ → Bool
mark_of s h k = lock s.frames h.frame.0 k

-- request A.8: "Bit 30 of a word marks the page it names as locked". The page in frame f is named by its parent's word, a root by none.
unfoldable pub locked : State → ℕ → Bool
locked s f = not (is_root s.pool.stores f) and lock s.frames (parent_of s.pool f) (parent_slot_of s.pool f)

-- ---- the table

-- 1. "Frames or store have a length other than those above, or other than at opening." Request A.3: "A directory of wrong length falls under refusal 1". Request A.11: "Figures outside these fall under refusal 1"
abbrev pub rule1 : State → Rule
rule1 s =
    let p = s.pool in
    (1, lengths_fit p.count p.pages p.stores s.frames s.store and stores_fit p.count p.stores p.ceilings and directory_fits s.directory)

-- 1 for open, which is handed no records, but T and the ceilings: F is the frames' length over 256, N the store's over 256 × T
abbrev pub frames_in : List ℕ → ℕ
frames_in fs = length fs / page_size

abbrev pub pages_of_each : ℕ → List ℕ → ℕ
pages_of_each T st = length st / (page_size * T)

abbrev pub rule1-open : ℕ → List ℕ → List ℕ → List ℕ → List ℕ → Rule
rule1-open T ceilings fs st d = (1, lengths_fit (frames_in fs) (pages_of_each T st) T fs st and stores_fit (frames_in fs) T ceilings and directory_fits d)

-- 2. "Records and frames don't agree (every call but open)." Request A.8: so where bit 30 stands alone in an occupied frame. Request A.3: a directory "whose chains don't give exactly the resident pages of their remainders .. under 2"
abbrev pub rule2 : State → Rule
rule2 s = (2, agree s.pool s.frames and chains_agree s.pool s.directory)

-- request A.11: "28: the store number isn't below T, after 2"
abbrev pub rule28 : State → ℕ → Rule
rule28 s t = (28, ltb t s.pool.stores)

-- 3. "The handle's frame index isn't below F, that frame doesn't hold its page, or its pins are 0." Request A.11: handles "name a store, and pages are compared within their store"
abbrev pub rule3 : State → Handle → Rule
rule3 s h = (3, handle_fits s.pool h)

-- 4. "The slot is above 15."
abbrev pub rule4 : ℕ → Rule
rule4 k = (4, ltb k slot_count)

-- 5. "The offset is above 192 or the length above 192 − offset."
abbrev pub rule5 : ℕ → ℕ → Rule
rule5 offset n = (5, range_fits offset n)

-- request A.8: "26: the handle's page is locked, after 5 and before 6"
abbrev pub rule26 : State → Handle → Rule
rule26 s h = (26, not (locked s h.frame.0))

-- 6. "The page number isn't below N, or is 0 in link."
abbrev pub rule6 : State → ℕ → Rule
rule6 s q = (6, ltb q s.pool.pages)

abbrev pub rule6-link : State → ℕ → Rule
rule6-link s q = (6, ltb 0 q and ltb q s.pool.pages)

-- 7. "Fix or unlink meets a word of 0."
abbrev pub rule7 : ℕ → Rule
rule7 w = (7, not (names_nothing w))

-- 8. "Link meets a word that isn't 0."
abbrev pub rule8 : ℕ → Rule
rule8 w = (8, names_nothing w)

-- 9. "Link's page is already named by a word of any page, resident pages taken by their images and the others from the store.", within store t
abbrev pub rule9 : State → ℕ → ℕ → Rule
rule9 s t q = (9, not (named s t q))

-- 10. "Unlink's page is resident": its word is swizzled
abbrev pub rule10 : ℕ → Rule
rule10 w = (10, is_number w)

-- 11. "Evict's page isn't resident."
abbrev pub rule11 : State → ℕ → ℕ → Rule
rule11 s t q = (11, ltb (found_in s.pool t q) s.pool.count)

-- request A.4, of evict's page: "20: the root; 21: pinned; 22: a swizzled word"
abbrev pub rule20 : State → ℕ → ℕ → Rule
rule20 s t q = (20, not (is_root s.pool.stores (found_in s.pool t q)))

abbrev pub rule21 : State → ℕ → ℕ → Rule
rule21 s t q = (21, eqb (record_at s.pool.records (found_in s.pool t q)).pins 0)

abbrev pub rule22 : State → ℕ → ℕ → Rule
rule22 s t q = (22, childless s.frames (found_in s.pool t q))

-- 13. "A resident page to be pinned has 65,535 pins."
abbrev pub rule13 : State → ℕ → Rule
rule13 s f = (13, not (eqb (record_at s.pool.records f).pins max_pins))

-- 14. "The stored page to be loaded has a word with bit 31 set, not below N, repeated within it, or naming a page that a resident page already names." Request A.8: or one of bit 30 alone
abbrev pub rule14 : State → ℕ → ℕ → Rule
rule14 s t q = (14, loadable s t q)

-- 15. "No frame is empty and a sweep could take none." Request A.11: "15 is for a store below its ceiling"
abbrev pub rule15 : State → ℕ → Rule
rule15 s t = (15, at_ceiling s.pool t or ltb (first_empty s.pool) s.pool.count or (sweep s.pool s.frames t).taken)

-- request A.11: "27: a store at its ceiling has no page of its own that a sweep could take, beside 15"
abbrev pub rule27 : State → ℕ → Rule
rule27 s t = (27, not (at_ceiling s.pool t) or (sweep s.pool s.frames t).taken)

-- 16. "Open's store isn't sound." Request A.11: "16 is for any of them"
abbrev pub rule16 : ℕ → ℕ → List ℕ → Rule
rule16 T N st = (16, sound st N T)
