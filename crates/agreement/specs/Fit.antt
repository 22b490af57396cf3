-- What the code tests for rule 2, in the order of its one pass over the frames. proofs/Same proves that all of it together is `agree`.
use Rattle.std.specs.Prelude.{ℕ, zero, suc, ◌+◌, ◌*◌, ◌-◌, ◌/◌, ◌%◌, ◌<◌, ◌≤◌, ◌≡◌, ◌≢◌, Bool, true, false, List, eqb, ltb, leb, length, get_or, set}
use Rattle.page.specs.Figures.{slot_count, most_frames, most_stores, record_count, max_usage, max_pins}
use Rattle.page.specs.Word.{is_marked, is_marked_number, name_of, frame_word}
use Rattle.page.specs.Page.{slot, name}
use Rattle.machine.specs.declared.FrameRecord.{FrameRecord}
use Rattle.machine.specs.declared.Pool.{Pool}
use Rattle.rules.specs.Tests.{pick, ◌and◌}
use Rattle.chains.specs.Chain.{tally}
use Rattle.machine.specs.Machine.{is_used, is_of, record_at, page_in, store_in}
use Rattle.machine.specs.Agreement.{agree}
use Rattle.machine.proofs.Laws.Parents.{climb}
use Rattle.seen.specs.Seen.{Seen, OneStore, WithinStore}
use Rattle.residents.specs.Residents.{key_of, store_by, Residents, holds_page, held_by}
use Rattle.residents.specs.Handed.{Handed}
use Rattle.agreement.specs.Counting.{count_if}
use Rattle.agreement.specs.Twice.{keyed, PassedRow, Progress, RowNoted}

-- ---- a record by itself

-- the all-zero record
pub record Blank (r : FrameRecord) : Type 0 where
  pub used : r.used ≡ 0
  pub dirty : r.dirty ≡ 0
  pub usage : r.usage ≡ 0
  pub slot : r.slot ≡ 0
  pub parent : r.parent.0 ≡ 0
  pub store : r.store.0 ≡ 0
  pub pins : r.pins ≡ 0
  pub page : r.page.0 ≡ 0

-- a record's fields before its parent, its parent with its store, and those after them, each as the digits of one number
abbrev pub first_fields : ℕ → ℕ → ℕ → ℕ → ℕ
first_fields used dirty usage slot = used + 256 * dirty + 65536 * usage + 16777216 * slot

abbrev pub middle_fields : ℕ → ℕ → ℕ
middle_fields parent store = parent + 256 * store

abbrev pub last_fields : ℕ → ℕ → ℕ
last_fields pins page = pins + 65536 * page

-- the fields, or those of several records or-ed together, are all 0
pub record NoField (a m z : ℕ) : Type 0 where
  pub first : a ≡ 0
  pub middle : m ≡ 0
  pub last : z ≡ 0

-- with the fields of the record r too, nothing is there where nothing was and r is all zero
pub record Gathers (r : FrameRecord) (before after : Type 0) : Type 0 where
  pub kept : after → before
  pub blank : after → Blank r
  pub nothing : before → Blank r → after

-- the record of frame f, a root's
pub record RootFits (f : ℕ) (r : FrameRecord) : Type 0 where
  pub used : is_used r ≡ true
  pub pins : r.pins ≤ max_pins
  pub usage : r.usage ≤ max_usage
  pub dirty : r.dirty ≤ 1
  pub slot : r.slot ≡ 0
  pub parent : r.parent.0 ≡ 0
  pub store : r.store.0 ≡ f
  pub page : r.page.0 ≡ 0

-- the record of another occupied frame
pub record ResidentFits (F N T : ℕ) (r : FrameRecord) : Type 0 where
  pub pins : r.pins ≤ max_pins
  pub usage : r.usage ≤ max_usage
  pub dirty : r.dirty ≤ 1
  pub slot : r.slot < slot_count
  pub parent : r.parent.0 < F
  pub store : r.store.0 < T
  pub page : r.page.0 < N
  pub other : r.page.0 ≢ 0

-- frame f's parent is occupied by a page of its store (`above`), and its word is swizzled to f
pub record Linked (fs : List ℕ) (f : ℕ) (r : FrameRecord) (above : Bool) : Type 0 where
  pub occupied : above ≡ true
  pub word : name fs r.parent.0 r.slot ≡ frame_word f

-- the record of frame f, and the word that names it
pub record Fits (fs : List ℕ) (F N T f : ℕ) (r : FrameRecord) (above : Bool) : Type 0 where
  pub root : f < T → RootFits f r
  pub resident : T ≤ f → is_used r ≡ true → ResidentFits F N T r
  pub linked : T ≤ f → is_used r ≡ true → Linked fs f r above
  pub empty : is_used r ≡ false → Blank r

-- the records from F on are all zero
abbrev pub RestBlank : List FrameRecord → ℕ → Type 0
RestBlank rs F = (f : ℕ) → F ≤ f → f < record_count → Blank (record_at rs f)

-- ---- the numbers in the frames, as one row

-- how a word is read: as what it names (`name_of`), or as it stands
abbrev pub as_stands : ℕ → ℕ
as_stands w = w

-- a word that is below N; 0 in place of any other
unfoldable pub number_below : ℕ → ℕ → ℕ
number_below N w = pick (ltb w N) w 0

-- how many numbers a frame has: its page and its words
abbrev pub per_frame : ℕ
per_frame = 17

-- number j of an occupied frame f
unfoldable pub number_in : (ℕ → ℕ) → List FrameRecord → List ℕ → ℕ → ℕ → ℕ → ℕ
number_in read rs fs N f j = pick (eqb j 0) (page_in rs f) (number_below N (read (slot fs f (j - 1))))

-- the numbers of the frames one after the other, each as one of its frame's store, 0 for an empty frame's
unfoldable pub numbers_in_frames : (ℕ → ℕ) → List FrameRecord → List ℕ → ℕ → ℕ → ℕ
numbers_in_frames read rs fs N i = pick (is_used (record_at rs (i / per_frame))) (keyed (store_in rs (i / per_frame)) (number_in read rs fs N (i / per_frame) (i % per_frame))) 0

-- ---- the words that are not below N, which are to be swizzled, and the frames that they are to name

-- word j, slot j % 16 of frame j / 16, is in an occupied frame and not below N
unfoldable pub is_over : (ℕ → ℕ) → List FrameRecord → List ℕ → ℕ → ℕ → Bool
is_over read rs fs N j = is_used (record_at rs (j / slot_count)) and leb N (read (slot fs (j / slot_count) (j % slot_count)))

-- word k, as it stands, is not below N
unfoldable pub over_from : (ℕ → ℕ) → ℕ → ℕ → Bool
over_from w N k = leb N (w k)

-- frame f's record is in use
abbrev pub used_in : List FrameRecord → ℕ → Bool
used_in rs f = is_used (record_at rs f)

-- ---- the numbers with marks, which as they stand are too large to be numbers

-- a word gives a number below N with a mark; and that number, 0 in place of any other word
unfoldable pub marks_below : ℕ → ℕ → Bool
marks_below N w = is_marked w and ltb (name_of w) N

unfoldable pub marked_below : ℕ → ℕ → ℕ
marked_below N w = pick (is_marked w) (number_below N (name_of w)) 0

-- word j is in a frame that is held and gives one; and these numbers one after the other, each as one of its frame's store, 0 for a frame that isn't held
unfoldable pub is_marked_in : (ℕ → Bool) → List ℕ → ℕ → ℕ → Bool
is_marked_in held fs N j = held (j / slot_count) and marks_below N (slot fs (j / slot_count) (j % slot_count))

unfoldable pub marked_in_frames : (ℕ → Bool) → (ℕ → ℕ) → List ℕ → ℕ → ℕ → ℕ
marked_in_frames held store fs N j = pick (held (j / slot_count)) (keyed (store (j / slot_count)) (marked_below N (slot fs (j / slot_count) (j % slot_count)))) 0

-- the numbers of F frames in the order in which the code meets them: those without marks, and then those with
unfoldable pub numbers_met : List FrameRecord → List ℕ → ℕ → ℕ → ℕ → ℕ
numbers_met rs fs F N i = pick (ltb i (per_frame * F)) (numbers_in_frames as_stands rs fs N i) (marked_in_frames (used_in rs) (store_in rs) fs N (i - per_frame * F))

-- how many they are
abbrev pub places_met : ℕ → ℕ
places_met F = per_frame * F + slot_count * F

-- ---- the whole pass

-- the record of a frame's parent is that of a page of its store
abbrev pub above_of : List FrameRecord → FrameRecord → Bool
above_of rs r = is_of r.store.0 (record_at rs r.parent.0)

-- the record of the pool's frame f fits, and the word that names it
abbrev pub FrameFits : Pool → List ℕ → ℕ → FrameRecord → Type 0
FrameFits p fs f r = Fits fs p.count p.pages p.stores f r (above_of p.records r)

pub record FramesFit (rs : List FrameRecord) (fs : List ℕ) (F N T : ℕ) : Type 0 where
  pub fits : (f : ℕ) → f < F → Fits fs F N T f (record_at rs f) (above_of rs (record_at rs f))
  pub once : (i j : ℕ) → i < j → j < per_frame * F → numbers_in_frames name_of rs fs N i ≡ numbers_in_frames name_of rs fs N j → numbers_in_frames name_of rs fs N i ≡ 0
  pub even : count_if (slot_count * F) (is_over name_of rs fs N) + T ≡ count_if F (used_in rs)

-- ---- tables of numbers

-- the table's entries as a function
abbrev pub entry : List ℕ → ℕ → ℕ
entry t f = get_or t f 0

-- the row's number k put at its place
abbrev pub fill : (ℕ → ℕ) → ℕ → List ℕ → List ℕ
fill row k t = set t k (row k)

-- the table has the row's numbers at its first n places
abbrev pub Entries : (ℕ → ℕ) → ℕ → List ℕ → Type 0
Entries row n t = (f : ℕ) → f < n → entry t f ≡ row f

-- ---- what the functions of the pass tell of the table of seen numbers

-- the numbers of the words w, as store t's
abbrev pub word_keys : (ℕ → ℕ) → ℕ → ℕ → ℕ → ℕ
word_keys w N t k = keyed t (number_below N (w k))

-- the row has the numbers of 16 words, as store t's, from place i on
abbrev pub HasWords : (ℕ → ℕ) → ℕ → ℕ → (ℕ → ℕ) → ℕ → Type 0
HasWords w N t row i = (k : ℕ) → k < slot_count → row (i + k) ≡ word_keys w N t k

-- the list has the numbers of 16 words, one after the other
pub record BelowOf (w : ℕ → ℕ) (N : ℕ) (ns : List ℕ) : Type 0 where
  pub size : length ns ≡ slot_count
  pub right : (k : ℕ) → k < slot_count → get_or ns k 0 ≡ number_below N (w k)

-- the page and then the words of a frame that a page of store t occupies were noted: in any row that has them, the row goes on
abbrev pub NotesNumbers : (ℕ → ℕ) → ℕ → ℕ → ℕ → Seen → Seen → Bool → Type 0
NotesNumbers w N t page seen seen' fresh =
    (row : ℕ → ℕ) (i : ℕ) → row i ≡ keyed t page → HasWords w N t row (i + 1) → PassedRow row i seen → Progress row (i + per_frame) seen' fresh

-- what the numbers of the first k words add up to
unfoldable pub low_sum : (ℕ → ℕ) → ℕ → ℕ → ℕ
low_sum w N zero = 0
low_sum w N (suc k) = low_sum w N k + number_below N (w k)

-- what a word counts for in a sum: a number up to N − 1, the last, for itself, any other for more than 16 numbers below 4,096 add up to
abbrev pub over_weight : ℕ
over_weight = 65536

unfoldable pub weight : ℕ → ℕ → ℕ
weight last w = pick (leb w last) w over_weight

-- the sum of words goes on by word k
abbrev pub add_word : (ℕ → ℕ) → ℕ → ℕ → ℕ → ℕ
add_word w N k sum = sum + weight (N - 1) (w k)

-- what the sum of 16 words tells
pub record SumsWords (w : ℕ → ℕ) (N sum : ℕ) : Type 0 where
  pub counts : sum / over_weight ≡ count_if slot_count (over_from w N)
  pub low : sum % over_weight ≡ low_sum w N slot_count

-- what is told of 16 words, which were noted in store t
pub record WordsNoted (w : ℕ → ℕ) (N t : ℕ) (seen seen' : Seen) (fresh : Bool) : Type 0 where
  pub notes : RowNoted (word_keys w N t) slot_count seen seen' fresh
  pub within : WithinStore t seen seen'

-- what is told of an occupied frame's page and words
pub record NumbersNoted (w : ℕ → ℕ) (N t page : ℕ) (seen seen' : Seen) (over : ℕ) (fresh : Bool) : Type 0 where
  pub few : over ≤ slot_count
  pub counts : fresh ≡ true → over ≡ count_if slot_count (over_from w N)
  pub notes : NotesNumbers w N t page seen seen' fresh
  pub within : WithinStore t seen seen'

-- the row has the numbers of frame f from place i on
pub record HasNumbers (fs : List ℕ) (N f : ℕ) (r : FrameRecord) (row : ℕ → ℕ) (i : ℕ) : Type 0 where
  pub page : is_used r ≡ true → row i ≡ keyed r.store.0 r.page.0
  pub words : is_used r ≡ true → HasWords (slot fs f) N r.store.0 row (i + 1)
  pub empty : is_used r ≡ false → (j : ℕ) → j < per_frame → row (i + j) ≡ 0

-- where there is one store, it is store 0, and no other has numbers noted
pub record Alone (alone : Bool) (t : ℕ) (seen : Seen) : Type 0 where
  pub first : alone ≡ true → t ≡ 0
  pub only : alone ≡ true → OneStore seen

-- what is told of the numbers of frame f
pub record FrameNoted (fs : List ℕ) (N f : ℕ) (r : FrameRecord) (seen seen' : Seen) (over : ℕ) (fresh : Bool) : Type 0 where
  pub few : over ≤ slot_count
  pub counts : fresh ≡ true → is_used r ≡ true → over ≡ count_if slot_count (over_from (slot fs f) N)
  pub nothing : is_used r ≡ false → over ≡ 0
  pub notes : (row : ℕ → ℕ) (i : ℕ) → HasNumbers fs N f r row i → PassedRow row i seen → Progress row (i + per_frame) seen' fresh
  pub alone : r.store.0 ≡ 0 → OneStore seen → OneStore seen'

-- the words that give numbers with marks, and these numbers, as store t's
abbrev pub marks_from : (ℕ → ℕ) → ℕ → ℕ → Bool
marks_from w N k = marks_below N (w k)

abbrev pub marked_from : (ℕ → ℕ) → ℕ → ℕ → ℕ → ℕ
marked_from w N t k = keyed t (marked_below N (w k))

-- none of 16 words has a mark and names no frame
abbrev pub NoMark : (ℕ → ℕ) → Type 0
NoMark w = (k : ℕ) → k < slot_count → is_marked_number (w k) ≡ false

-- what is told of m words: those that give numbers with marks pass the test, and w are these numbers, 0 for another word
pub record MarksNoted (test : ℕ → Bool) (w : ℕ → ℕ) (m : ℕ) (seen seen' : Seen) (count : ℕ) (fresh : Bool) : Type 0 where
  pub few : count ≤ m
  pub counts : fresh ≡ true → count ≡ count_if m test
  pub notes : RowNoted w m seen seen' fresh

-- the pages in F frames are of four stores at most, by the table
abbrev pub StoresFew : List ℕ → ℕ → Type 0
StoresFew residents F = (f : ℕ) → f < F → store_by residents f < most_stores

-- those in frame f, where it holds a page by the table
abbrev pub FrameMarks : List ℕ → List ℕ → ℕ → ℕ → Seen → Seen → ℕ → Bool → Type 0
FrameMarks residents fs N f = MarksNoted (λ k. is_marked_in (holds_page residents) fs N (slot_count * f + k)) (λ k. marked_in_frames (holds_page residents) (store_by residents) fs N (slot_count * f + k)) slot_count

-- those in F frames; they are not looked for where the words that are not below N are `even` with the frames that they are to name
pub record AllMarks (residents fs : List ℕ) (F N : ℕ) (even : Bool) (seen seen' : Seen) (count : ℕ) (fresh : Bool) : Type 0 where
  pub few : count ≤ slot_count * F
  pub unasked : even ≡ true → (seen' ≡ seen) × (count ≡ 0) × (fresh ≡ true)
  pub asked : even ≡ false → MarksNoted (is_marked_in (holds_page residents) fs N) (marked_in_frames (holds_page residents) (store_by residents) fs N) (slot_count * F) seen seen' count fresh

-- ---- the parents

abbrev pub parent_at : List FrameRecord → ℕ → ℕ
parent_at rs f = (record_at rs f).parent.0

-- the table has the parent of each of F frames
pub record HasParents (rs : List FrameRecord) (F : ℕ) (t : List ℕ) : Type 0 where
  pub size : F ≤ length t
  pub parent : Entries (parent_at rs) F t

-- following parents from each of F frames reaches frame 0
abbrev pub AllLead : (ℕ → ℕ) → ℕ → Type 0
AllLead up F = (f : ℕ) → f < F → (n : ℕ) × (climb up n f ≡ 0)

-- ---- the ceilings

-- no store below T has more pages in F frames than its ceiling, by the table
abbrev pub UnderCeilings : List ℕ → ℕ → ℕ → List ℕ → Type 0
UnderCeilings residents F T ceilings = (t : ℕ) → t < T → held_by residents F t ≤ get_or ceilings t 0

-- where there is one store, so many pages of it are in F frames, by the table
abbrev pub HeldAlone : List ℕ → ℕ → ℕ → ℕ → Type 0
HeldAlone residents F T n = T ≡ 1 → held_by residents F 0 ≡ n

-- ---- what is settled on the way

-- the key of the page in frame f
abbrev pub key_in : List FrameRecord → ℕ → ℕ
key_in rs f = key_of (store_in rs f) (page_in rs f)

-- before frame f
pub record Before (rs : List FrameRecord) (fs : List ℕ) (F N T f : ℕ) (seen : Seen) (t residents : List ℕ) (occupied over : ℕ) : Type 0 where
  pub most : f ≤ F
  pub fits : (g : ℕ) → g < f → Fits fs F N T g (record_at rs g) (above_of rs (record_at rs g))
  pub passed : PassedRow (numbers_met rs fs F N) (per_frame * f) seen
  pub alone : T ≡ 1 → OneStore seen
  pub room : F ≤ length t
  pub parents : Entries (parent_at rs) f t
  pub size : length residents ≡ most_frames
  pub held : Entries (key_in rs) f residents
  pub clear : (g : ℕ) → f ≤ g → entry residents g ≡ 0
  pub counted : occupied ≡ count_if f (used_in rs)
  pub named : over ≡ count_if (slot_count * f) (is_over as_stands rs fs N)

-- before the parents are followed
pub record Settled (rs : List FrameRecord) (fs : List ℕ) (F N T : ℕ) (seen : Seen) (t residents : List ℕ) : Type 0 where
  pub rest : RestBlank rs F
  pub fit : FramesFit rs fs F N T
  pub parents : HasParents rs F t
  pub passed : PassedRow (numbers_in_frames name_of rs fs N) (per_frame * F) seen
  pub held : Residents rs residents
  pub counts : (t : ℕ) → held_by residents F t ≡ tally F (λ f. is_of t (record_at rs f))

-- the answer, and what it tells of the tables
abbrev pub Decided : Pool → List ℕ → List ℕ → Seen → Bool → Type 0
Decided p fs residents seen r = (r ≡ agree p fs) × (r ≡ true → Handed p fs residents seen)
