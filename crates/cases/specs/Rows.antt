-- What the tables share: small machines, answers and machines as numbers, and rows.
use Rattle.std.specs.Prelude.{Bool, true, false, ◌&&◌, ℕ, ◌+◌, ◌-◌, ◌*◌, ◌/◌, eqb, length, get_or, set, replicate}
use mathlib.Core.List.{List, [], ◌∷◌, ◌++◌, map, foldr}
use Rattle.page.specs.Word.{word_at, put_word, is_marked, name_of, marked, gives_page}
use Rattle.page.specs.Page.{slot, put_slot, page_of, put_page, put_payload, bytes_from}
use Rattle.chains.specs.ChainRows.{directory_of}
use Rattle.machine.specs.declared.FrameRecord.{FrameRecord}
use Rattle.machine.specs.declared.Handle.{Handle}
use Rattle.rules.specs.Tests.{pick, ◌and◌, ◌or◌, ◌⇒◌, every, some, first_broken, verdict}
use Rattle.machine.specs.Machine.{State, state, frame_index, page_number, store_number, zero_pool, root_records, occupied, found_from, held, at_ceiling}
use Rattle.chains.specs.Chain.{chain_from, has, each_of, once, opened_directory, entered, taken_from, seek_in, tally}
use Rattle.machine.specs.Directory.{belongs, chain_right, chains_right, chains_whole, others_zero, chains_agree}
use Rattle.machine.specs.Agreement.{is_blank, root_in_place, roots_in_place, pages_apart, hand_in_range, fields_in_range, all_in_range, empty_blank, parents_name, stores_agree, points_back, swizzled_point_back, absent, numbers_absent, numbers_once, reaches_root, all_reach_root, ceilings_hold, agree}
use Rattle.machine.specs.Soundness.{words_below, words_once, sound_store, sound}
use Rattle.machine.specs.Moves.{plain, image_to, written_out_by, written_out_to, cleaned_to, settled, evicted, loaded}
use Rattle.machine.specs.Sweep.{after, empty_from, childless, standing, kind_for, look_leaves, look_takes, sweep_from}
use Rattle.machine.specs.Naming.{current_word, named, named_by_resident, repeated, word_loadable, loadable}
use Rattle.machine.specs.Answers.{Answer, refused, done, handle, payload, in_frames, in_store, number, frame, nowhere, cut, Shown, Out}
use Rattle.machine.specs.Rules.{lengths_fit, ceiling_fits, stores_fit, directory_fits, handle_fits, range_fits, locked}
use Rattle.machine.specs.Calls.{decide, root_frames, open_call, root_call, fix_call, miss_out, unfix_call, show_call, payload_place, peek_call, word_call, write_call, link_call, unlink_call, evict_call, settle_call, found_answer, find_call}

abbrev pub joined : List (List ℕ) → List ℕ
joined = foldr (λ (x y : List ℕ). x ++ y) []

-- ---- small machines

-- a record by its fields: used, dirty, usage count (heat), slot, parent, pins, page; of store 0
abbrev pub made : ℕ → ℕ → ℕ → ℕ → ℕ → ℕ → ℕ → FrameRecord
made used dirty usage slot parent pins page =
    record { used = used; dirty = dirty; usage = usage; slot = slot; parent = frame_index parent; store = store_number 0; pins = pins; page = page_number page }

abbrev pub empty : FrameRecord
empty = made 0 0 0 0 0 0 0

-- page p, clean, with its pins and usage count, by slot k of frame f; and by the root's slot p − 1, the root itself by none
abbrev pub child : ℕ → ℕ → ℕ → ℕ → ℕ → FrameRecord
child f k p pins usage = made 1 0 usage k f pins p

abbrev pub resident : ℕ → ℕ → ℕ → FrameRecord
resident p pins usage = child 0 (p - 1) p pins usage

-- a record dirty; and so with the page by the root's slot
abbrev pub unsaved : FrameRecord → FrameRecord
unsaved r = record { used = r.used; dirty = 1; usage = r.usage; slot = r.slot; parent = r.parent; store = r.store; pins = r.pins; page = r.page }

abbrev pub changed : ℕ → ℕ → ℕ → FrameRecord
changed p pins usage = unsaved (resident p pins usage)

-- a record of store t; that of its root; and that of page p by slot p − 1 of the root, which is in frame t
abbrev pub of_store : ℕ → FrameRecord → FrameRecord
of_store t r = record { used = r.used; dirty = r.dirty; usage = r.usage; slot = r.slot; parent = r.parent; store = store_number t; pins = r.pins; page = r.page }

abbrev pub root_of : ℕ → ℕ → ℕ → FrameRecord
root_of t pins usage = of_store t (child 0 0 0 pins usage)

abbrev pub under : ℕ → ℕ → ℕ → ℕ → FrameRecord
under t p pins usage = of_store t (child t (p - 1) p pins usage)

-- a word: a page number below 256, a frame index with bit 31, or nothing; the two with a mark
abbrev pub names : ℕ → List ℕ
names p = p ∷ 0 ∷ 0 ∷ 0 ∷ []

abbrev pub swizzled_to : ℕ → List ℕ
swizzled_to f = f ∷ 0 ∷ 0 ∷ 0x80 ∷ []

abbrev pub locks_page : ℕ → List ℕ
locks_page p = p ∷ 0 ∷ 0 ∷ 0x40 ∷ []

abbrev pub locks_frame : ℕ → List ℕ
locks_frame f = f ∷ 0 ∷ 0 ∷ 0xC0 ∷ []

abbrev pub nothing : List ℕ
nothing = names 0

-- a page: its first words, and one byte for all of its payload
abbrev pub page : List (List ℕ) → ℕ → List ℕ
page words byte = joined words ++ replicate (64 - 4 * length words) 0 ++ replicate 192 byte

-- a directory as a host left it, of so many bytes
abbrev pub strewn : ℕ → List ℕ
strewn n = replicate n 7

-- the directory d with the frames from f on entered, each at its chain's head: the pages are below 67, so byte p leads to page p
unfoldable pub each_entered : List ℕ → ℕ → List FrameRecord → List ℕ
each_entered d f [] = d
each_entered d f (r ∷ rs) = each_entered (pick (eqb r.used 1) (set (set d (67 + f) (get_or d r.page.0 0)) r.page.0 (f + 1)) d) (f + 1) rs

-- a machine by its parts: the stores' ceilings, one for each of T; N; the hand; the records of its F frames; the three buffers
abbrev pub assembled : List ℕ → ℕ → ℕ → List FrameRecord → List ℕ → List ℕ → List ℕ → State
assembled ceilings N hand records fs st d =
    state
    (record {
      records = records ++ replicate (64 - length records) empty;
      count = length records;
      pages = N;
      stores = length ceilings;
      ceilings = ceilings ++ replicate (4 - length ceilings) 0;
      hand = frame_index hand;
    })
    fs st d

-- the ceilings, the hand, each frame's record and bytes, and the pages of the T stores, one store after another; every resident page is entered in the directory, frame after frame
abbrev pub machine_of : List ℕ → ℕ → List (FrameRecord × List ℕ) → List (List ℕ) → State
machine_of ceilings hand frames stores =
    let records = map (λ (x : FrameRecord × List ℕ). x.0) frames in
    assembled ceilings (length stores / length ceilings) hand records (joined (map (λ (x : FrameRecord × List ℕ). x.1) frames)) (joined stores) (each_entered (directory_of [] []) 0 records)

-- one store, with ceiling F
abbrev pub machine : ℕ → List (FrameRecord × List ℕ) → List (List ℕ) → State
machine hand frames store = machine_of (length frames ∷ []) hand frames store

-- all-zero records beside these buffers, as a refused open gives them
abbrev pub zeroed : List ℕ → List ℕ → List ℕ → State
zeroed fs st d = state (record { records = replicate 64 empty; count = 0; pages = 0; stores = 0; ceilings = replicate 4 0; hand = frame_index 0 }) fs st d

-- the same with another directory
abbrev pub with_directory : State → List ℕ → State
with_directory s d = state s.pool s.frames s.store d

-- a handle by its frame, store and page; and of store 0
abbrev pub handle_at : ℕ → ℕ → ℕ → Handle
handle_at f t p = record { frame = frame_index f; store = store_number t; page = page_number p }

abbrev pub handle_of : ℕ → ℕ → Handle
handle_of f p = handle_at f 0 p

-- open over two frames, of one store with ceiling F
abbrev pub open_one : List ℕ → List ℕ → List ℕ → Out
open_one fs st d = open_call 1 (2 ∷ 0 ∷ 0 ∷ 0 ∷ []) fs st d

-- ---- as numbers

abbrev pub flag : Bool → ℕ
flag false = 0
flag true = 1

-- an answer by document 01's numbers: 0 or the refusal, then the values
abbrev pub numbers : Answer → List ℕ
numbers (refused n) = n ∷ []
numbers done = 0 ∷ []
numbers (handle f t p looks) = 0 ∷ f ∷ t ∷ p ∷ looks ∷ []
numbers (payload b a n) = 0 ∷ a ∷ n ∷ []
numbers (number p l) = 0 ∷ p ∷ flag l ∷ []
numbers (frame f compared) = 0 ∷ f ∷ compared ∷ []
numbers (nowhere compared) = 0 ∷ compared ∷ []

-- which answer it is
abbrev which : Answer → ℕ
which (refused n) = 0
which done = 1
which (handle f t p looks) = 2
which (payload in_frames a n) = 3
which (payload in_store a n) = 4
which (number p l) = 5
which (frame f compared) = 6
which (nowhere compared) = 7

abbrev fields : FrameRecord → List ℕ
fields r = r.used ∷ r.dirty ∷ r.usage ∷ r.slot ∷ r.parent.0 ∷ r.store.0 ∷ r.pins ∷ r.page.0 ∷ []

-- all of a machine: every record's fields, F, N, T, the ceilings, the hand, and the three buffers with their lengths
abbrev whole : State → List ℕ
whole s =
    joined (map fields s.pool.records) ++ s.pool.ceilings ++ (s.pool.count ∷ s.pool.pages ∷ s.pool.stores ∷ s.pool.hand.0 ∷ length s.frames ∷ length s.store ∷ length s.directory ∷ [])
    ++ s.frames ++ s.store ++ s.directory

-- ---- rows

-- what the definitions give, and what document 01 says
pub record Case : Type 0 where
  pub gives : List ℕ
  pub says : List ℕ

abbrev pub is : List ℕ → List ℕ → Case
is a b = record { gives = a; says = b }

-- a row with more before it
abbrev pub also : List ℕ → List ℕ → Case → Case
also a b c = is (a ++ c.gives) (b ++ c.says)

-- an answer
abbrev pub answers : Answer → Answer → Case
answers a b = is (which a ∷ numbers a) (which b ∷ numbers b)

-- a call's answer, and all of the machine that it leaves
abbrev pub leaves : Out → Answer → State → Case
leaves o a s = is (which o.answer ∷ numbers o.answer ++ whole o.left) (which a ∷ numbers a ++ whole s)

-- "A refused call answers its number alone. Nothing else changes."
abbrev pub refuses : (State → Out) → State → ℕ → Case
refuses call s n = leaves (call s) (refused n) s

-- refused by 2, and for records and frames alone: the directory agrees with the records
abbrev pub disagrees : State → Case
disagrees s = also (flag (chains_agree s.pool s.directory) ∷ []) (1 ∷ []) (refuses settle_call s 2)

-- what is handed back: where it lies, its bytes, and the number
abbrev pub hands : Shown → ℕ × ℕ → List ℕ → ℕ → Case
hands x at bytes n = is (x.part.at.0 ∷ x.part.at.1 ∷ x.number ∷ x.part.bytes) (at.0 ∷ at.1 ∷ n ∷ bytes)

-- two lists of numbers are equal
unfoldable pub same_numbers : List ℕ → List ℕ → Bool
same_numbers [] [] = true
same_numbers [] (y ∷ ys) = false
same_numbers (x ∷ xs) [] = false
same_numbers (x ∷ xs) (y ∷ ys) = eqb x y && same_numbers xs ys

-- every row gives what document 01 says. To unfold it unfolds the definitions that the rows are computed by.
unfoldable pub all_hold : List Case → Bool
unfolding same_numbers each_entered root_frames open_call root_call fix_call miss_out unfix_call show_call payload_place peek_call word_call write_call link_call unlink_call evict_call settle_call found_answer find_call decide verdict first_broken pick ◌and◌ ◌or◌ ◌⇒◌ every some lengths_fit ceiling_fits stores_fit directory_fits handle_fits range_fits locked chain_from has each_of once belongs chain_right chains_right chains_whole others_zero chains_agree opened_directory entered taken_from seek_in tally agree root_in_place roots_in_place pages_apart hand_in_range all_in_range fields_in_range empty_blank is_blank parents_name stores_agree points_back swizzled_point_back absent numbers_absent gives_page numbers_once reaches_root all_reach_root ceilings_hold sound words_below words_once sound_store zero_pool root_records occupied found_from held at_ceiling is_marked name_of marked slot word_at put_slot put_word page_of put_page put_payload bytes_from plain image_to written_out_by written_out_to cleaned_to settled evicted loaded after empty_from childless standing kind_for look_leaves look_takes sweep_from current_word named named_by_resident repeated word_loadable loadable cut
all_hold [] = true
all_hold (c ∷ cs) = same_numbers c.gives c.says && all_hold cs
