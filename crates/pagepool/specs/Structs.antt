-- The structs that stand for answers at the host boundary: document 01's number and values for each, and 0 in every field beside a refusal.
use Rattle.std.specs.Prelude.{ℕ, true, false, List, Result, Ok, Err}
use Rattle.rules.specs.declared.refusal.Refusal.{Refusal}
use Rattle.rules.specs.RefusalNumbers.{number_of, refused_by}
use Rattle.rules.specs.Tests.{verdict}
use Rattle.machine.specs.declared.Pool.{Pool}
use Rattle.machine.specs.Machine.{frame_index, store_number, page_number, zero_pool}
use Rattle.machine.specs.Answers.{Answer, refused, done, handle, payload, number, frame, nowhere, is_store, Out}
use Rattle.pagepool.specs.declared.answers.Done.{Done}
use Rattle.pagepool.specs.declared.answers.Fixed.{Fixed}
use Rattle.pagepool.specs.declared.answers.Named.{Named}
use Rattle.pagepool.specs.declared.answers.Found.{Found}
use Rattle.pagepool.specs.declared.answers.Place.{Place}

-- ---- calls without an answer of their own

-- by a refusal's number, 0 where the call was accepted
unfoldable pub done_by : ℕ → Answer
done_by n = verdict n refused done

abbrev pub done_of : Pool → Result (Unit {0}) Refusal → Done
done_of x a = record { pool = x; refusal = refused_by a }

-- open's: "Refused, it hands back all-zero records"
abbrev pub opened_of : Result Pool Refusal → Done
opened_of (Ok x) = record { pool = x; refusal = 0 }
opened_of (Err r) = record { pool = zero_pool; refusal = number_of r }

-- ---- root and fix, which give no answer of another kind

abbrev pub fixed_with : ℕ → ℕ → ℕ → ℕ → ℕ → Pool → Fixed
fixed_with n f t p looks x = record { refusal = n; handle = record { frame = frame_index f; store = store_number t; page = page_number p }; looks = looks; pool = x }

abbrev pub fixed_of : Answer → Pool → Fixed
fixed_of (handle f t p looks) x = fixed_with 0 f t p looks x
fixed_of (refused n) x = fixed_with n 0 0 0 0 x
fixed_of done x = fixed_with 0 0 0 0 0 x
fixed_of (payload b a n) x = fixed_with 0 0 0 0 0 x
fixed_of (number p l) x = fixed_with 0 0 0 0 0 x
fixed_of (frame f compared) x = fixed_with 0 0 0 0 0 x
fixed_of (nowhere compared) x = fixed_with 0 0 0 0 0 x

-- the struct, with the frames, the store and the directory that the call leaves
pub record FixedOut : Type 0 where
  pub fixed : Fixed
  pub frames : List ℕ
  pub store : List ℕ
  pub directory : List ℕ

abbrev pub fixed_out : Out → FixedOut
fixed_out o = record { fixed = fixed_of o.answer o.left.pool; frames = o.left.frames; store = o.left.store; directory = o.left.directory }

-- ---- word, which gives the mark beside the number

abbrev pub no_name : ℕ → Named
no_name n = record { refusal = n; locked = false; page = page_number 0 }

abbrev pub named_of : Answer → Named
named_of (number p l) = record { refusal = 0; locked = l; page = page_number p }
named_of (refused n) = no_name n
named_of done = no_name 0
named_of (handle f t p looks) = no_name 0
named_of (payload b a n) = no_name 0
named_of (frame f compared) = no_name 0
named_of (nowhere compared) = no_name 0

-- ---- find

abbrev pub no_frame : ℕ → ℕ → Found
no_frame n compared = record { refusal = n; present = false; frame = frame_index 0; compared = compared }

abbrev pub found_of : Answer → Found
found_of (frame f compared) = record { refusal = 0; present = true; frame = frame_index f; compared = compared }
found_of (nowhere compared) = no_frame 0 compared
found_of (refused n) = no_frame n 0
found_of done = no_frame 0 0
found_of (handle f t p looks) = no_frame 0 0
found_of (payload b a n) = no_frame 0 0
found_of (number p l) = no_frame 0 0

-- ---- show and peek

-- no payload: the empty part at the start of the frames, with the refusal's number
abbrev pub no_place : ℕ → Place
no_place n = record { refusal = n; in_store = false; start = 0; size = 0 }

abbrev pub place_of : Answer → Place
place_of (payload b a n) = record { refusal = 0; in_store = is_store b; start = a; size = n }
place_of (refused n) = no_place n
place_of done = no_place 0
place_of (handle f t p n) = no_place 0
place_of (number p l) = no_place 0
place_of (frame f n) = no_place 0
place_of (nowhere n) = no_place 0
