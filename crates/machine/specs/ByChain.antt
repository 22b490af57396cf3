-- Request A.3, "A directory of resident pages": what holds of the directory, and of find and peek, which go by it. First wherever rules 1 and 2 are kept, then at every point of every list of calls from an accepted open. The proofs stand in proofs/Laws and proofs/Theorem.
use Rattle.std.specs.Prelude.{ℕ, zero, suc, ◌+◌, ◌≤◌, ◌<◌, ◌≡◌, ◌≢◌, ◌↔◌, true, List, ◌∷◌, ◌++◌, [], ltb, length, get_or}
use Rattle.page.specs.declared.PageNumber.{PageNumber}
use Rattle.page.specs.Figures.{payload_size}
use Rattle.page.specs.Page.{payload_at}
use Rattle.page.specs.Octets.{Octets}
use Rattle.rules.specs.Tests.{pick}
use Rattle.page.specs.StorePlaces.{store_place}
use Rattle.machine.specs.Machine.{State, page_number, page_in, store_in, occupied, found_in}
use Rattle.chains.specs.Chain.{directory_size, bucket_of, link_at, chain_of}
use Rattle.machine.specs.Directory.{chains_agree, residents_of}
use Rattle.machine.specs.Answers.{Answer, refused, done, handle, payload, number, frame, nowhere, in_frames, in_store, Out, out}
use Rattle.machine.specs.Calls.{decide, page_rules, open_call, peek_call, find_call}
use Rattle.machine.specs.History.{Call, start, run, AllBytes}

-- ---- find and peek as document 01 has them, by the frames: definitions for these claims alone, which no call cites

-- an answer of find without its count: 0 stands for none
abbrev pub without_count : Answer → Answer
without_count (refused n) = refused n
without_count done = done
without_count (handle f t p looks) = handle f t p looks
without_count (payload b a n) = payload b a n
without_count (number p l) = number p l
without_count (frame f compared) = frame f 0
without_count (nowhere compared) = nowhere 0

-- "by page number, gives the frame or 'absent', which counts as accepted"
unfoldable pub find_by_frames : State → ℕ → PageNumber → Out
find_by_frames s t q = let f = found_in s.pool t q.0 in decide s (page_rules s t q) (out (pick (ltb f s.pool.count) (frame f 0) (nowhere 0)) s)

-- "by page number, hands back the payload from the frame if resident, otherwise from the store"
unfoldable pub peek_by_frames : State → ℕ → PageNumber → Out
peek_by_frames s t q =
    let f = found_in s.pool t q.0 in
    decide s (page_rules s t q) (out (pick (ltb f s.pool.count) (payload in_frames (payload_at f) payload_size) (payload in_store (payload_at (store_place s.pool.pages t q.0)) payload_size)) s)

-- ---- what is claimed

-- the entries compared, in find's answer; 0 for any other
abbrev pub compared_in : Answer → ℕ
compared_in (refused n) = 0
compared_in done = 0
compared_in (handle f t p looks) = 0
compared_in (payload b a n) = 0
compared_in (number p l) = 0
compared_in (frame f compared) = compared
compared_in (nowhere compared) = compared

-- frame f holds page p of store t by its record; and no frame does
pub record Recorded (s : State) (t p f : ℕ) : Type 0 where
  pub at : occupied s.pool f ≡ true
  pub store : store_in s.pool.records f ≡ t
  pub page : page_in s.pool.records f ≡ p

abbrev pub Unrecorded : State → ℕ → ℕ → Type 0
Unrecorded s t p = (f : ℕ) → Recorded s t p f → ⊥

-- "the place of the page's entry in its chain, from 1": frame f is the n-th of a chain
abbrev pub StandsAt : ℕ → ℕ → List ℕ → Type 0
StandsAt f n chain = (before after : List ℕ) × (chain ≡ before ++ (f ∷ after)) × (n ≡ length before + 1)

pub record ByChain (s : State) : Type 0 where
  -- "Find and peek use it and agree with the frames after every accepted call."
  pub found : (t p f : ℕ) → ((compared : ℕ) × ((find_call s t (page_number p)).answer ≡ frame f compared)) ↔ Recorded s t p f
  pub absent : (t p : ℕ) → ((compared : ℕ) × ((find_call s t (page_number p)).answer ≡ nowhere compared)) ↔ ((t < s.pool.stores) × (p < s.pool.pages) × Unrecorded s t p)
  pub peeked_there : (t p f : ℕ) → Recorded s t p f → (peek_call s t (page_number p)).answer ≡ payload in_frames (payload_at f) payload_size
  pub peeked_stored : (t p : ℕ) → t < s.pool.stores → p < s.pool.pages → Unrecorded s t p → (peek_call s t (page_number p)).answer ≡ payload in_store (payload_at (store_place s.pool.pages t p)) payload_size
  -- "the entries compared: the place of the page's entry in its chain, from 1, or the chain's length if absent"
  pub place : (t p f compared : ℕ) → (find_call s t (page_number p)).answer ≡ frame f compared → StandsAt f compared (chain_of s.directory (bucket_of p))
  pub whole : (t p compared : ℕ) → (find_call s t (page_number p)).answer ≡ nowhere compared → compared ≡ length (chain_of s.directory (bucket_of p))
  -- "never above the number of resident pages with that remainder", of whichever stores
  pub few : (t p : ℕ) → compared_in (find_call s t (page_number p)).answer ≤ residents_of s.pool (bucket_of p)

-- on every state, damaged ones too, find but for its count and peek are what they are by the frames: "the listing prints as before"
pub record AsByFrames (s : State) (t : ℕ) (q : PageNumber) : Type 0 where
  pub finds : without_count (find_call s t q).answer ≡ (find_by_frames s t q).answer
  pub left : (find_call s t q).left ≡ (find_by_frames s t q).left
  pub peeks : peek_call s t q ≡ peek_by_frames s t q

-- the directory agrees with the records, and find and peek go by it rightly
pub record DirectoryHolds (s : State) : Type 0 where
  pub chained : chains_agree s.pool s.directory ≡ true
  pub by_chain : ByChain s

-- the frames below T, the last first
unfoldable pub last_first : ℕ → List ℕ
last_first zero = []
last_first (suc t) = t ∷ last_first t

-- "Open leaves page 0 alone in it", over whatever stood there. Request A.11: of T stores, the roots, "entered in the directory in that order", are chain 0, and every byte that isn't its head or a link of them is 0
pub record RootsAlone (T : ℕ) (d : List ℕ) : Type 0 where
  pub size : length d ≡ directory_size
  pub chain : chain_of d 0 ≡ last_first T
  pub others : (a : ℕ) → a ≢ 0 → ((t : ℕ) → t < T → a ≢ link_at t) → get_or d a 0 ≡ 0

abbrev pub OpenedDirectory : Type 0
OpenedDirectory =
    (T : ℕ) (ceilings frames store directory : List ℕ) → (open_call T ceilings frames store directory).answer ≡ done
    → RootsAlone T (open_call T ceilings frames store directory).left.directory

-- from an open that is accepted, with any T and ceilings, over any frames and store of bytes and any directory, after any list of calls
abbrev pub DirectoryAgrees : Type 0
DirectoryAgrees =
    (T : ℕ) (ceilings frames store directory : List ℕ) → Octets frames → Octets store → (open_call T ceilings frames store directory).answer ≡ done
    → (cs : List Call) → AllBytes cs → DirectoryHolds (run cs (start (open_call T ceilings frames store directory).left)).now
