-- Request A.10, "A load anyone can repeat": the call record that five draws make of a pool.
use Rattle.std.specs.Prelude.{ℕ, ◌+◌, ◌/◌, ◌%◌, ◌<◌, ◌≤◌, ◌≡◌, ◌≢◌, List, [], ◌∷◌, eqb, length, replicate}
use Rattle.page.specs.Figures.{slot_count, payload_size, byte_radix}
use Rattle.page.specs.Page.{bytes_from}
use Rattle.rules.specs.Tests.{pick, first_broken, verdict}
use Rattle.machine.specs.Machine.{State, frame_index, store_number, page_number, occupied, page_in}
use Rattle.machine.specs.Calls.{pool_rules}
use Rattle.recording.specs.Listing.{call_in, page_in_record, handle_in, parent_in, slot_in, offset_in, length_in}
use Rattle.generator.specs.declared.Generator.{Generator}
use Rattle.generator.specs.Generator.{number_after}
use Rattle.drawing.specs.declared.Drawn.{Drawn}
use Rattle.drawing.specs.declared.fields.Fields.{Fields}

-- "Five draws, each giving the number after it, make a call record: call, frame, page, slot and offset are remainders by 9 (plus 1), F, N, 16 and 193"
unfoldable pub fields_from : ℕ → ℕ → ℕ → Fields
fields_from F N x =
    let a = number_after x in
    let b = number_after a in
    let c = number_after b in
    let d = number_after c in
    let e = number_after d in
    record { call = a % 9 + 1; frame = frame_index (b % F); page = page_number (c % N); slot = d % 16; offset = e % 193; generator = record { number = e } }

-- "Link's parent page is the page resident in the drawn frame, else 0.", of whichever store: a record has its number alone. 0 in the record of any other call
unfoldable pub parent_page : State → ℕ → ℕ → ℕ
parent_page s call f = pick (eqb call 5) (pick (occupied s.pool f) (page_in s.pool.records f) 0) 0

-- the bytes of the record: "length is 0 and the data zero", but for link's parent page, p, in bytes 7 and 8; page numbers are little-endian
abbrev pub entry_from : Fields → ℕ → List ℕ
entry_from r p =
    r.call ∷ r.frame.0 ∷ r.page.0 % byte_radix ∷ r.page.0 / byte_radix ∷ r.slot ∷ r.offset ∷ 0
    ∷ p % byte_radix ∷ p / byte_radix ∷ 0 ∷ 0 ∷ 0 ∷ 0 ∷ 0 ∷ 0 ∷ 0 ∷ []

-- the fields on a pool: its F, its N, which is that of each store
abbrev pub drawn_fields : State → Generator → Fields
drawn_fields s g = fields_from s.pool.count s.pool.pages g.number

-- and the bytes that they make there
abbrev pub drawn_entry : State → Generator → List ℕ
drawn_entry s g = let r = drawn_fields s g in entry_from r (parent_page s r.call r.frame.0)

-- refused, nothing is drawn: bytes of 0, and the generator as it was
unfoldable pub refused_draw : Generator → ℕ → Drawn
refused_draw g n = record { refusal = n; entry = replicate 16 0; generator = g }

-- a record is made of a pool, and refused by rules 1 and 2 as any call is
unfoldable pub drawn_out : State → Generator → Drawn
drawn_out s g =
    verdict (first_broken (pool_rules s)) (refused_draw g) (record { refusal = 0; entry = drawn_entry s g; generator = (drawn_fields s g).generator })

-- "Every record lies in its ranges": the bytes b of a record that was drawn on s, by what the call listing reads in them
pub record InRanges (s : State) (b : List ℕ) : Type 0 where
  pub size : length b ≡ 16
  pub call : (1 ≤ call_in b) × (call_in b ≤ 9)
  pub frame : (handle_in b).frame.0 < s.pool.count
  pub page : (page_in_record b).0 < s.pool.pages
  pub slot : slot_in b < slot_count
  pub offset : offset_in b ≤ payload_size
  pub empty : length_in b ≡ 0
  -- link's parent page is a page's number too; the rest of the data is zero, and in every other record all of it
  pub parent : (parent_in b).page.0 < s.pool.pages
  pub rest : bytes_from b 9 7 ≡ replicate 7 0
  pub others : call_in b ≢ 5 → bytes_from b 7 9 ≡ replicate 9 0

-- what the call listing reads in them is what was drawn; its handles are of store 0
pub record ReadBack (s : State) (g : Generator) (b : List ℕ) : Type 0 where
  pub call : call_in b ≡ (drawn_fields s g).call
  pub handle : handle_in b ≡ record { frame = (drawn_fields s g).frame; store = store_number 0; page = (drawn_fields s g).page }
  pub slot : slot_in b ≡ (drawn_fields s g).slot
  pub offset : offset_in b ≡ (drawn_fields s g).offset
  pub parent : parent_in b ≡ record { frame = (drawn_fields s g).frame; store = store_number 0; page = page_number (parent_page s (drawn_fields s g).call (drawn_fields s g).frame.0) }
