-- The fixed figures of pages, frames and records, each named once.
use Rattle.std.specs.Prelude.{ℕ}

-- a page: its bytes, its slots, where its payload starts and how long that is
abbrev pub page_size : ℕ
page_size = 256

abbrev pub slot_count : ℕ
slot_count = 16

abbrev pub payload_start : ℕ
payload_start = 64

abbrev pub payload_size : ℕ
payload_size = 192

-- the largest N
abbrev pub most_pages : ℕ
most_pages = 4096

-- the largest T
abbrev pub most_stores : ℕ
most_stores = 4

-- the least and the largest F
abbrev pub least_frames : ℕ
least_frames = 2

abbrev pub most_frames : ℕ
most_frames = 64

-- how many records the pool holds
abbrev pub record_count : ℕ
record_count = 64

-- a record's largest usage count (heat) and pins
abbrev pub max_usage : ℕ
max_usage = 3

abbrev pub max_pins : ℕ
max_pins = 65535

-- the bytes of a word, the values of a byte and of a word, and bits 31 and 30
abbrev pub word_size : ℕ
word_size = 4

abbrev pub byte_radix : ℕ
byte_radix = 256

abbrev pub word_radix : ℕ
word_radix = 4294967296

abbrev pub swizzle_bit : ℕ
swizzle_bit = 2147483648

abbrev pub lock_bit : ℕ
lock_bit = 1073741824
