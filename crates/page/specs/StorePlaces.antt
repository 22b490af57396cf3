-- Request A.11: "T stores of N pages each, lent one after another as one buffer". Assumes nothing.
use Rattle.std.specs.Prelude.{ℕ, ◌+◌, ◌*◌}

-- the place of page p of store t there, counted in pages
abbrev pub store_place : ℕ → ℕ → ℕ → ℕ
store_place N t p = N * t + p
