-- Records and answers as they are computed, each field: what the theorem leaves free. All other computed cases stand in crate cases. Assumes nothing.
use Rattle.std.specs.Prelude.{◌≡◌, refl, [], ◌∷◌, ◌++◌, map, ℕ, replicate, Some, None, Ok}
use Rattle.machine.specs.Machine.{page_number, frame_index, store_number, root_record, loaded_record, pinned, with_usage, zero_pool}
use Rattle.machine.specs.Answers.{handle, frame, nowhere, fix_answer, find_answer}

-- "with pins 0, heat 0, clean": the root of store 2
pub root-row : root_record 2 ≡ record { used = 1; dirty = 0; usage = 0; slot = 0; parent = frame_index 0; store = store_number 2; pins = 0; page = page_number 0 }
root-row = refl

-- "pins 1, heat 1, clean, its parent recorded": page 7 of store 1, by slot 3 of frame 2
pub loaded-row : loaded_record 1 7 2 3 ≡ record { used = 1; dirty = 0; usage = 1; slot = 3; parent = frame_index 2; store = store_number 1; pins = 1; page = page_number 7 }
loaded-row = refl

-- "gains one pin and one heat (heat stops at 3)"
pub pinned-rows : map (λ (u : ℕ). (pinned (with_usage (loaded_record 1 7 2 3) u)).usage) (0 ∷ 1 ∷ 2 ∷ 3 ∷ []) ≡ (1 ∷ 2 ∷ 3 ∷ 3 ∷ [])
pinned-rows = refl

-- "Refused, it hands back all-zero records": F, N, T, the hand and the ceilings
pub zero_row : (zero_pool.count ∷ zero_pool.pages ∷ zero_pool.stores ∷ zero_pool.hand.0 ∷ []) ++ zero_pool.ceilings ≡ replicate 8 0
unfolding zero_pool
zero_row = refl

-- an answer in code has the values of the definition's: frame 2, page 7 of store 1 after 5 looks; frame 2 after 3 entries, and nowhere after 4
pub answer-values :
    (fix_answer (Ok (record { handle = record { frame = frame_index 2; store = store_number 1; page = page_number 7 }; looks = 5 }))
    ∷ find_answer (Ok (record { frame = Some (frame_index 2); compared = 3 }))
    ∷ find_answer (Ok (record { frame = None; compared = 4 }))
    ∷ [])
    ≡ (handle 2 1 7 5 ∷ frame 2 3 ∷ nowhere 4 ∷ [])
answer-values = refl
