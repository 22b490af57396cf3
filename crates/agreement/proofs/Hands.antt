-- What the pass hands on where records and frames agree: the table of numbers seen tells which pages resident pages name. Assumes nothing.
use Rattle.std.specs.Prelude.{ℕ, ◌+◌, ◌*◌, ◌<◌, ◌≡◌, ◌≢◌, Bool, true, List, []}
use Rattle.std.proofs.Common.{sym, ◌∙◌, ap, arith}
use Rattle.page.specs.Figures.{slot_count, most_pages}
use Rattle.page.specs.Word.{name_of, Number}
use Rattle.page.specs.Page.{name, name-row}
use Rattle.machine.specs.declared.Pool.{Pool}
use Rattle.rules.specs.Tests.{◌or◌}
use Rattle.rules.specs.TestLaws.{case, on, off, same, or_left, or_right, or-second}
use Rattle.machine.specs.Machine.{State, state, page_in, store_in, occupied}
use Rattle.machine.proofs.Laws.AgreementFacts.{occupied-lt, occupied-used, Agreed, facts}
use Rattle.machine.specs.Naming.{named_by_resident}
use Rattle.seen.specs.Among.{among, is_among, among-is}
use Rattle.seen.specs.Seen.{Seen}
use Rattle.seen.specs.SeenLaws.{tells-ext}
use Rattle.residents.specs.Residents.{key_of, Residents, in_table, in_frames}
use Rattle.residents.specs.ResidentLaws.{in-table, table-in, held_of, of-held, by-table}
use Rattle.residents.specs.Handed.{Handed}
use Rattle.agreement.specs.Sizes.{Sizes}
use Rattle.rules.specs.Deciding.{Decides}
use Rattle.agreement.specs.Twice.{keyed, keyed-some, keyed-is, PassedRow}
use Rattle.agreement.specs.Fit.{per_frame, numbers_in_frames, entry, AllLead, UnderCeilings, Settled, Decided}
use Rattle.agreement.specs.FitLaws.{below-low, numbers-page, numbers-word}
use Rattle.agreement.proofs.Same.{nothing, page, loose, stands_at, end-lead}

module _ (p : Pool) (fs : List ℕ) (S : Sizes p.count p.pages p.stores fs) (A : Agreed p fs) (residents : List ℕ) (R : Residents p.records residents)
    (seen : Seen) (P : PassedRow (numbers_in_frames name_of p.records fs p.pages) (per_frame * p.count) seen) where
  abbrev s : State
  s = state p fs [] []

  -- ---- what is in the row of the numbers, of store t

  abbrev in_row : ℕ → ℕ → Bool
  in_row t x = among (numbers_in_frames name_of p.records fs p.pages) (per_frame * p.count) (key_of t x)

  row_at : (i f t y x : ℕ) → i < per_frame * p.count → numbers_in_frames name_of p.records fs p.pages i ≡ keyed (store_in p.records f) y → store_in p.records f ≡ t → y ≡ x → x ≢ 0 → in_row t x ≡ true
  row_at i f t y x l q a e n =
      is_among (numbers_in_frames name_of p.records fs p.pages) (per_frame * p.count) (key_of t x) i l (q ∙ ap (λ (u : ℕ). keyed u y) a ∙ ap (keyed t) e ∙ keyed-some t x n)

  row-page : (f t x : ℕ) → occupied p f ≡ true → store_in p.records f ≡ t → page_in p.records f ≡ x → x ≢ 0 → in_row t x ≡ true
  row-page f t x o a e n = row_at (per_frame * f) f t _ x (omega (arith, occupied-lt p f o)) (numbers-page name_of p.records fs p.pages f (occupied-used p f o)) a e n

  row_word : (f k t x : ℕ) → occupied p f ≡ true → k < slot_count → store_in p.records f ≡ t → name fs f k ≡ x → Number x → x ≢ 0 → in_row t x ≡ true
  row_word f k t x o h a e l n =
      let b : name fs f k < p.pages = A.below f k o h (omega arith) (λ z. n (sym e ∙ z)) in
      row_at (per_frame * f + (1 + k)) f t _ x (omega (arith, occupied-lt p f o)) (numbers-word name_of p.records fs p.pages f k h (occupied-used p f o)) a (below-low _ _ b ∙ e) n

  -- ---- and what is named

  module _ (t x : ℕ) (positive : 0 < x) (number : x < most_pages) where
    by : named_by_resident s t x ≡ (in_table residents t x or in_frames residents fs p.count t x)
    by = by-table s S.most S.one A residents R t x positive number

    -- a number of frame f's store
    told : (f y : ℕ) → y < p.pages → keyed (store_in p.records f) y ≡ key_of t x → (store_in p.records f ≡ t) × (y ≡ x)
    told f y l e = keyed-is _ y t x (omega (arith, S.pages)) number e (λ z. omega arith)

    row_named : in_row t x ≡ true → named_by_resident s t x ≡ true
    row_named i =
        let r = among-is (numbers_in_frames name_of p.records fs p.pages) (per_frame * p.count) (key_of t x) i in
        let e : numbers_in_frames name_of p.records fs p.pages r.0 ≡ key_of t x = r.2 in
        by ∙ elim (stands_at p fs S A r.0 r.1) [
          | nothing z ↦ absurd (omega arith)
          | page f o m q ↦
              let b = told f _ (A.in_range f (omega (arith, occupied-lt p f o, S.most))).page (sym q ∙ e) in
              or_left _ (in-table s S.most S.one A residents R f t x o b.0 b.1)
          | loose f k o h m b n q ↦
              let c = told f _ (A.below f k o h b n) (sym q ∙ e) in
              or_right (in_table residents t x) (of-held s S.most S.one A residents R t x (record { frame = f; slot = k; at = o; store = c.0; in_page = h; word = sym (name-row fs f k) ∙ c.1 }))
        ]

    named-row : named_by_resident s t x ≡ true → in_row t x ≡ true
    named-row n = elim (case (in_table residents t x)) [
      | on i ↦ let g = table-in s S.most S.one A residents R t x number i in row-page g.0 t x g.1 g.2 g.3 (λ z. omega arith)
      | off i ↦
          let h = held_of s S.most S.one A residents R t x (or-second (in_table residents t x) _ (sym by ∙ n) i) in
          row_word h.frame h.slot t x h.at h.in_page h.store (name-row _ _ _ ∙ h.word) (omega arith) (λ z. omega arith)
    ]

  handed : Handed p fs residents seen
  handed = record { held = R; named = λ t l. tells-ext t seen _ _ (P.tells t l) (λ x a b. same _ _ (row_named t x a b) (named-row t x a b)) }

-- the last test gives the answer
pub end-all : (p : Pool) (fs : List ℕ) (S : Sizes p.count p.pages p.stores fs) (seen : Seen) (t residents : List ℕ) → Settled p.records fs p.count p.pages p.stores seen t residents
    → UnderCeilings residents p.count p.stores p.ceilings → (h : ℕ) → h ≡ p.hand.0 → h < p.count → (r : Bool) → Decides r (AllLead (entry t) p.count) → Decided p fs residents seen r
end-all p fs S seen t residents Z under h q l r d =
    let a = end-lead p fs S seen t residents Z under h q l r d in
    (a, λ z. handed p fs S (facts p fs (sym a ∙ z)) residents Z.held seen Z.passed)
